use Rattle.std.proofs.Common.{◌≡◌, None, rules}
use Rattle.model.specs.Book.{State}
use Rattle.model.specs.Checks.{refusal}
use Rattle.ledger.specs.Entry.{region_check}
use Rattle.ledger.specs.View.{state}
use Rattle.ledger.proofs.Groups.{long_by}
use Rattle.ledger.proofs.Ties.{readied}
use Rattle.ledger.proofs.ledger.Ledger.knows_region.Goals as goal

pub returns : goal.returns
returns g c =
    let st : State = state g.B.Allocator.meaning c.args.self.now c.args.region.now in
    let e : refusal (region_check st) ≡ None = search rules in
    (e, readied st (g.met.B.Allocator.lawful c.args.self.now.allocator) (long_by st e) (record { sure = c.args.self.now.sure; limits = c.args.self.now.limits }))
