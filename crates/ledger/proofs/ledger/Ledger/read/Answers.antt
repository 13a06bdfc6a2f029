use Rattle.std.proofs.Common.{refl}
use Rattle.model.specs.Calls.{Read}
use Rattle.model.specs.Book.{State}
use Rattle.ledger.specs.View.{state}
use Rattle.ledger.proofs.Edits.{is_line}
use Rattle.ledger.proofs.Groups.{granted_reading, used}
use Rattle.ledger.proofs.ledger.Ledger.read.Goals as goal

pub returns : goal.returns
returns g c =
    let st : State = state g.B.Allocator.meaning c.args.self.now c.args.region.now in
    (granted_reading st c.args.h (used st c.args.h (Read c.args.h) refl c.in_ok-spot.ensures.passed), is_line st c.args.h c.in_ok-spot.spot c.in_ok-spot.ensures)
