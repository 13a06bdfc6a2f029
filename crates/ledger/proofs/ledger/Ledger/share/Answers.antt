use Rattle.std.proofs.Common.{rules}
use Rattle.ledger.specs.View.{state}
use Rattle.ledger.proofs.Hands.{sharing, keeps, opened}
use Rattle.ledger.proofs.ledger.Ledger.share.Goals as goal

pub open_beside-requires-clause-keeps : goal.open_beside-requires-clause-keeps
open_beside-requires-clause-keeps g c = λ spot s b first second p. keeps (sharing (state g.B.Allocator.meaning c.args.self.now c.args.region.now) c.args.h.handle c.args.h.shared) spot s b first second (search rules)

pub returns : goal.returns
returns g c = opened (sharing (state g.B.Allocator.meaning c.args.self.now c.args.region.now) c.args.h.handle c.args.h.shared) _ _ _ c.open_beside.ensures (λ spot s b first second p. search rules)
