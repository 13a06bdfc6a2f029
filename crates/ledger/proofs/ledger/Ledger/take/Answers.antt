use Rattle.std.proofs.Common.{rules}
use Rattle.ledger.specs.View.{state}
use Rattle.ledger.proofs.Hands.{taking, keeps, opened}
use Rattle.ledger.proofs.ledger.Ledger.take.Goals as goal

pub open_beside-requires-clause-keeps : goal.open_beside-requires-clause-keeps
open_beside-requires-clause-keeps g c = λ spot s b first second p. keeps (taking (state g.B.Allocator.meaning c.args.self.now c.args.region.now) c.args.h.handle c.args.h.mutable) spot s b first second (search rules)

pub returns : goal.returns
returns g c = opened (taking (state g.B.Allocator.meaning c.args.self.now c.args.region.now) c.args.h.handle c.args.h.mutable) _ _ _ c.open_beside.ensures (λ spot s b first second p. search rules)
