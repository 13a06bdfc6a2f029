use Rattle.std.proofs.Common.{rules}
use Rattle.ledger.specs.View.{state}
use Rattle.ledger.proofs.Changes.{freezing, keeps, changed}
use Rattle.ledger.proofs.ledger.Ledger.freeze.Goals as goal

pub edit-requires-clause-keeps : goal.edit-requires-clause-keeps
edit-requires-clause-keeps g c = λ spot a new p. keeps (freezing (state g.B.Allocator.meaning c.args.self.now c.args.region.now) c.args.h.handle c.args.h.mutable) spot a new (search rules)

pub returns : goal.returns
returns g c = changed (freezing (state g.B.Allocator.meaning c.args.self.now c.args.region.now) c.args.h.handle c.args.h.mutable) _ _ _ c.edit.ensures (λ spot a new p. search rules) (λ spot a f p. search rules)
