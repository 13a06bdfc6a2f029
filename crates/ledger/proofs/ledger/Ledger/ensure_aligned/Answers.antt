use Rattle.std.proofs.Common.{rules}
use Rattle.allocation.specs.Asked.{bytes_of}
use Rattle.ledger.specs.View.{state}
use Rattle.ledger.proofs.Changes.{aligning, keeps, changed}
use Rattle.ledger.proofs.Slices.{fair}
use Rattle.ledger.proofs.ledger.Ledger.ensure_aligned.Goals as goal

pub edit-requires-clause-keeps : goal.edit-requires-clause-keeps
edit-requires-clause-keeps g c = λ spot a new p. keeps (aligning (state g.B.Allocator.meaning c.args.self.now c.args.region.now) c.args.h.handle (bytes_of c.args.claim) c.args.h.shared (fair c.args.claim)) spot a new (search rules)

pub returns : goal.returns
returns g c = changed (aligning (state g.B.Allocator.meaning c.args.self.now c.args.region.now) c.args.h.handle (bytes_of c.args.claim) c.args.h.shared (fair c.args.claim)) _ _ _ c.edit.ensures (λ spot a new p. search rules) (λ spot a f p. search rules)
