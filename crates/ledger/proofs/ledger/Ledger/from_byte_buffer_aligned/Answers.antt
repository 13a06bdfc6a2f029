use Rattle.std.proofs.Common.{rules}
use Rattle.ledger.specs.View.{state}
use Rattle.ledger.proofs.Changes.{from_bytes, keeps, changed}
use Rattle.ledger.proofs.ledger.Ledger.from_byte_buffer_aligned.Goals as goal

pub edit-requires-clause-keeps : goal.edit-requires-clause-keeps
edit-requires-clause-keeps g c = λ spot a new p. keeps (from_bytes (state g.B.Allocator.meaning c.args.self.now c.args.region.now) c.args.h c.args.kind c.args.claim c.requires.bytes c.requires.fair) spot a new (search rules)

pub returns : goal.returns
returns g c = changed (from_bytes (state g.B.Allocator.meaning c.args.self.now c.args.region.now) c.args.h c.args.kind c.args.claim c.requires.bytes c.requires.fair) _ _ _ c.edit.ensures (λ spot a new p. search rules) (λ spot a f p. search rules)
