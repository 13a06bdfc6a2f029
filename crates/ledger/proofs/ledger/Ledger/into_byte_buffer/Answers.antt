use Rattle.std.proofs.Common.{rules}
use Rattle.ledger.specs.View.{state}
use Rattle.ledger.proofs.Changes.{into_bytes, keeps, changed}
use Rattle.ledger.proofs.LineEdits.{bytes_fit}
use Rattle.ledger.proofs.ledger.Ledger.into_byte_buffer.Goals as goal

pub edit-requires-clause-asks : goal.edit-requires-clause-asks
edit-requires-clause-asks g c = λ spot a. search (rules, bytes_fit (state g.B.Allocator.meaning c.args.self.now c.args.region.now) c.args.h spot a)

pub edit-requires-clause-keeps : goal.edit-requires-clause-keeps
edit-requires-clause-keeps g c = λ spot a new p. keeps (into_bytes (state g.B.Allocator.meaning c.args.self.now c.args.region.now) c.args.h) spot a new (search rules)

pub returns : goal.returns
returns g c = changed (into_bytes (state g.B.Allocator.meaning c.args.self.now c.args.region.now) c.args.h) _ _ _ c.edit.ensures (λ spot a new p. search rules) (λ spot a f p. search rules)
