-- A store and the bytes of its region as a state of the definitions.
use Rattle.std.specs.Prelude.{ℕ, List}
use Rattle.allocation.specs.declared.allocation.Allocator.{Ghosts as Allocator}
use Rattle.ledger.specs.View.{state as ledger_state}
use Rattle.model.specs.Book.{State}
use Rattle.buffer.specs.declared.store.Store.{Store}

module _ {B : Type 0} where
  abbrev pub state : (a : Allocator B) → Store B a → List ℕ → State
  state a s bytes = ledger_state a.meaning s.ledger bytes
