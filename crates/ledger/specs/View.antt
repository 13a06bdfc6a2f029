-- A ledger and the bytes of its region as a state.
use Rattle.std.specs.Prelude.{ℕ, List, []}
use Rattle.allocation.specs.Meaning.{Meaning}
use Rattle.allocation.specs.declared.allocation.Allocator as allocator
use Rattle.book.specs.Held.{lines_of}
use Rattle.model.specs.Book.{State}
use Rattle.ledger.specs.declared.ledger.Ledger.{Ledger}

-- a new store: no handle, and the first serial comes next
abbrev pub opened : ℕ → Meaning → List ℕ → State
opened number meaning bytes = record { number = number; next = 1; lines = []; meaning = meaning; bytes = bytes }

module _ {B : Type 0} {g : allocator.Ghosts B} where
  abbrev pub state : (B → Meaning) → Ledger B g → List ℕ → State
  state meaning s bytes = record { number = s.number; next = s.register.next; lines = lines_of s.register.book; meaning = meaning s.allocator; bytes = bytes }
