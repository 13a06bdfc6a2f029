-- What the code's numbers must leave room for, and states of which only two numbers count.
use Rattle.std.specs.Prelude.{ℕ, ◌+◌, ◌-◌, ◌^◌, ◌<◌, ◌≤◌, false, [], Some, None, Option, refl}
use native.Mathlib.Nat.{ℕ_set}
use Rattle.std.specs.Coded.{le_prop}
use Rattle.allocation.specs.Alignments.{round_up}
use Rattle.allocation.specs.declared.block.Block.{Block}
use Rattle.model.specs.Book.{State}
use Rattle.model.specs.Invariant.{Sits}
use Rattle.model.specs.declared.line.Line.{Line}

-- a block that was got holds an alignment of m, and its start can be rounded up to m within 64 bits
abbrev pub Spaced : ℕ → ℕ → Option Block → Type 0
Spaced base m None = Unit {0}
Spaced base m (Some b) = (1 ≤ m) × (m ≤ b.size) × (base + b.place + m < 2 ^ 64)

-- there is one way to be spaced
pub Spaced-prop : (base m : ℕ) (got : Option Block) → IsProp (Spaced base m got)
Spaced-prop base m None u v = refl
Spaced-prop base m (Some b) u v = λ i. (le_prop u.0 v.0 i, le_prop u.1 v.1 i, le_prop u.2 v.2 i)

-- there is one way to sit
pub Sits-prop : (base : ℕ) (l : Line) (o : Option Block) → IsProp (Sits base l o)
Sits-prop base l None u v = λ i. (ℕ_set l.len 0 u.0 v.0 i, ℕ_set l.capacity 0 u.1 v.1 i)
Sits-prop base l (Some b) u v = λ i. (le_prop u.0 v.0 i, le_prop u.1 v.1 i, le_prop u.2 v.2 i)

-- where elements start in the region, in a block that was got
abbrev pub place_in : ℕ → ℕ → Option Block → Option ℕ
place_in base m None = None
place_in base m (Some b) = Some (round_up (base + b.place) m - base)

-- a new line depends on a state by its next serial and its base alone
abbrev pub state_with : ℕ → ℕ → State
state_with next base =
    record { number = 0; next = next; lines = []; meaning = record { base = base; extent = 0; room = 0; copies = false; live = []; grants = λ r. false; grows = λ b r. false }; bytes = [] }
