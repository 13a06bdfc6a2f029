-- The one block that may be live, as a list, and where it may stand.
use Rattle.std.specs.Prelude.{ℕ, ◌+◌, ◌-◌, ◌%◌, Bool, true, ◌&&◌, List, [], ◌∷◌, Some, None, Option, ◌==◌, nat_le, nat_lt}
use Rattle.allocation.specs.declared.block.Block.{Block}
use Rattle.allocation.specs.Meaning.{end_of}

abbrev pub blocks : Option Block → List Block
blocks None = []
blocks (Some b) = b ∷ []

-- does a block hold a byte, lie in a region of n bytes, and start at a multiple of its alignment?
abbrev pub inside : ℕ → ℕ → Block → Bool
inside base n b = nat_lt 0 b.size && (nat_le (end_of b) n && (base + b.place) % b.align == 0)

abbrev pub sits : ℕ → ℕ → Option Block → Bool
sits base n None = true
sits base n (Some b) = inside base n b

-- the lowest place whose address is a multiple of the alignment
abbrev pub first_place : ℕ → ℕ → ℕ
first_place base a = (a - base % a) % a
