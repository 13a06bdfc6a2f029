-- Where a block fits between the live blocks of a region.
use Rattle.std.specs.Prelude.{◌≡◌, ℕ, zero, suc, ◌+◌, ◌%◌, ◌≤◌, max, Bool, true, false, ◌&&◌, ◌||◌, List, [], ◌∷◌, length, ◌==◌, nat_le, nat_lt}
use Rattle.std.specs.List.{list_all}
use Rattle.allocation.specs.declared.block.Block.{Block}
use Rattle.allocation.specs.declared.block.Request.{Request}
use Rattle.allocation.specs.Faults.{block_at}
use Rattle.allocation.specs.Meaning.{Among, Apart, end_of}

-- do two blocks share no byte?
abbrev pub clear : Block → Block → Bool
clear b c = nat_le (end_of b) c.place || nat_le (end_of c) b.place

-- does a block hold a byte, lie in a region of n bytes, and start at a multiple of its alignment?
abbrev pub lies : ℕ → ℕ → Block → Bool
lies base n b = (nat_lt 0 b.size && nat_le (end_of b) n) && (base + b.place) % b.align == 0

abbrev pub clear_of : Block → List Block → Bool
clear_of b = list_all (λ c. clear b c)

-- does each block lie in the region, and do no two share a byte?
abbrev pub sound : ℕ → ℕ → List Block → Bool
sound base n [] = true
sound base n (b ∷ bs) = (lies base n b && clear_of b bs) && sound base n bs

-- does a block of the request fit at place p between the live ones?
abbrev pub fits : ℕ → ℕ → List Block → Request → ℕ → Bool
fits base n live r p = lies base n (block_at p r) && clear_of (block_at p r) live

-- the same in words: `Granting` of specs/Rules says where the test finds such a place
pub record Fits (base n : ℕ) (live : List Block) (r : Request) (p : ℕ) : Type 0 where
  pub filled : 1 ≤ r.size
  pub within : p + r.size ≤ n
  pub aligned : (base + p) % r.align ≡ 0
  pub apart : (c : Block) → Among c live → Apart (block_at p r) c

-- p is the lowest place at or above a start where a block of the request fits
pub record Lowest (base n : ℕ) (live : List Block) (start : ℕ) (r : Request) (p : ℕ) : Type 0 where
  pub above : start ≤ p
  pub fitting : Fits base n live r p
  pub least : (q : ℕ) → start ≤ q → Fits base n live r q → p ≤ q

-- the end of the highest block, or 0
abbrev pub highest_end : List Block → ℕ
highest_end [] = 0
highest_end (b ∷ bs) = max (end_of b) (highest_end bs)

-- does a test hold of some number below n?
abbrev pub some_below : (ℕ → Bool) → ℕ → Bool
some_below t zero = false
some_below t (suc k) = t k || some_below t k

-- is one of the 64 lines free, and does some place at or above a start fit?
abbrev pub grants_from : ℕ → ℕ → List Block → ℕ → Request → Bool
grants_from base n live start r = nat_lt (length live) 64 && some_below (λ p. nat_le start p && fits base n live r p) n
