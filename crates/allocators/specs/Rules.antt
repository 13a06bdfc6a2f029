-- The rules of General and Shelf in words: theorems about what they mean, which `theorems.rt` names.
use Rattle.std.specs.Prelude.{◌≡◌, ℕ, ◌+◌, ◌%◌, ◌<◌, ◌≤◌, true, ◌⊎◌, ◌↔◌, List, length}
use Rattle.allocation.specs.declared.block.Block.{Block}
use Rattle.allocation.specs.declared.block.Request.{Request}
use Rattle.allocation.specs.Meaning.{Meaning, Among, end_of}
use Rattle.allocators.specs.Fitting.{Fits, Lowest, highest_end}
use Rattle.allocators.specs.Placings.{general_meaning, shelf_meaning}

-- A request is granted exactly where a line is free and some place at or above a start fits. Where it is granted there is a lowest such place, and only one.
pub record Granting (m : Meaning) (start : ℕ) (r : Request) : Type 0 where
  pub granted : (m.grants r ≡ true) ↔ ((length m.live < 64) × ((p : ℕ) × (start ≤ p) × Fits m.base m.extent m.live r p))
  pub lowest : m.grants r ≡ true → (p : ℕ) × Lowest m.base m.extent m.live start r p
  pub one : (p q : ℕ) → Lowest m.base m.extent m.live start r p → Lowest m.base m.extent m.live start r q → p ≡ q

-- General: from place 0 on. A live block grows to a request of at least its size exactly where that is granted.
abbrev pub GeneralRule : Type 0
GeneralRule =
    (base n : ℕ) (live : List Block) (b : Block) (r : Request) → Granting (general_meaning base n live) 0 r
    × (((general_meaning base n live).grows b r ≡ true) ↔ (Among b live × (b.size ≤ r.size) × ((general_meaning base n live).grants r ≡ true)))

-- No block ends above the start, and it is a block's end, or 0 without a block.
pub record Highest (live : List Block) (top : ℕ) : Type 0 where
  pub above : (c : Block) → Among c live → end_of c ≤ top
  pub reached : (c : Block) → Among c live → (d : Block) × Among d live × (end_of d ≡ top)
  pub bottom : ((c : Block) → Among c live → ⊥) → top ≡ 0

-- the block is the highest, and region and alignment allow the request where it stands
pub record Stays (base n : ℕ) (live : List Block) (b : Block) (r : Request) : Type 0 where
  pub highest : end_of b ≡ highest_end live
  pub filled : 1 ≤ r.size
  pub within : b.place + r.size ≤ n
  pub aligned : (base + b.place) % r.align ≡ 0

-- Shelf: from the end of the highest block on. A live block grows to a request of at least its size exactly where it can stay or that is granted.
abbrev pub ShelfRule : Type 0
ShelfRule =
    (base n : ℕ) (live : List Block) (b : Block) (r : Request) → Highest live (highest_end live)
    × Granting (shelf_meaning base n live) (highest_end live) r
    × (((shelf_meaning base n live).grows b r ≡ true) ↔ (Among b live × (b.size ≤ r.size) × (Stays base n live b r ⊎ ((shelf_meaning base n live).grants r ≡ true))))
