-- What an allocator means, the laws of that meaning, and what each operation makes of it.
use Rattle.std.specs.Prelude.{◌≡◌, ℕ, ◌+◌, ◌-◌, ◌%◌, ◌≤◌, Bool, true, ◌⊎◌, ◌↔◌, List, [], ◌∷◌, ◌≢◌}
use Rattle.region.specs.Bytes.{part, Outside}
use Rattle.allocation.specs.Alignments.{IsAlignment, round_up, greatest_size}
use Rattle.allocation.specs.declared.block.Block.{Block}
use Rattle.allocation.specs.declared.block.Request.{Request}

-- An allocator's meaning: the address and the length of its region, its room, its copying mark, its live blocks,
-- and two rules on what it now holds: which requests it grants, and to which it lets a live block grow.
pub record Meaning : Type 0 where
  pub base : ℕ
  pub extent : ℕ
  pub room : ℕ
  pub copies : Bool
  pub live : List Block
  pub grants : Request → Bool
  pub grows : Block → Request → Bool

-- a block is one of these
unfoldable pub Among : Block → List Block → Type 0
Among b [] = ⊥
Among b (c ∷ cs) = (c ≡ b) ⊎ Among b cs

-- a request that a layout can make: an alignment, and a size that stays within the limit when it is rounded up
abbrev pub Valid : Request → Type 0
Valid r = IsAlignment r.align × (round_up r.size r.align ≤ greatest_size)

-- the first byte behind a block
abbrev pub end_of : Block → ℕ
end_of b = b.place + b.size

-- two blocks share no byte
abbrev pub Apart : Block → Block → Type 0
Apart b c = (end_of b ≤ c.place) ⊎ (end_of c ≤ b.place)

-- What every allocator owes. Live blocks hold at least a byte, lie in the region, start at multiples of their alignment and do not overlap.
-- first: with no live block it grants whatever its room can hold, wherever the region's base falls.
-- growth: a block grows wherever a new block of that request would be granted.
pub record Lawful (m : Meaning) : Type 0 where
  pub roomy : 1024 ≤ m.room
  pub filled : (b : Block) → Among b m.live → 1 ≤ b.size
  pub within : (b : Block) → Among b m.live → end_of b ≤ m.extent
  pub aligned : (b : Block) → Among b m.live → (m.base + b.place) % b.align ≡ 0
  pub apart : (b c : Block) → Among b m.live → Among c m.live → (b ≢ c) → Apart b c
  pub first : ((b : Block) → Among b m.live → ⊥) → (r : Request) → Valid r → 1 ≤ r.size → r.size + r.align - 1 ≤ m.room → m.grants r ≡ true
  pub growth : (b : Block) (r : Request) → Among b m.live → Valid r → b.size ≤ r.size → m.grants r ≡ true → m.grows b r ≡ true

-- what no operation changes
pub record Fixed (m m' : Meaning) : Type 0 where
  pub base : m'.base ≡ m.base
  pub extent : m'.extent ≡ m.extent
  pub room : m'.room ≡ m.room
  pub copies : m'.copies ≡ m.copies

-- a block of exactly the request is added
pub record Allocates (m : Meaning) (r : Request) (b : Block) (m' : Meaning) : Type 0 where
  pub fixed : Fixed m m'
  pub lawful : Lawful m'
  pub size : b.size ≡ r.size
  pub align : b.align ≡ r.align
  pub new : Among b m.live → ⊥
  pub live : (c : Block) → Among c m'.live ↔ ((c ≡ b) ⊎ Among c m.live)

-- a block is removed
pub record Frees (m : Meaning) (b : Block) (m' : Meaning) : Type 0 where
  pub fixed : Fixed m m'
  pub lawful : Lawful m'
  pub live : (c : Block) → Among c m'.live ↔ (Among c m.live × (c ≢ b))

-- the block b is replaced by b' of exactly the request; its first bytes are the old block's, and only bytes of b' are written
pub record Grows (m : Meaning) (b : Block) (r : Request) (b' : Block) (m' : Meaning) (before after : List ℕ) : Type 0 where
  pub fixed : Fixed m m'
  pub lawful : Lawful m'
  pub size : b'.size ≡ r.size
  pub align : b'.align ≡ r.align
  pub new : Among b' m.live → b' ≡ b
  pub live : (c : Block) → Among c m'.live ↔ ((c ≡ b') ⊎ (Among c m.live × (c ≢ b)))
  pub kept : part b'.place b.size after ≡ part b.place b.size before
  pub outside : Outside b'.place b'.size before after
