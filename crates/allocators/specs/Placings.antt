-- What General and Shelf mean, each by its base, its region's length and its live blocks.
use Rattle.std.specs.Prelude.{◌≡◌, ℕ, ◌^◌, ◌≤◌, Bool, true, false, ◌&&◌, ◌||◌, List, [], ◌==◌, nat_le}
use Rattle.allocation.specs.declared.block.Block.{Block}
use Rattle.allocation.specs.declared.block.Request.{Request}
use Rattle.allocation.specs.Faults.{block_at, is_among}
use Rattle.allocation.specs.Meaning.{Meaning, Among, end_of}
use Rattle.allocators.specs.Fitting.{grants_from, lies, clear_of, sound, highest_end, Lowest}
use Rattle.allocators.specs.Tables.{without}

-- the base and the length that a region may have
pub record Limits (base n : ℕ) : Type 0 where
  pub low : 1 ≤ base
  pub high : base ≤ 2 ^ 47
  pub long : 1024 ≤ n
  pub short : n ≤ 2 ^ 32

-- is the block live, and the request no smaller?
abbrev pub may_grow : List Block → Block → Request → Bool
may_grow live b r = is_among b live && nat_le b.size r.size

-- General grants where a line is free and some place fits. A live block grows, moving, exactly where the new one would be granted.
abbrev pub general_meaning : ℕ → ℕ → List Block → Meaning
general_meaning at n blocks =
    record {
      base = at;
      extent = n;
      room = n;
      copies = true;
      live = blocks;
      grants = grants_from at n blocks 0;
      grows = λ b r. may_grow blocks b r && grants_from at n blocks 0 r;
    }

-- can the block have the request where it stands: is it the highest, and do region and alignment allow it?
abbrev pub stays : ℕ → ℕ → List Block → Block → Request → Bool
stays base n live b r = end_of b == highest_end live && lies base n (block_at b.place r)

-- Shelf grants where a line is free and some place at or above the end of the highest block fits.
-- A live block grows where it can stay, and else, moving, exactly where the new one would be granted.
abbrev pub shelf_meaning : ℕ → ℕ → List Block → Meaning
shelf_meaning at n blocks =
    record {
      base = at;
      extent = n;
      room = n;
      copies = false;
      live = blocks;
      grants = grants_from at n blocks (highest_end blocks);
      grows = λ b r. may_grow blocks b r && (stays at n blocks b r || grants_from at n blocks (highest_end blocks) r);
    }

-- A way to choose places: whether a buffer takes a new block and copies, the lowest place that may be taken beside the live blocks,
-- and whether a block of a region can have a request where it stands.
pub record Placing : Type 0 where
  pub copying : Bool
  pub start : List Block → ℕ
  pub staying : ℕ → ℕ → List Block → Block → Request → Bool

-- the block d can stand where b is taken out
pub record Free (base n : ℕ) (live : List Block) (b d : Block) : Type 0 where
  pub inside : lies base n d ≡ true
  pub clear : clear_of d (without live b) ≡ true

-- What a way to choose places owes: beside no block every place may be taken, and what stays has room where it stands.
pub record Fair (k : Placing) : Type 0 where
  pub bottom : k.start [] ≡ 0
  pub room : (base n : ℕ) (live : List Block) → sound base n live ≡ true → (b : Block) (r : Request) → Among b live → k.staying base n live b r ≡ true → Free base n live b (block_at b.place r)

-- any place that fits; a growth always moves
abbrev pub lowest : Placing
lowest = record { copying = true; start = λ live. 0; staying = λ base n live b r. false }

-- only places at or above the end of the highest block, which itself grows where it stands
abbrev pub above_highest : Placing
above_highest = record { copying = false; start = highest_end; staying = stays }

-- what an allocator means that chooses its places so: `general_meaning` at lowest, `shelf_meaning` at above_highest
abbrev pub meaning_by : Placing → ℕ → ℕ → List Block → Meaning
meaning_by k at n blocks =
    record {
      base = at;
      extent = n;
      room = n;
      copies = k.copying;
      live = blocks;
      grants = grants_from at n blocks (k.start blocks);
      grows = λ b r. may_grow blocks b r && (k.staying at n blocks b r || grants_from at n blocks (k.start blocks) r);
    }

-- the place of a block that was grown: its own where it can stay, else the lowest that may be taken
pub record Regrown (k : Placing) (base n : ℕ) (live : List Block) (b : Block) (r : Request) (p : ℕ) : Type 0 where
  pub stayed : k.staying base n live b r ≡ true → p ≡ b.place
  pub moved : k.staying base n live b r ≡ false → Lowest base n live (k.start live) r p

-- the same of Shelf: the lowest at or above the highest block
abbrev pub Shelved : ℕ → ℕ → List Block → Block → Request → ℕ → Type 0
Shelved base n live b r p = Regrown above_highest base n live b r p
