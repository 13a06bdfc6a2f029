-- What holds of a store between calls, whatever bytes its region holds: its lines over the plain parts of what its allocator means.
use Rattle.std.specs.Prelude.{◌≡◌, ℕ, ◌+◌, ◌*◌, ◌%◌, ◌≤◌, Bool, true, false, List, length, Some, None, Option, ◌≢◌}
use Rattle.allocation.specs.declared.block.Block.{Block}
use Rattle.allocation.specs.Alignments.{IsAlignment}
use Rattle.allocation.specs.Meaning.{Among, Meaning, end_of}
use Rattle.model.specs.declared.line.Line.{Line}
use Rattle.model.specs.Book.{State, block_of, line_limit, serial_limit, serial_of}
use Rattle.model.specs.Keyed.{All, Rising, find}
use Rattle.model.specs.Kinds.{SoundKind}

-- an allocator's meaning without its two rules
pub record Plain : Type 0 where
  pub base : ℕ
  pub extent : ℕ
  pub room : ℕ
  pub copies : Bool
  pub live : List Block

-- the plain parts of a meaning
abbrev pub plain_of : Meaning → Plain
plain_of m = record { base = m.base; extent = m.extent; room = m.room; copies = m.copies; live = m.live }

-- where elements stand: nowhere without a block, else inside it, room for more included
abbrev pub Sits : ℕ → Line → Option Block → Type 0
Sits base l None = (l.len ≡ 0) × (l.capacity ≡ 0)
Sits base l (Some b) =
    (base + b.place ≤ l.start)
    × (l.start + l.len * l.kind.width ≤ base + end_of b)
    × (l.start + l.capacity * l.kind.width ≤ base + end_of b)

-- a line's numbers
pub record KeptLine (l : Line) : Type 0 where
  pub serial : 1 ≤ l.serial
  pub kind : SoundKind l.kind
  pub alignment : IsAlignment l.claim
  pub start : l.start % l.claim ≡ 0
  pub align : l.kind.align ≤ l.claim
  pub shared : l.mutable ≡ false → l.capacity ≡ 0

-- serials are counted from 1, and lines are few
pub record Counted (next : ℕ) (ls : List Line) : Type 0 where
  pub begun : 1 ≤ next
  pub unspent : next ≤ serial_limit
  pub few : length ls ≤ line_limit

-- a line's elements in the region
pub record Stands (base : ℕ) (l : Line) : Type 0 where
  pub wide : 1 ≤ l.kind.width
  pub claims : 1 ≤ l.claim
  pub within : l.mutable ≡ true → l.len ≤ l.capacity
  pub sits : Sits base l (block_of l.backing)

-- The invariant. Serials rise; every block that a line is on is live, and every live block has a line on it; a mutable line is alone on its block.
pub record Sure (next : ℕ) (ls : List Line) (p : Plain) : Type 0 where
  pub order : Rising serial_of 0 next ls
  pub counted : Counted next ls
  pub each : All KeptLine ls
  pub stands : (s : ℕ) (l : Line) → find serial_of s ls ≡ Some l → Stands p.base l
  pub held : (s : ℕ) (l : Line) (b : Block) → find serial_of s ls ≡ Some l → block_of l.backing ≡ Some b → Among b p.live
  pub used : (b : Block) → Among b p.live → (t : ℕ) × (m : Line) × (find serial_of t ls ≡ Some m) × (block_of m.backing ≡ Some b)
  pub alone : (s t : ℕ) (l m : Line) (b : Block) → (t ≢ s) → find serial_of s ls ≡ Some l → find serial_of t ls ≡ Some m → block_of l.backing ≡ Some b → block_of m.backing ≡ Some b → l.mutable ≡ false

-- of a state
abbrev pub SureOf : State → Type 0
SureOf st = Sure st.next st.lines (plain_of st.meaning)
