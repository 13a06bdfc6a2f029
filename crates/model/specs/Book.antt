-- The state of a store: its number, its serials, its lines, what its allocator means, and the region's bytes.
use Rattle.std.specs.Prelude.{ℕ, ◌-◌, ◌*◌, ◌^◌, Bool, true, false, cond, List, [], Some, None, Option, ◌==◌}
use Rattle.region.specs.Bytes.{part}
use Rattle.allocation.specs.declared.block.Block.{Block}
use Rattle.allocation.specs.Faults.{same_block}
use Rattle.allocation.specs.Meaning.{Meaning}
use Rattle.model.specs.declared.line.Backing.{Backing}
use Rattle.model.specs.declared.line.Backing.TheVariants.{Empty, Owned, Unbacked}
use Rattle.model.specs.declared.line.Handle.{Handle}
use Rattle.model.specs.declared.line.Line.{Line}
use Rattle.model.specs.Keyed.{any_other, find}
use Rattle.model.specs.Kinds.{byte}

-- how many handles may be live at once
abbrev pub line_limit : ℕ
line_limit = 64

-- serials lie below this
abbrev pub serial_limit : ℕ
serial_limit = 2 ^ 32

-- lines stand oldest first; `next` is the serial that the next new handle gets
pub record State : Type 0 where
  pub number : ℕ
  pub next : ℕ
  pub lines : List Line
  pub meaning : Meaning
  pub bytes : List ℕ

-- the block of a backing
unfoldable pub block_of : Backing → Option Block
block_of Unbacked = None
block_of (Empty n) = None
block_of (Owned b) = Some b

-- how many bytes of a block elements may use
abbrev pub usable : Block → ℕ
usable b = b.size

-- are there two numbers, and are they equal?
abbrev pub same_number : Option ℕ → Option ℕ → Bool
same_number None n = false
same_number (Some m) None = false
same_number (Some m) (Some n) = m == n

-- are two handles with these backings on one backing?
abbrev pub one_backing : Backing → Backing → Bool
one_backing Unbacked c = false
one_backing (Empty m) Unbacked = false
one_backing (Empty m) (Empty n) = same_number m n
one_backing (Empty m) (Owned c) = false
one_backing (Owned b) Unbacked = false
one_backing (Owned b) (Empty n) = false
one_backing (Owned b) (Owned c) = same_block b c

-- the key of a line
abbrev pub serial_of : Line → ℕ
serial_of l = l.serial

-- the line of a serial
abbrev pub look_up : ℕ → State → Option Line
look_up s st = find serial_of s st.lines

-- stands for a line that is not there: no granted call reads it
unfoldable pub blank : Line
blank = record { serial = 1; mutable = false; kind = byte; backing = Unbacked; start = 0; len = 0; capacity = 0; claim = 1 }

-- the line that was found, or the blank one
unfoldable pub or_blank : Option Line → Line
or_blank None = blank
or_blank (Some l) = l

-- the line of a handle
unfoldable pub line : State → Handle → Line
line st h = or_blank (look_up h.serial st)

-- are two flags equal?
abbrev pub same_flag : Bool → Bool → Bool
same_flag true b = b
same_flag false true = false
same_flag false false = true

-- is this the handle's line: of its state, its width and its kind's alignment?
abbrev pub agrees : Handle → Option Line → Bool
agrees h None = false
agrees h (Some l) = cond (same_flag l.mutable h.mutable) (cond (l.kind.width == h.kind.width) (l.kind.align == h.kind.align) false) false

-- does the store know the handle?
abbrev pub known : State → Handle → Bool
known st h = cond (h.store == st.number) (agrees h (look_up h.serial st)) false

-- is another handle on the backing of this line?
unfoldable pub shared_by : State → Line → Bool
shared_by st l = any_other serial_of (λ m. one_backing l.backing m.backing) l.serial st.lines

-- the bytes of a line's elements: none without a block
unfoldable pub shown_on : Option Block → ℕ → Line → List ℕ → List ℕ
shown_on None base l bytes = []
shown_on (Some b) base l bytes = part (l.start - base) (l.len * l.kind.width) bytes

-- the part of the region that a line shows
unfoldable pub shown : ℕ → Line → List ℕ → List ℕ
shown base l bytes = shown_on (block_of l.backing) base l bytes
