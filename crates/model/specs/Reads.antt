-- What the reading calls answer where the call `Read` is granted, and what `same` says of two shown parts.
use Rattle.std.specs.Prelude.{ℕ, ◌-◌, ◌%◌, Bool, cond, not, ◌||◌, List, length, Some, None, Option, ◌==◌}
use Rattle.region.specs.Bytes.{equal}
use Rattle.allocation.specs.declared.block.Block.{Block}
use Rattle.allocation.specs.declared.fault.Fault.{Fault}
use Rattle.allocation.specs.declared.fault.Fault.TheVariants.{Alone}
use Rattle.allocation.specs.declared.fault.Refusal.TheVariants.{PartialElement}
use Rattle.model.specs.declared.line.Handle.{Handle}
use Rattle.model.specs.declared.line.Kind.{Kind}
use Rattle.model.specs.declared.line.Line.{Line}
use Rattle.model.specs.Book.{State, block_of, line, shown}
use Rattle.model.specs.Checks.{is_aligned}

-- `len`, `is_empty`, `alignment`, `capacity` and `is_aligned`
abbrev pub len_of : State → Handle → ℕ
len_of st h = (line st h).len

-- is there no element?
abbrev pub is_empty : State → Handle → Bool
is_empty st h = (line st h).len == 0

-- the claim
abbrev pub alignment_of : State → Handle → ℕ
alignment_of st h = (line st h).claim

-- the capacity; 0 of a shared handle
abbrev pub capacity_of : State → Handle → ℕ
capacity_of st h = (line st h).capacity

-- is the start a multiple of the alignment?
abbrev pub is_aligned_to : State → Handle → ℕ → Bool
is_aligned_to st h a = is_aligned (line st h) a

-- where in the region the shown part starts: at its start without a block
abbrev pub place_on : Option Block → ℕ → Line → ℕ
place_on None base l = 0
place_on (Some b) base l = l.start - base

-- the place of what a line shows
abbrev pub shown_place : ℕ → Line → ℕ
shown_place base l = place_on (block_of l.backing) base l

-- `as_slice`: the place of the part and its bytes
abbrev pub slice_place : State → Handle → ℕ
slice_place st h = shown_place st.meaning.base (line st h)

-- the bytes of the part
abbrev pub slice_bytes : State → Handle → List ℕ
slice_bytes st h = shown st.meaning.base (line st h) st.bytes

-- `same`: refused where one of the parts is no whole number of elements, else whether the bytes are equal
pub data Verdict : Type 0 where
  fails : Fault → Verdict
  says : Bool → Verdict

-- the verdict on two parts of a kind
abbrev pub same : Kind → List ℕ → List ℕ → Verdict
same k xs ys = cond (not (length xs % k.width == 0) || not (length ys % k.width == 0)) (fails (Alone PartialElement)) (says (equal xs ys))
