-- What each call checks, in order: the first check that holds is the refusal.
use Rattle.std.specs.Prelude.{ℕ, ◌+◌, ◌-◌, ◌*◌, ◌%◌, ◌^◌, max, Bool, true, false, cond, not, ◌&&◌, ◌||◌, List, [], ◌∷◌, ◌++◌, length, Some, None, Option, ◌==◌, nat_le, nat_lt}
use Rattle.allocation.specs.declared.block.Block.{Block}
use Rattle.allocation.specs.declared.block.Request.{Request}
use Rattle.allocation.specs.declared.fault.Fault.{Fault}
use Rattle.allocation.specs.declared.fault.Fault.TheVariants.{Alone, Asked}
use Rattle.allocation.specs.declared.fault.Layer.TheVariants.{Allocator}
use Rattle.allocation.specs.declared.fault.Refusal.TheVariants.{BackingShared, BelowKindAlignment, BoundOverflow, IndexBeyondLength, LayoutTooLarge, NoHandleLeft, NotGranted, OffsetUnaligned, Overflow, PartialElement, RangeBeyondLength, RangeReversed, RegionDiffers, StartUnaligned, UnknownHandle}
use Rattle.allocation.specs.Alignments.{greatest_size}
use Rattle.allocation.specs.Meaning.{Meaning}
use Rattle.std.specs.declared.ops.Bound.{Bound}
use Rattle.std.specs.declared.ops.Bound.TheVariants.{Excluded, Included, Unbounded}
-- the first element of a range, and the one behind its last
pub use Rattle.std.specs.Range.Bound.{start_index as begin, end_index as finish}
use Rattle.model.specs.declared.line.Handle.{Handle}
use Rattle.model.specs.declared.line.Line.{Line}
use Rattle.model.specs.Book.{State, block_of, known, line, line_limit, serial_limit, shared_by, usable}
use Rattle.model.specs.Calls.{Aligned, AlignedMut, Append, Call, Claim, Clear, CopyFrom, EmptyShared, EnsureAligned, Freeze, FromBytes, Given, Inherited, IntoBytes, IntoMut, OfKind, Read, Release, Reserve, Set, Share, Slice, Take, Truncate, TryIntoMut, WithCapacity, Zeroed, preferred_alignment}
use Rattle.model.specs.Kinds.{is_byte}

-- what a check finds, and the refusal that it then is
abbrev pub Check : Type 0
Check = Bool × Fault

-- the first check that holds
abbrev pub refusal : List Check → Option Fault
refusal [] = None
refusal (c ∷ cs) = cond c.0 (Some c.1) (refusal cs)

-- what a call brings: its handles, whether they are of the state and kind that it takes, and whether it makes a handle
pub record Brings : Type 0 where
  pub handles : List Handle
  pub fitting : Bool
  pub makes : Bool

-- a call that takes no handle and makes one
abbrev pub only_makes : Brings
only_makes = record { handles = []; fitting = true; makes = true }

-- a call that takes a handle and makes none
abbrev pub uses : Handle → Bool → Brings
uses h fitting = record { handles = h ∷ []; fitting = fitting; makes = false }

-- a call that takes a handle and makes one
abbrev pub makes_from : Handle → Bool → Brings
makes_from h fitting = record { handles = h ∷ []; fitting = fitting; makes = true }

-- what each call brings
abbrev pub brings : Call → Brings
brings (WithCapacity k c a p) = only_makes
brings (Zeroed k mutable n a p) = only_makes
brings (CopyFrom k mutable vs a p) = only_makes
brings (EmptyShared k a) = only_makes
brings (Reserve h n) = uses h h.mutable
brings (Append h vs) = uses h h.mutable
brings (Truncate h n) = uses h h.mutable
brings (Clear h) = uses h true
brings (Set h i v) = uses h h.mutable
brings (Take h) = makes_from h h.mutable
brings (AlignedMut h a) = uses h h.mutable
brings (Freeze h) = uses h h.mutable
brings (IntoBytes h) = uses h true
brings (FromBytes h k a) = uses h (not h.mutable && is_byte h.kind)
brings (Share h) = makes_from h (not h.mutable)
brings (Slice h first last a) = makes_from h (not h.mutable)
brings (TryIntoMut h) = uses h (not h.mutable)
brings (IntoMut h) = uses h (not h.mutable)
brings (Aligned h a) = uses h (not h.mutable)
brings (EnsureAligned h a) = uses h (not h.mutable)
brings (Read h) = uses h true
brings (Release h) = uses h true

-- handles that the store does not know
abbrev pub strangers : State → List Handle → List Check
strangers st [] = []
strangers st (h ∷ hs) = (not (known st h), Alone UnknownHandle) ∷ strangers st hs

-- no further handle can be made
abbrev pub full : State → Bool
full st = nat_le line_limit (length st.lines) || nat_le serial_limit st.next

-- a number that does not fit 64 bits
abbrev pub overflows : ℕ → Bool
overflows n = nat_le (2 ^ 64) n

-- blocks are asked for at alignment 1
abbrev pub request_for : ℕ → Request
request_for n = record { size = n; align = 1 }

-- the fault of an allocator whose rule says no
abbrev pub not_granted : Request → Fault
not_granted r = Asked NotGranted Allocator r

-- a block for c elements of w bytes and an alignment m, where one is wanted; none is asked for where c is 0
abbrev pub block_checks : Meaning → Bool → ℕ → ℕ → ℕ → List Check
block_checks meaning wanted w c m =
    (wanted && overflows (c * w + m), Alone Overflow)
    ∷ (wanted && nat_lt greatest_size (c * w + m), Alone LayoutTooLarge)
    ∷ (wanted && (nat_lt 0 c && not (meaning.grants (request_for (c * w + m)))), not_granted (request_for (c * w + m)))
    ∷ []

-- is there room for more elements behind the last?
abbrev pub enough : Line → ℕ → Bool
enough l more = nat_le more (l.capacity - l.len)

-- the growth rule: the bytes for elements that a line gets when it needs room for more
abbrev pub wanted_bytes : Line → ℕ → ℕ
wanted_bytes l more = max (max ((l.len + more) * l.kind.width) (2 * (l.capacity * l.kind.width))) 256

-- the elements may have to move up to the claim
abbrev pub wanted_request : Line → ℕ → Request
wanted_request l more = request_for (wanted_bytes l more + l.claim)

-- is there no block, or is n below its bytes?
abbrev pub smaller : ℕ → Option Block → Bool
smaller n None = true
smaller n (Some b) = nat_lt n (usable b)

-- reserving takes a new block: the allocator's mark says so, or there is no block, or the block is larger than what is wanted; else the block grows
abbrev pub takes_new : Meaning → Line → ℕ → Bool
takes_new meaning l more = meaning.copies || smaller (wanted_request l more).size (block_of l.backing)

-- does the rule for growths say yes? Without a block nothing grows
abbrev pub growth_granted : Meaning → Request → Option Block → Bool
growth_granted meaning r None = true
growth_granted meaning r (Some b) = meaning.grows b r

-- does the rule say yes that reserving goes by?
abbrev pub room_granted : Meaning → Line → ℕ → Bool
room_granted meaning l more = cond (takes_new meaning l more) (meaning.grants (wanted_request l more)) (growth_granted meaning (wanted_request l more) (block_of l.backing))

-- the checks of reserving, where there is not enough room
abbrev pub reserve_checks : Meaning → Line → ℕ → List Check
reserve_checks meaning l more =
    (not (enough l more) && (overflows ((l.len + more) * l.kind.width) || overflows (wanted_request l more).size), Alone Overflow)
    ∷ (not (enough l more) && nat_lt greatest_size (wanted_request l more).size, Alone LayoutTooLarge)
    ∷ (not (enough l more) && not (room_granted meaning l more), not_granted (wanted_request l more))
    ∷ []

-- does the first bound pass 64 bits?
abbrev pub begin_overflows : Bound ℕ → Bool
begin_overflows (Included n) = false
begin_overflows (Excluded n) = overflows (n + 1)
begin_overflows Unbounded = false

-- does the last bound pass 64 bits?
abbrev pub finish_overflows : Bound ℕ → Bool
finish_overflows (Included n) = overflows (n + 1)
finish_overflows (Excluded n) = false
finish_overflows Unbounded = false

-- the claim of a slice of a line
abbrev pub claimed : Claim → Line → ℕ
claimed (Given a) l = a
claimed Inherited l = l.claim
claimed OfKind l = l.kind.align

-- an empty range is one that is not reversed and holds no element
abbrev pub slice_checks : Line → Bound ℕ → Bound ℕ → ℕ → List Check
slice_checks l first last a =
    (begin_overflows first, Alone BoundOverflow)
    ∷ (finish_overflows last, Alone BoundOverflow)
    ∷ (nat_lt (finish last l.len) (begin first), Alone RangeReversed)
    ∷ (nat_lt l.len (finish last l.len), Alone RangeBeyondLength)
    ∷ (nat_lt (begin first) (finish last l.len) && not ((begin first * l.kind.width) % a == 0), Alone OffsetUnaligned)
    ∷ (nat_lt a l.kind.align, Alone BelowKindAlignment)
    ∷ (nat_lt (begin first) (finish last l.len) && not ((l.start + begin first * l.kind.width) % a == 0), Alone StartUnaligned)
    ∷ []

-- is the start a multiple of the alignment?
abbrev pub is_aligned : Line → ℕ → Bool
is_aligned l a = l.start % a == 0

-- a call's own checks, behind those that all calls have
abbrev pub own : State → Call → List Check
own st (WithCapacity k c a p) = (nat_lt a k.align, Alone BelowKindAlignment) ∷ block_checks st.meaning true k.width c (max a p)
own st (Zeroed k mutable n a p) = (nat_lt a k.align, Alone BelowKindAlignment) ∷ block_checks st.meaning true k.width n (max a p)
own st (CopyFrom k mutable vs a p) = (nat_lt a k.align, Alone BelowKindAlignment) ∷ block_checks st.meaning true k.width (length vs) (max a p)
own st (EmptyShared k a) = (nat_lt a k.align, Alone BelowKindAlignment) ∷ []
own st (Reserve h n) = reserve_checks st.meaning (line st h) n
own st (Append h vs) = reserve_checks st.meaning (line st h) (length vs)
own st (Truncate h n) = []
own st (Clear h) = []
own st (Set h i v) = (nat_le (line st h).len i, Alone IndexBeyondLength) ∷ []
own st (Take h) = []
own st (AlignedMut h a) = (nat_lt a (line st h).kind.align, Alone BelowKindAlignment) ∷ block_checks st.meaning (not (is_aligned (line st h) a)) (line st h).kind.width (line st h).capacity (max a preferred_alignment)
own st (Freeze h) = []
own st (IntoBytes h) = []
own st (FromBytes h k a) =
    (nat_lt a k.align, Alone BelowKindAlignment)
    ∷ (not (is_aligned (line st h) a), Alone StartUnaligned)
    ∷ (not (((line st h).len * (line st h).kind.width) % k.width == 0), Alone PartialElement)
    ∷ []
own st (Share h) = []
own st (Slice h first last a) = slice_checks (line st h) first last (claimed a (line st h))
own st (TryIntoMut h) = (shared_by st (line st h), Alone BackingShared) ∷ []
own st (IntoMut h) = block_checks st.meaning (shared_by st (line st h)) (line st h).kind.width (line st h).len (max (line st h).claim preferred_alignment)
own st (Aligned h a) = (nat_lt a (line st h).kind.align, Alone BelowKindAlignment) ∷ block_checks st.meaning (not (is_aligned (line st h) a)) (line st h).kind.width (line st h).len (max a preferred_alignment)
own st (EnsureAligned h a) = (nat_lt a (line st h).kind.align, Alone BelowKindAlignment) ∷ (not (is_aligned (line st h) a), Alone StartUnaligned) ∷ []
own st (Read h) = []
own st (Release h) = []

-- all checks of a call that is brought a region of n bytes
abbrev pub checks : State → ℕ → Call → List Check
checks st n c =
    (not (n == st.meaning.extent), Alone RegionDiffers)
    ∷ (not (brings c).fitting, Alone UnknownHandle)
    ∷ (strangers st (brings c).handles ++ (((brings c).makes && full st, Alone NoHandleLeft) ∷ own st c))
