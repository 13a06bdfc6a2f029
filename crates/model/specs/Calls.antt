-- The calls of a store, and what each may answer.
use Rattle.std.specs.Prelude.{ℕ, Bool, true, false, List, [], ◌∷◌, replicate, Some, None, Option}
use Rattle.allocation.specs.declared.block.Block.{Block}
use Rattle.allocation.specs.declared.fault.Fault.{Fault}
use Rattle.std.specs.declared.ops.Bound.{Bound}
use Rattle.model.specs.declared.line.Handle.{Handle}
use Rattle.model.specs.declared.line.Kind.{Kind}

-- the claim that a slice makes: one that is given, its parent's, or its kind's alignment
pub data Claim : Type 0 where
  Given : ℕ → Claim
  Inherited : Claim
  OfKind : Claim

-- Elements are byte patterns of their kind's width; claims and preferred alignments are in bytes; the flag of a making says whether the
-- new handle is mutable or is frozen at once.
pub data Call : Type 0 where
  WithCapacity : Kind → (capacity claim preferred : ℕ) → Call
  Zeroed : Kind → (mutable : Bool) → (length claim preferred : ℕ) → Call
  CopyFrom : Kind → (mutable : Bool) → List (List ℕ) → (claim preferred : ℕ) → Call
  EmptyShared : Kind → (claim : ℕ) → Call
  Reserve : Handle → ℕ → Call
  Append : Handle → List (List ℕ) → Call
  Truncate : Handle → ℕ → Call
  Clear : Handle → Call
  Set : Handle → ℕ → List ℕ → Call
  Take : Handle → Call
  AlignedMut : Handle → ℕ → Call
  Freeze : Handle → Call
  IntoBytes : Handle → Call
  FromBytes : Handle → Kind → ℕ → Call
  Share : Handle → Call
  Slice : Handle → Bound ℕ → Bound ℕ → Claim → Call
  TryIntoMut : Handle → Call
  IntoMut : Handle → Call
  Aligned : Handle → ℕ → Call
  EnsureAligned : Handle → ℕ → Call
  Read : Handle → Call
  Release : Handle → Call

-- the alignment that a making prefers where it names none, and where it asks for none
abbrev pub preferred_alignment : ℕ
preferred_alignment = 256

-- the preferred alignment of a call that may leave it out
abbrev pub preferred : Option ℕ → ℕ
preferred None = 1
preferred (Some p) = p

-- `BufferMut`: the makings
abbrev pub with_capacity_in : Kind → ℕ → Call
with_capacity_in k c = WithCapacity k c k.align preferred_alignment

-- room for c elements at the claim a
abbrev pub with_capacity_aligned_in : Kind → ℕ → ℕ → Call
with_capacity_aligned_in k c a = WithCapacity k c a preferred_alignment

-- room for c elements at the claim a and a preferred alignment
abbrev pub with_capacity_preferred_aligned_in : Kind → ℕ → ℕ → Option ℕ → Call
with_capacity_preferred_aligned_in k c a p = WithCapacity k c a (preferred p)

-- n zero elements at the alignment of their kind
abbrev pub zeroed_in : Kind → ℕ → Call
zeroed_in k n = Zeroed k true n k.align preferred_alignment

-- n zero elements at the claim a
abbrev pub zeroed_aligned_in : Kind → ℕ → ℕ → Call
zeroed_aligned_in k n a = Zeroed k true n a preferred_alignment

-- n zero elements at the claim a and a preferred alignment
abbrev pub zeroed_preferred_aligned_in : Kind → ℕ → ℕ → Option ℕ → Call
zeroed_preferred_aligned_in k n a p = Zeroed k true n a (preferred p)

-- no element and no block, at the claim a
abbrev pub empty_aligned_in : Kind → ℕ → Call
empty_aligned_in k a = WithCapacity k 0 a preferred_alignment

-- one element n times
abbrev pub full_in : Kind → List ℕ → ℕ → Call
full_in k v n = CopyFrom k true (replicate n v) k.align preferred_alignment

-- the elements given, at the alignment of their kind
abbrev pub copy_from_in : Kind → List (List ℕ) → Call
copy_from_in k vs = CopyFrom k true vs k.align preferred_alignment

-- the elements given, at the claim a
abbrev pub copy_from_aligned_in : Kind → List (List ℕ) → ℕ → Call
copy_from_aligned_in k vs a = CopyFrom k true vs a preferred_alignment

-- the elements given, at the claim a and a preferred alignment
abbrev pub copy_from_preferred_aligned_in : Kind → List (List ℕ) → ℕ → Option ℕ → Call
copy_from_preferred_aligned_in k vs a p = CopyFrom k true vs a (preferred p)

-- `BufferMut`: the other calls
abbrev pub take : Handle → Call
take h = Take h

-- keeps the first n elements
abbrev pub truncate : Handle → ℕ → Call
truncate h n = Truncate h n

-- makes room for n more elements
abbrev pub reserve : Handle → ℕ → Call
reserve h n = Reserve h n

-- one element behind the last
abbrev pub push : Handle → List ℕ → Call
push h v = Append h (v ∷ [])

-- one element n times behind the last
abbrev pub push_n : Handle → List ℕ → ℕ → Call
push_n h v n = Append h (replicate n v)

-- the elements given behind the last
abbrev pub extend_from_slice : Handle → List (List ℕ) → Call
extend_from_slice h vs = Append h vs

-- another element at index i
abbrev pub set : Handle → ℕ → List ℕ → Call
set h i v = Set h i v

-- the mutable handle becomes shared
abbrev pub freeze : Handle → Call
freeze h = Freeze h

-- a mutable handle at the claim a, copied where its start does not fit
abbrev pub aligned_mut : Handle → ℕ → Call
aligned_mut h a = AlignedMut h a

-- `Buffer`: the makings are those of `BufferMut` and then `freeze`, in one call
abbrev pub shared_copy_from_in : Kind → List (List ℕ) → Call
shared_copy_from_in k vs = CopyFrom k false vs k.align preferred_alignment

-- n zero elements, shared
abbrev pub shared_zeroed_in : Kind → ℕ → Call
shared_zeroed_in k n = Zeroed k false n k.align preferred_alignment

-- no element and no backing, shared, at the claim a
abbrev pub empty_aligned : Kind → ℕ → Call
empty_aligned k a = EmptyShared k a

-- one element n times, shared
abbrev pub shared_full_in : Kind → List ℕ → ℕ → Call
shared_full_in k v n = CopyFrom k false (replicate n v) k.align preferred_alignment

-- `Buffer`: the other calls
abbrev pub from_byte_buffer : Handle → Kind → Call
from_byte_buffer h k = FromBytes h k k.align

-- bytes as elements of a kind, at the claim a
abbrev pub from_byte_buffer_aligned : Handle → Kind → ℕ → Call
from_byte_buffer_aligned h k a = FromBytes h k a

-- a second handle on the same elements
abbrev pub share : Handle → Call
share h = Share h

-- a range, at the claim of its parent
abbrev pub slice : Handle → Bound ℕ → Bound ℕ → Call
slice h first last = Slice h first last Inherited

-- a range, at the alignment of its kind
abbrev pub slice_unaligned : Handle → Bound ℕ → Bound ℕ → Call
slice_unaligned h first last = Slice h first last OfKind

-- a range, at the claim a
abbrev pub slice_with_alignment : Handle → Bound ℕ → Bound ℕ → ℕ → Call
slice_with_alignment h first last a = Slice h first last (Given a)

-- the shared handle becomes mutable where it is alone on its backing
abbrev pub try_into_mut : Handle → Call
try_into_mut h = TryIntoMut h

-- the shared handle becomes mutable, copied where it is not alone
abbrev pub into_mut : Handle → Call
into_mut h = IntoMut h

-- a shared handle at the claim a, copied where its start does not fit
abbrev pub aligned : Handle → ℕ → Call
aligned h a = Aligned h a

-- a shared handle at the claim a, where its start fits
abbrev pub ensure_aligned : Handle → ℕ → Call
ensure_aligned h a = EnsureAligned h a

-- both
abbrev pub clear : Handle → Call
clear h = Clear h

-- the same bytes as elements of one byte
abbrev pub into_byte_buffer : Handle → Call
into_byte_buffer h = IntoBytes h

-- ends the handle
abbrev pub release : Handle → Call
release h = Release h

-- `len`, `is_empty`, `alignment`, `capacity`, `is_aligned` and `as_slice`: specs/Reads says what each answers
abbrev pub read : Handle → Call
read h = Read h

-- what a granted call gives: the new handle's serial, or 0; the blocks that it got or grew; whether it copied the elements
pub record Grant : Type 0 where
  pub serial : ℕ
  pub blocks : List Block
  pub copied : Bool

-- refused with a fault, or granted
pub data Answer : Type 0 where
  refused : Fault → Answer
  granted : Grant → Answer

-- a grant of a call that copies nothing
abbrev pub giving : ℕ → List Block → Grant
giving s bs = record { serial = s; blocks = bs; copied = false }

-- no handle, no block, no copy
abbrev pub done : Grant
done = giving 0 []
