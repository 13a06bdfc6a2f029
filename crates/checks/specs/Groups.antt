-- The checks of the calls, in the groups that one function each decides.
use Rattle.std.specs.Prelude.{ℕ, ◌+◌, ◌*◌, ◌%◌, Bool, not, ◌&&◌, ◌||◌, List, [], ◌∷◌, ◌++◌, ◌==◌, nat_le, nat_lt}
use Rattle.allocation.specs.Alignments.{greatest_size}
use Rattle.allocation.specs.declared.fault.Fault.TheVariants.{Alone}
use Rattle.allocation.specs.declared.fault.Refusal.TheVariants.{BelowKindAlignment, Overflow, LayoutTooLarge, BoundOverflow, RangeReversed, RangeBeyondLength, OffsetUnaligned, StartUnaligned, PartialElement, IndexBeyondLength, BackingShared}
use Rattle.allocation.specs.Meaning.{Meaning}
use Rattle.model.specs.Checks.{Check, overflows, request_for, not_granted, wanted_request, room_granted, begin, finish, begin_overflows, finish_overflows, is_aligned}
use Rattle.std.specs.declared.ops.Bound.{Bound}
use Rattle.model.specs.declared.line.Kind.{Kind}
use Rattle.model.specs.declared.line.Line.{Line}

-- an alignment for elements of a kind
abbrev pub below_kind : Kind → ℕ → List Check
below_kind k a = (nat_lt a k.align, Alone BelowKindAlignment) ∷ []

abbrev pub too_large : ℕ → List Check
too_large n = (nat_lt greatest_size n, Alone LayoutTooLarge) ∷ []

-- a block of n bytes is asked for, and then whether it is granted, where it is for c elements
abbrev pub size_checks : ℕ → List Check
size_checks n = (overflows n, Alone Overflow) ∷ too_large n

abbrev pub grant_check : Meaning → ℕ → ℕ → List Check
grant_check meaning c n = (nat_lt 0 c && not (meaning.grants (request_for n)), not_granted (request_for n)) ∷ []

-- reserving where there is not enough room
abbrev pub growth_checks : Line → ℕ → List Check
growth_checks l more = (overflows ((l.len + more) * l.kind.width) || overflows (wanted_request l more).size, Alone Overflow) ∷ too_large (wanted_request l more).size

abbrev pub room_check : Meaning → Line → ℕ → List Check
room_check meaning l more = (not (room_granted meaning l more), not_granted (wanted_request l more)) ∷ []

-- a range of elements, and then its alignment
abbrev pub range_checks : Bound ℕ → Bound ℕ → ℕ → List Check
range_checks first last len =
    (begin_overflows first, Alone BoundOverflow)
    ∷ (finish_overflows last, Alone BoundOverflow)
    ∷ (nat_lt (finish last len) (begin first), Alone RangeReversed)
    ∷ (nat_lt len (finish last len), Alone RangeBeyondLength)
    ∷ []

-- a range that holds an element starts at a place that is no multiple of a
abbrev pub misplaced : ℕ → ℕ → ℕ → ℕ → Bool
misplaced begin end place a = nat_lt begin end && not (place % a == 0)

abbrev pub placing_checks : Line → ℕ → ℕ → ℕ → List Check
placing_checks l begin end a =
    (misplaced begin end (begin * l.kind.width) a, Alone OffsetUnaligned)
    ∷ (nat_lt a l.kind.align, Alone BelowKindAlignment)
    ∷ (misplaced begin end (l.start + begin * l.kind.width) a, Alone StartUnaligned)
    ∷ []

abbrev pub start_check : Line → ℕ → List Check
start_check l a = (not (is_aligned l a), Alone StartUnaligned) ∷ []

-- an alignment for elements that stay where they are
abbrev pub aligned_checks : Kind → Line → ℕ → List Check
aligned_checks k l a = below_kind k a ++ start_check l a

-- bytes as elements of another kind
abbrev pub regroup_checks : Line → Kind → ℕ → List Check
regroup_checks l k a = aligned_checks k l a ++ ((not ((l.len * l.kind.width) % k.width == 0), Alone PartialElement) ∷ [])

abbrev pub index_check : Line → ℕ → List Check
index_check l i = (nat_le l.len i, Alone IndexBeyondLength) ∷ []

abbrev pub shared_check : Bool → List Check
shared_check shared = (shared, Alone BackingShared) ∷ []
