-- The number that each refusal answers.
use Rattle.std.specs.Prelude.{ℕ}
use Rattle.allocation.specs.declared.fault.Fault.{Fault}
use Rattle.allocation.specs.declared.fault.Fault.TheVariants.{Alone, Asked}
use Rattle.allocation.specs.declared.fault.Refusal.{Refusal}
use Rattle.allocation.specs.declared.fault.Refusal.TheVariants.{RegionDiffers, UnknownHandle, NoHandleLeft, ExponentTooLarge, AlignmentTooLarge, BelowKindAlignment, Overflow, LayoutTooLarge, NotGranted, BoundOverflow, RangeReversed, RangeBeyondLength, OffsetUnaligned, StartUnaligned, PartialElement, IndexBeyondLength, BackingShared, NoSuchBlock}

abbrev pub number : Refusal → ℕ
number RegionDiffers = 1
number UnknownHandle = 2
number NoHandleLeft = 3
number ExponentTooLarge = 4
number AlignmentTooLarge = 5
number BelowKindAlignment = 6
number Overflow = 7
number LayoutTooLarge = 8
number NotGranted = 9
number BoundOverflow = 10
number RangeReversed = 11
number RangeBeyondLength = 12
number OffsetUnaligned = 13
number StartUnaligned = 14
number PartialElement = 15
number IndexBeyondLength = 16
number BackingShared = 17
number NoSuchBlock = 18

-- the refusal that a fault carries
abbrev pub refusal_of : Fault → Refusal
refusal_of (Alone r) = r
refusal_of (Asked r layer request) = r
