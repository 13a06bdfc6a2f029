-- Nine worked examples: calls, their answers and the states after them, over the meanings of General and Shelf.
use Rattle.std.specs.Prelude.{◌≡◌, ℕ, ◌+◌, ◌^◌, true, false, List, [], ◌∷◌, length, None}
use Rattle.allocation.specs.declared.block.Block.{Block}
use Rattle.allocation.specs.declared.fault.Fault.TheVariants.{Alone}
use Rattle.allocation.specs.declared.fault.Refusal.TheVariants.{Overflow, LayoutTooLarge, RangeReversed, OffsetUnaligned}
use Rattle.allocation.specs.Faults.{block_at}
use Rattle.allocation.specs.Meaning.{Meaning}
use Rattle.allocators.specs.Fitting.{Lowest}
use Rattle.allocators.specs.Placings.{general_meaning, shelf_meaning, Shelved}
use Rattle.model.specs.Answers.{Answers}
use Rattle.model.specs.Book.{State}
use Rattle.model.specs.Calls.{granted, refused, giving, done, with_capacity_in, push, push_n, freeze, slice, slice_with_alignment, release, try_into_mut}
use Rattle.model.specs.Checks.{request_for}
use Rattle.model.specs.declared.line.Backing.{Backing}
use Rattle.model.specs.declared.line.Backing.TheVariants.{Unbacked, Empty, Owned}
use Rattle.std.specs.declared.ops.Bound.TheVariants.{Included, Excluded}
use Rattle.model.specs.declared.line.Handle.{Handle}
use Rattle.model.specs.declared.line.Kind.{Kind}
use Rattle.model.specs.declared.line.Line.{Line}

abbrev pub u32 : Kind
u32 = record { width = 4; align = 4 }

abbrev pub u64 : Kind
u64 = record { width = 8; align = 8 }

-- the region of every example has this many bytes
abbrev pub extent : ℕ
extent = 4096

-- a store of number 1
abbrev pub store : ℕ → List Line → Meaning → List ℕ → State
store next lines meaning bytes = record { number = 1; next = next; lines = lines; meaning = meaning; bytes = bytes }

-- a block at alignment 1
abbrev pub block : ℕ → ℕ → Block
block place n = block_at place (request_for n)

-- General and Shelf at a base, with these live blocks
abbrev pub general : ℕ → List Block → Meaning
general base live = general_meaning base extent live

abbrev pub shelf : ℕ → List Block → Meaning
shelf base live = shelf_meaning base extent live

-- lines that claim no more than their kind's alignment
abbrev pub mutable_line : ℕ → Kind → Backing → (start len capacity : ℕ) → Line
mutable_line s k b start len capacity = record { serial = s; mutable = true; kind = k; backing = b; start = start; len = len; capacity = capacity; claim = k.align }

abbrev pub shared_line : ℕ → Kind → Backing → (start len : ℕ) → Line
shared_line s k b start len = record { serial = s; mutable = false; kind = k; backing = b; start = start; len = len; capacity = 0; claim = k.align }

-- handles of the store
abbrev pub mutable_handle : ℕ → Kind → Handle
mutable_handle s k = record { store = 1; serial = s; mutable = true; kind = k }

abbrev pub shared_handle : ℕ → Kind → Handle
shared_handle s k = record { store = 1; serial = s; mutable = false; kind = k }

module _ (bytes : List ℕ) where
  -- 1: General at 65,536 is asked for room for 10 elements of u32. It is asked for 296 bytes and gives place 0; the capacity is 74.
  abbrev pub ten : State
  ten = store 2 (mutable_line 1 u32 (Owned (block 0 296)) 65536 0 74 ∷ []) (general 65536 (block 0 296 ∷ [])) bytes

  pub record One : Type 0 where
    pub place : Lowest 65536 extent [] 0 (request_for 296) 0
    pub made : Answers (store 1 [] (general 65536 []) bytes) extent (with_capacity_in u32 10) (granted (giving 1 (block 0 296 ∷ []))) ten

  -- 2: at 65,540 the elements start 252 bytes into the block, and the capacity is 11.
  pub record Two : Type 0 where
    pub place : Lowest 65540 extent [] 0 (request_for 296) 0
    pub made : Answers (store 1 [] (general 65540 []) bytes) extent (with_capacity_in u32 10) (granted (giving 1 (block 0 296 ∷ [])))
        (store 2 (mutable_line 1 u32 (Owned (block 0 296)) (65540 + 252) 0 11 ∷ []) (general 65540 (block 0 296 ∷ [])) bytes)

  -- 3: room for no element needs no block; the start is 256.
  abbrev pub Three : Type 0
  Three =
      Answers (store 1 [] (general 65536 []) bytes) extent (with_capacity_in u32 0) (granted (giving 1 []))
      (store 2 (mutable_line 1 u32 (Empty None) 256 0 0 ∷ []) (general 65536 []) bytes)

  -- 4: the first example's buffer, filled with 74 elements. One more asks for 596 bytes, which General gives at place 296, and the capacity is 148; the old block goes back.
  pub record Four (v : List ℕ) : Type 0 where
    pub filled : List ℕ
    pub fills : Answers ten extent (push_n (mutable_handle 1 u32) v 74) (granted (giving 0 [])) (store 2 (mutable_line 1 u32 (Owned (block 0 296)) 65536 74 74 ∷ []) (general 65536 (block 0 296 ∷ [])) filled)
    pub place : Lowest 65536 extent (block 0 296 ∷ []) 0 (request_for 596) 296
    pub after : List ℕ
    pub grows : Answers (store 2 (mutable_line 1 u32 (Owned (block 0 296)) 65536 74 74 ∷ []) (general 65536 (block 0 296 ∷ [])) filled) extent (push (mutable_handle 1 u32) v) (granted (giving 0 (block 296 596 ∷ [])))
        (store 2 (mutable_line 1 u32 (Owned (block 296 596)) (65536 + 296) 75 148 ∷ []) (general 65536 (block 296 596 ∷ [])) after)

  -- the first example's buffer with 10 elements, frozen
  abbrev pub parent : Line
  parent = shared_line 1 u32 (Owned (block 0 296)) 65536 10

  abbrev pub frozen : List ℕ → State
  frozen = store 2 (parent ∷ []) (general 65536 (block 0 296 ∷ []))

  pub record Parent (v : List ℕ) : Type 0 where
    pub filled : List ℕ
    pub fills : Answers ten extent (push_n (mutable_handle 1 u32) v 10) (granted (giving 0 [])) (store 2 (mutable_line 1 u32 (Owned (block 0 296)) 65536 10 74 ∷ []) (general 65536 (block 0 296 ∷ [])) filled)
    pub freezes : Answers (store 2 (mutable_line 1 u32 (Owned (block 0 296)) 65536 10 74 ∷ []) (general 65536 (block 0 296 ∷ [])) filled) extent (freeze (mutable_handle 1 u32)) (granted done) (frozen filled)

  -- 5: its slice from 1 to 2 is granted at alignment 4, and refused at 8, since it begins 4 bytes in.
  pub record Five : Type 0 where
    pub at_four : Answers (frozen bytes) extent (slice_with_alignment (shared_handle 1 u32) (Included 1) (Excluded 2) 4) (granted (giving 2 []))
        (store 3 (parent ∷ shared_line 2 u32 (Owned (block 0 296)) 65540 1 ∷ []) (general 65536 (block 0 296 ∷ [])) bytes)
    pub at_eight : Answers (frozen bytes) extent (slice_with_alignment (shared_handle 1 u32) (Included 1) (Excluded 2) 8) (refused (Alone OffsetUnaligned)) (frozen bytes)

  -- 6: its slice from 3 to 2 is refused; its slice from 3 to 3 has no backing.
  pub record Six : Type 0 where
    pub reversed : Answers (frozen bytes) extent (slice (shared_handle 1 u32) (Included 3) (Excluded 2)) (refused (Alone RangeReversed)) (frozen bytes)
    pub empty : Answers (frozen bytes) extent (slice (shared_handle 1 u32) (Included 3) (Excluded 3)) (granted (giving 2 []))
        (store 3 (parent ∷ shared_line 2 u32 Unbacked (2 ^ 63) 0 ∷ []) (general 65536 (block 0 296 ∷ [])) bytes)

  -- 7: its slice from 4 to 10 outlives it, and becomes mutable with length 6 and capacity 70.
  abbrev pub tail : Line
  tail = shared_line 2 u32 (Owned (block 0 296)) 65552 6

  pub record Seven : Type 0 where
    pub slices : Answers (frozen bytes) extent (slice (shared_handle 1 u32) (Included 4) (Excluded 10)) (granted (giving 2 [])) (store 3 (parent ∷ tail ∷ []) (general 65536 (block 0 296 ∷ [])) bytes)
    pub releases : Answers (store 3 (parent ∷ tail ∷ []) (general 65536 (block 0 296 ∷ [])) bytes) extent (release (shared_handle 1 u32)) (granted done) (store 3 (tail ∷ []) (general 65536 (block 0 296 ∷ [])) bytes)
    pub thaws : Answers (store 3 (tail ∷ []) (general 65536 (block 0 296 ∷ [])) bytes) extent (try_into_mut (shared_handle 2 u32)) (granted done)
        (store 3 (mutable_line 2 u32 (Owned (block 0 296)) 65552 6 70 ∷ []) (general 65536 (block 0 296 ∷ [])) bytes)

  -- 8: Shelf at 65,537 is asked for room for one u64: offset 255, capacity 1. The second element grows the block to 264 bytes where it is, and the elements move to offset 7; the capacity is 32.
  abbrev pub one_long : ℕ → List ℕ → State
  one_long len = store 2 (mutable_line 1 u64 (Owned (block 0 264)) (65537 + 255) len 1 ∷ []) (shelf 65537 (block 0 264 ∷ []))

  pub record Eight (v : List ℕ) : Type 0 where
    pub place : Lowest 65537 extent [] 0 (request_for 264) 0
    pub made : Answers (store 1 [] (shelf 65537 []) bytes) extent (with_capacity_in u64 1) (granted (giving 1 (block 0 264 ∷ []))) (one_long 0 bytes)
    pub first : List ℕ
    pub fits : Answers (one_long 0 bytes) extent (push (mutable_handle 1 u64) v) (granted (giving 0 [])) (one_long 1 first)
    pub stays : Shelved 65537 extent (block 0 264 ∷ []) (block 0 264) (request_for 264) 0
    pub after : List ℕ
    pub grows : Answers (one_long 1 first) extent (push (mutable_handle 1 u64) v) (granted (giving 0 (block 0 264 ∷ [])))
        (store 2 (mutable_line 1 u64 (Owned (block 0 264)) (65537 + 7) 2 32 ∷ []) (shelf 65537 (block 0 264 ∷ [])) after)

  -- 9: room for 2^62 elements passes 64 bits, and for 2^61 it passes what a layout can hold.
  pub record Nine : Type 0 where
    pub overflows : Answers (store 1 [] (general 65536 []) bytes) extent (with_capacity_in u32 (2 ^ 62)) (refused (Alone Overflow)) (store 1 [] (general 65536 []) bytes)
    pub too_large : Answers (store 1 [] (general 65536 []) bytes) extent (with_capacity_in u32 (2 ^ 61)) (refused (Alone LayoutTooLarge)) (store 1 [] (general 65536 []) bytes)

-- all of them, whatever bytes the region holds and whatever patterns of their kind's width are put
abbrev pub NineExamples : Type 0
NineExamples =
    (bytes : List ℕ) → length bytes ≡ extent → (v w : List ℕ) → length v ≡ 4 → length w ≡ 8
    → One bytes × Two bytes × Three bytes × Four bytes v × Parent bytes v × Five bytes × Six bytes × Seven bytes × Eight bytes w × Nine bytes
