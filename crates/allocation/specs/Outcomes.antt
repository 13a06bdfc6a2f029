-- What each call of an allocator comes to: it answers what it did and was not to be refused, or the fault that it was to be refused with, and nothing has changed.
-- Each is said by the meaning before, the length of the region n, what was asked, what the call returned, and the meaning after.
use Rattle.std.specs.Prelude.{◌≡◌, ℕ, List, length, replicate, Some, None, Result, MatchResult}
use Rattle.region.specs.Bytes.{overwrite}
use Rattle.allocation.specs.declared.block.Block.{Block}
use Rattle.allocation.specs.declared.block.Request.{Request}
use Rattle.allocation.specs.declared.fault.Fault.{Fault}
use Rattle.allocation.specs.Meaning.{Meaning, Allocates, Frees, Grows}
use Rattle.allocation.specs.Faults.{allocate_fault, deallocate_fault, grow_fault}

module _ {A : Type 0} (block : A → Block) where
  -- `allocate`: an answer stands for the block that was added
  abbrev pub Allocated : Meaning → ℕ → Request → Result A Fault → Meaning → Type 0
  Allocated m n r res m' =
      MatchResult res (λ a. (allocate_fault m n r ≡ None) × Allocates m r (block a) m') (λ f. (allocate_fault m n r ≡ Some f) × (m' ≡ m))

  -- `allocate_zeroed`: besides, just the block's bytes are zero afterwards
  abbrev pub AllocatedZeroed : Meaning → List ℕ → Request → Result A Fault → Meaning → List ℕ → Type 0
  AllocatedZeroed m before r res m' after =
      MatchResult res
      (λ a. (allocate_fault m (length before) r ≡ None) × Allocates m r (block a) m' × (after ≡ overwrite (block a).place (replicate (block a).size 0) before))
      (λ f. (allocate_fault m (length before) r ≡ Some f) × (m' ≡ m) × (after ≡ before))

  -- `grow`: an answer stands for the block that b was replaced by
  abbrev pub Grown : Meaning → List ℕ → Block → Request → Result A Fault → Meaning → List ℕ → Type 0
  Grown m before b r res m' after =
      MatchResult res (λ a. (grow_fault m (length before) b r ≡ None) × Grows m b r (block a) m' before after)
      (λ f. (grow_fault m (length before) b r ≡ Some f) × (m' ≡ m) × (after ≡ before))

-- `deallocate`: the block was removed
abbrev pub Freed : {A : Type 0} → Meaning → ℕ → Block → Result A Fault → Meaning → Type 0
Freed m n b res m' =
    MatchResult res (λ a. (deallocate_fault m n b ≡ None) × Frees m b m') (λ f. (deallocate_fault m n b ≡ Some f) × (m' ≡ m))
