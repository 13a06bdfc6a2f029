-- When each operation of an allocator is refused, and with what.
use Rattle.std.specs.Prelude.{ℕ, Bool, true, false, cond, ◌&&◌, List, [], ◌∷◌, Some, None, Option, ◌==◌, nat_le}
use Rattle.std.specs.List.{list_any}
use Rattle.allocation.specs.declared.block.Block.{Block}
use Rattle.allocation.specs.declared.block.Request.{Request}
use Rattle.allocation.specs.declared.fault.Fault.{Fault}
use Rattle.allocation.specs.declared.fault.Fault.TheVariants.{Asked}
use Rattle.allocation.specs.declared.fault.Layer.TheVariants.{Allocator}
use Rattle.allocation.specs.declared.fault.Refusal.{Refusal}
use Rattle.allocation.specs.declared.fault.Refusal.TheVariants.{RegionDiffers, NotGranted, NoSuchBlock}
use Rattle.allocation.specs.Meaning.{Meaning}

-- the block of a request that starts at a place
abbrev pub block_at : ℕ → Request → Block
block_at p r = record { place = p; size = r.size; align = r.align }

-- the size and alignment of a block
abbrev pub request_of : Block → Request
request_of b = record { size = b.size; align = b.align }

abbrev pub same_block : Block → Block → Bool
same_block b c = b.place == c.place && (b.size == c.size && b.align == c.align)

-- is the block among these?
abbrev pub is_among : Block → List Block → Bool
is_among b = list_any (λ c. same_block c b)

-- is there any block?
abbrev pub any_block : List Block → Bool
any_block [] = false
any_block (b ∷ bs) = true

-- the allocator's own refusals carry the layer and what was asked for
abbrev pub asked_fault : Refusal → Request → Option Fault
asked_fault refusal r = Some (Asked refusal Allocator r)

-- `allocate` in a region of n bytes: the region is another one; no byte is asked for; the rule says no
abbrev pub allocate_fault : Meaning → ℕ → Request → Option Fault
allocate_fault m n r =
    cond (n == m.extent) (cond (r.size == 0) (asked_fault NoSuchBlock r) (cond (m.grants r) None (asked_fault NotGranted r)))
    (asked_fault RegionDiffers r)

-- `deallocate`: the region is another one; no such block is live
abbrev pub deallocate_fault : Meaning → ℕ → Block → Option Fault
deallocate_fault m n b =
    cond (n == m.extent) (cond (is_among b m.live) None (asked_fault NoSuchBlock (request_of b))) (asked_fault RegionDiffers (request_of b))

-- `grow`: the region is another one; no such block is live, or the new size is below the old (as 0 is); the rule says no
abbrev pub grow_fault : Meaning → ℕ → Block → Request → Option Fault
grow_fault m n b r =
    cond (n == m.extent)
    (cond (is_among b m.live && nat_le b.size r.size) (cond (m.grows b r) None (asked_fault NotGranted r)) (asked_fault NoSuchBlock r))
    (asked_fault RegionDiffers r)
