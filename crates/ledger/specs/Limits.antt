-- The regions that a store serves: their address and length stay far below the greatest number of the code.
use Rattle.std.specs.Prelude.{ℕ, ◌^◌, ◌≤◌, Bool, not, ◌&&◌, nat_le}
use Rattle.allocation.specs.Faults.{any_block}
use Rattle.allocation.specs.Meaning.{Meaning}
use Rattle.model.specs.Invariant.{Plain}

abbrev pub least_base : ℕ
least_base = 1

abbrev pub greatest_base : ℕ
greatest_base = 2 ^ 47

abbrev pub least_extent : ℕ
least_extent = 1024

abbrev pub greatest_extent : ℕ
greatest_extent = 2 ^ 32

abbrev pub Limits : Plain → Type 0
Limits p = (least_base ≤ p.base) × (p.base ≤ greatest_base) × (least_extent ≤ p.extent) × (p.extent ≤ greatest_extent)

abbrev pub in_limits : ℕ → ℕ → Bool
in_limits base extent = nat_le least_base base && (nat_le base greatest_base && (nat_le least_extent extent && nat_le extent greatest_extent))

-- may a store be opened over the allocator: its region is within the limits, and no block is live
abbrev pub serves : Meaning → Bool
serves m = in_limits m.base m.extent && not (any_block m.live)
