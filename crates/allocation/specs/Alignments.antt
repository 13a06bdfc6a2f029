-- Alignments, and rounding up to one.
use Rattle.std.specs.Prelude.{◌≡◌, ℕ, ◌+◌, ◌-◌, ◌%◌, ◌^◌, ◌≤◌}

-- the greatest exponent of an alignment: the one place of the definitions where the limit stands
abbrev pub greatest_exponent : ℕ
greatest_exponent = 16

-- a number of bytes that is an alignment
abbrev pub IsAlignment : ℕ → Type 0
IsAlignment a = (e : ℕ) × (e ≤ greatest_exponent) × (a ≡ 2 ^ e)

-- the first multiple of m at or above n (proofs/Rounding has that in these words)
unfoldable pub round_up : ℕ → ℕ → ℕ
round_up n m = n + (m - n % m) % m

-- the greatest size that a layout may come to, rounded up to its alignment
abbrev pub greatest_size : ℕ
greatest_size = 2 ^ 63 - 1
