-- What an element kind owes, and the byte patterns of the integers.
-- A `u32` of the code is any number in a clause, and an `i64` any integer. So the patterns below are one to one on all of them, and those of the
-- numbers that the type holds are bytes.
use Rattle.std.specs.Prelude.{◌≡◌, ℕ, zero, suc, ◌+◌, ◌-◌, ◌/◌, ◌%◌, ◌^◌, ◌<◌, ◌≤◌, cond, List, [], ◌∷◌, length, ℤ, pos, negsuc, nat_lt}

-- each entry is a byte
abbrev pub Bytes : List ℕ → Type 0
Bytes [] = Unit {0}
Bytes (b ∷ bs) = (b < 256) × Bytes bs

-- Each value has one pattern, which is `width` long; different values have different ones; every list of `width` bytes is the pattern of a value.
pub record OneToOne {K : Type 0} (width : ℕ) (pattern : K → List ℕ) : Type 0 where
  pub long : (x : K) → length (pattern x) ≡ width
  pub one : (x y : K) → pattern x ≡ pattern y → x ≡ y
  pub every : (bs : List ℕ) → length bs ≡ width → Bytes bs → (x : K) × (pattern x ≡ bs)

-- 1, 2, 4, 8 or 16
abbrev pub ShortPower : ℕ → Type 0
ShortPower n = (e : ℕ) × (e ≤ 4) × (n ≡ 2 ^ e)

-- a kind's width and alignment
pub record Shaped (width align : ℕ) : Type 0 where
  pub wide : ShortPower width
  pub grain : ShortPower align
  pub within : align ≤ width

-- the w digits of n in base 256, the lowest first; the last is all that is left, and below 256 where n is below 256 ^ w
abbrev pub digits : ℕ → ℕ → List ℕ
digits zero n = []
digits (suc zero) n = n ∷ []
digits (suc (suc w)) n = (n % 256) ∷ digits (suc w) (n / 256)

-- two's complement in 64 bits; an integer that they cannot hold has a number of its own beyond them
unfoldable pub complement : ℤ → ℕ
complement (pos n) = cond (nat_lt n (2 ^ 63)) n (n + n)
complement (negsuc n) = cond (nat_lt n (2 ^ 63)) (2 ^ 64 - suc n) (suc (n + n))
