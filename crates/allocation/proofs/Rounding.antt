-- Powers of two and rounding up to a multiple: `round_up n m` is the first multiple of m at or above n.
use Rattle.std.proofs.Common.{◌≡◌, ℕ, ◌+◌, ◌-◌, ◌*◌, ◌/◌, ◌%◌, ◌^◌, ◌<◌, ◌≤◌, eqb, leb, ◌⊎◌, sym, ap, ◌∙◌, inl, inr, ⊎_elim, mul-le-mul_right, mod-lt, mod-eq_of_lt, add-mul, div-add-mod', arith, pow_pos, pow_mono, pow-add}
use native.Mathlib.Nat.{add-mod, mod-mod, mod_self, zero-mod}
use lib.Pow.{pow-lt, low}
use Rattle.std.proofs.lemmas.Bool.{cases_lt, le-leb, lt-leb, eq-eqb, ne_eqb}
use Rattle.allocation.specs.Alignments.{greatest_exponent, round_up, greatest_size}

pub round_up_low : (n m : ℕ) → n ≤ round_up n m
unfolding round_up
round_up_low n m = omega arith

pub round_up_high : (n m : ℕ) → 1 ≤ m → round_up n m < n + m
unfolding round_up
round_up_high n m h = let k : (m - n % m) % m < m = mod-lt (m - n % m) {m = m} h in omega arith

pub round_up_multiple : (n m : ℕ) → 1 ≤ m → round_up n m % m ≡ 0
unfolding round_up
round_up_multiple n m h = add-mod n ((m - n % m) % m) m ∙ ap (λ z. (n % m + z) % m) (mod-mod (m - n % m) m) ∙ go (cases_lt 0 (n % m))
  where
    go : (0 < n % m) ⊎ (n % m ≤ 0) → (n % m + (m - n % m) % m) % m ≡ 0
    go (inl k) =
        let r = mod-lt n {m = m} h in
        let e : (m - n % m) % m ≡ m - n % m = mod-eq_of_lt (omega arith) in
        ap (λ z. (n % m + z) % m) e ∙ ap (λ z. z % m) (let s : n % m + (m - n % m) ≡ m = omega arith in s) ∙ mod_self m
    go (inr k) =
        let z : n % m ≡ 0 = omega arith in
        ap (λ r. (r + (m - r) % m) % m) z ∙ (let s : 0 + (m - 0) % m ≡ 0 = (let t : m - 0 ≡ m = omega arith in let u : m % m ≡ 0 = mod_self m in omega (arith, ap (λ y. y % m) t)) in ap (λ y. y % m) s) ∙ zero-mod m

-- two multiples of m are m apart
pub next_multiple : (a b m : ℕ) → a % m ≡ 0 → b % m ≡ 0 → a < b → a + m ≤ b
next_multiple a b m ea eb h = go (cases_lt (a / m) (b / m))
  where
    wa : a / m * m ≡ a
    wa = omega (arith, div-add-mod' a m)

    wb : b / m * m ≡ b
    wb = omega (arith, div-add-mod' b m)

    go : (a / m < b / m) ⊎ (b / m ≤ a / m) → a + m ≤ b
    go (inl k) = let s : a / m + 1 ≤ b / m = omega arith in omega (arith, mul-le-mul_right m s, add-mul (a / m) 1 m)
    go (inr k) = absurd (let t = mul-le-mul_right m k in omega arith)

-- no multiple of m at or above n lies below
pub round_up_first : (n m q : ℕ) → 1 ≤ m → n ≤ q → q % m ≡ 0 → round_up n m ≤ q
round_up_first n m q h le e = ⊎_elim (λ (k : q < round_up n m). absurd (omega (arith, next_multiple q (round_up n m) m e (round_up_multiple n m h) k, round_up_high n m h))) (λ k. k) (cases_lt q (round_up n m))

-- the smaller of two powers of two divides the greater
pub pow_multiple : (i j : ℕ) → j ≤ i → (2 ^ i) % (2 ^ j) ≡ 0
pow_multiple i j h =
    let split : i ≡ (i - j) + j = omega arith in
    let e : 2 ^ i ≡ 2 ^ (i - j) * 2 ^ j + 0 = ap (λ n. 2 ^ n) split ∙ pow-add 2 (i - j) j ∙ omega arith in
    ap (λ n. n % 2 ^ j) e ∙ low (2 ^ (i - j)) j (pow_pos j)

pub pow_divides : (i j : ℕ) → leb j i ≡ eqb ((2 ^ i) % (2 ^ j)) 0
pow_divides i j = ⊎_elim above below (cases_lt i j)
  where
    above : i < j → leb j i ≡ eqb ((2 ^ i) % (2 ^ j)) 0
    above h = let p = pow_pos i in lt-leb j i h ∙ sym (ne_eqb _ 0 (λ e. let r : (2 ^ i) % (2 ^ j) ≡ 2 ^ i = mod-eq_of_lt (pow-lt h) in omega arith))

    below : j ≤ i → leb j i ≡ eqb ((2 ^ i) % (2 ^ j)) 0
    below h = le-leb j i h ∙ sym (eq-eqb _ 0 (pow_multiple i j h))

-- when a layout's size stays within the limit
pub size_within : (size e : ℕ) → e ≤ greatest_exponent → size ≤ greatest_size - (2 ^ e - 1) → round_up size (2 ^ e) ≤ greatest_size
size_within size e le h =
    let p = pow_pos e in
    let q : 2 ^ e ≤ 2 ^ greatest_exponent = pow_mono le in
    omega (arith, round_up_high size (2 ^ e) p)

pub size_beyond : (size e : ℕ) → e ≤ greatest_exponent → greatest_size - (2 ^ e - 1) < size → greatest_size < round_up size (2 ^ e)
size_beyond size e le h = ⊎_elim (λ (k : round_up size (2 ^ e) < 2 ^ 63). absurd (omega (arith, next_multiple (round_up size (2 ^ e)) (2 ^ 63) (2 ^ e) (round_up_multiple size (2 ^ e) p) (pow_multiple 63 e (omega arith)) k, round_up_low size (2 ^ e)))) (λ k. omega arith) (cases_lt (round_up size (2 ^ e)) (2 ^ 63))
  where
    p : 1 ≤ 2 ^ e
    p = pow_pos e
