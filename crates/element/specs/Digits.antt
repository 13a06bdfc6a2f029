-- Numbers and their digits in base 256, over the width: one argument for every integer kind.
use Rattle.std.specs.Prelude.{◌≡◌, ℕ, zero, suc, ◌+◌, ◌*◌, ◌/◌, ◌%◌, ◌^◌, ◌<◌, ◌≤◌, List, [], ◌∷◌, length, ℤ, pos, negsuc, FitsSigned, slice_index, refl}
use Rattle.std.proofs.Common.{sym, ap, subst, ◌∙◌, pow-suc, arith, lit<, of_z, to_z, Fits, to_z-of_z}
use Rattle.std.proofs.Math.Nat.{suc_inj}
use Rattle.std.specs.Int.{w8, w64}
use Rattle.std.proofs.Math.Facts.{of_z-to_z, sfits_to_z}
use Rattle.std.proofs.lemmas.Bool.Decides.{nat_tests}
use Rattle.element.specs.Patterns.{Bytes, OneToOne, Shaped, digits, complement}

-- the number of a list of digits, the lowest first
abbrev pub value : List ℕ → ℕ
value [] = 0
value (b ∷ bs) = b + 256 * value bs

pub length_digits : (w n : ℕ) → length (digits w n) ≡ w
length_digits zero n = refl
length_digits (suc zero) n = refl
length_digits (suc (suc w)) n = ap suc (length_digits (suc w) (n / 256))

-- digits keep the number whole
pub value_digits : (w n : ℕ) → value (digits (suc w) n) ≡ n
value_digits zero n = omega arith
value_digits (suc w) n = omega (arith, value_digits w (n / 256))

pub digits_value : (w : ℕ) (bs : List ℕ) → length bs ≡ suc w → Bytes bs → digits (suc w) (value bs) ≡ bs
digits_value w [] n p = absurd (omega (arith, n))
digits_value zero (b ∷ []) n p = ap (λ (k : ℕ). k ∷ []) (omega arith)
digits_value (suc w) (b ∷ []) n p = absurd (omega (arith, n))
digits_value zero (b ∷ c ∷ bs) n p = absurd (omega (arith, n))
digits_value (suc w) (b ∷ c ∷ bs) n p =
    let small : b < 256 = p.0 in
    let low : (b + 256 * value (c ∷ bs)) % 256 ≡ b = omega arith in
    let high : (b + 256 * value (c ∷ bs)) / 256 ≡ value (c ∷ bs) = omega arith in
    let rest : digits (suc w) (value (c ∷ bs)) ≡ c ∷ bs = digits_value w (c ∷ bs) (suc_inj n) p.1 in
    rw (low, high, rest)

pub value_below : (bs : List ℕ) → Bytes bs → value bs < 256 ^ length bs
value_below [] p = lit< tt
value_below (b ∷ bs) p =
    let rest : value bs < 256 ^ length bs = value_below bs p.1 in
    rw pow-suc (omega (arith, p.0))

-- what code holds in a `u8` is a byte
pub bytes_held : (bs : List ℕ) → ((i : ℕ) → Fits w8 (slice_index bs i)) → Bytes bs
bytes_held [] f = tt
bytes_held (b ∷ bs) f = ((f 0).fits, bytes_held bs (λ i. f (suc i)))

-- a kind that is aligned to its width
pub aligned_to_width : (e : ℕ) → e ≤ 4 → Shaped (2 ^ e) (2 ^ e)
aligned_to_width e h = record { wide = (e, h, refl); grain = (e, h, refl); within = omega arith }

pub unsigned : (w : ℕ) → OneToOne (suc w) (digits (suc w))
unsigned w = record {
  long = length_digits (suc w);
  one = λ x y e. sym (value_digits w x) ∙ ap value e ∙ value_digits w y;
  every = λ bs n p. (value bs, digits_value w bs n p);
}

-- two's complement, where 64 bits hold the integer
pub complement_held : (z : ℤ) → FitsSigned w64 z → complement z ≡ of_z w64 z
unfolding complement
complement_held (pos n) f = grind (arith, nat_tests)
complement_held (negsuc n) f = grind (arith, nat_tests)

-- no two integers have one complement
complement_one : (x y : ℤ) → complement x ≡ complement y → x ≡ y
unfolding complement
complement_one (pos m) (pos n) e = ap pos (grind (arith, nat_tests))
complement_one (pos m) (negsuc n) e = absurd (grind (arith, nat_tests))
complement_one (negsuc m) (pos n) e = absurd (grind (arith, nat_tests))
complement_one (negsuc m) (negsuc n) e = ap negsuc (grind (arith, nat_tests))

-- the integer that was read from 64 bits has them for its complement
pub complement_read : (n : ℕ) → Fits w64 n → complement (to_z w64 n) ≡ n
complement_read n f = complement_held (to_z w64 n) (sfits_to_z f) ∙ of_z-to_z f

pub signed : OneToOne 8 (λ z. digits 8 (complement z))
signed = record {
  long = λ z. length_digits 8 (complement z);
  one = λ x y e. complement_one x y ((unsigned 7).one (complement x) (complement y) e);
  every = λ bs n p.
      let fits : Fits w64 (value bs) = record { fits = subst (λ (k : ℕ). value bs < 256 ^ k) n (value_below bs p) } in
      (to_z w64 (value bs), ap (digits 8) (complement_read (value bs) fits) ∙ digits_value 7 bs n p);
}

-- the bits of an integer that was handed over, written
pub signed_put : (z : ℤ) (n : ℕ) (out : List ℕ) → FitsSigned w64 z → n ≡ of_z w64 (to_z w64 (of_z w64 z)) → out ≡ digits 8 n → out ≡ digits 8 (complement z)
signed_put z n out f e w = w ∙ ap (digits 8) (e ∙ ap (of_z w64) (to_z-of_z f) ∙ sym (complement_held z f))

-- an integer that was made of bits and handed over
pub signed_get : (z : ℤ) (n : ℕ) (bs : List ℕ) → Fits w64 n → FitsSigned w64 z → z ≡ to_z w64 n → digits 8 n ≡ bs → digits 8 (complement (to_z w64 (of_z w64 z))) ≡ bs
signed_get z n bs f g e w = ap (λ (y : ℤ). digits 8 (complement y)) (to_z-of_z g ∙ e) ∙ ap (digits 8) (complement_read n f) ∙ w
