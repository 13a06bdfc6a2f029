-- Alignments and multiples of them.
use Rattle.std.proofs.Common.{◌≡◌, ℕ, ◌%◌, ◌^◌, ◌<◌, ◌≤◌, max, sym, refl, ap, ◌∙◌, subst, ⊎_elim, arith, pow_pos, pow_mono}
use native.Mathlib.Nat.{mod_self, mod-eq-zero_of_dvd, dvd_of_mod-eq-zero, dvd_trans}
use Rattle.std.proofs.lemmas.Bool.{cases_lt}
use Rattle.allocation.specs.Alignments.{IsAlignment, greatest_size}
use Rattle.allocation.specs.Meaning.{Valid}
use Rattle.allocation.proofs.Rounding.{pow_multiple, round_up_high}
use Rattle.model.specs.Checks.{request_for}
use Rattle.model.specs.Kinds.{IsWidth, SoundKind, byte}

pub alignment_one : {a : ℕ} → IsAlignment a → 1 ≤ a
alignment_one {a} (e, h, q) = subst (λ z. 1 ≤ z) (sym q) (pow_pos e)

pub width_one : {w : ℕ} → IsWidth w → 1 ≤ w
width_one {w} (e, h, q) = subst (λ z. 1 ≤ z) (sym q) (pow_pos e)

pub sound_byte : SoundKind byte
sound_byte = record { width = (0, omega arith, refl); align = (0, omega arith, refl); within = omega arith }

-- a multiple of a multiple
pub through : (x m a : ℕ) → x % m ≡ 0 → m % a ≡ 0 → x % a ≡ 0
through x m a p q = mod-eq-zero_of_dvd a (dvd_trans a (dvd_of_mod-eq-zero a q) (dvd_of_mod-eq-zero m p))

-- the larger of two alignments is a multiple of each
pub alignment_max : (a p : ℕ) → IsAlignment a → IsAlignment p → max a p % a ≡ 0
alignment_max a p (i, _, e) (j, _, f) = ⊎_elim (λ (h : i < j). above h) (λ h. below h) (cases_lt i j)
  where
    above : i < j → max a p % a ≡ 0
    above h =
        let k : 2 ^ i ≤ 2 ^ j = pow_mono (omega arith) in
        let m : max a p ≡ 2 ^ j = omega (arith, e, f) in
        (λ t. m t % e t) ∙ pow_multiple j i (omega arith)

    below : j ≤ i → max a p % a ≡ 0
    below h =
        let k : 2 ^ j ≤ 2 ^ i = pow_mono h in
        let m : max a p ≡ a = omega (arith, e, f) in
        ap (λ z. z % a) m ∙ mod_self a

pub alignment_1 : IsAlignment 1
alignment_1 = (0, omega arith, refl)

pub alignment_256 : IsAlignment 256
alignment_256 = (8, omega arith, refl)

pub max_one : (a p : ℕ) → 1 ≤ a → 1 ≤ max a p
max_one a p h = omega arith

-- where a line without a backing starts
pub far_multiple : (a : ℕ) → IsAlignment a → (2 ^ 63) % a ≡ 0
far_multiple a p = ap (λ z. (2 ^ 63) % z) p.2 ∙ pow_multiple 63 p.0 (omega (arith, p.1))

-- what is asked for at alignment 1 is valid within the limit
pub valid_for : (n : ℕ) → n ≤ greatest_size → Valid (request_for n)
valid_for n h = ((0, omega arith, refl), omega (arith, round_up_high n 1 (omega arith)))
