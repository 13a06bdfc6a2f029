-- Values one behind another: how long their patterns are together, where each stands, and one value more.
use Rattle.std.proofs.Common.{◌≡◌, ℕ, ◌+◌, ◌*◌, ◌/◌, ◌^◌, ◌<◌, ◌≤◌, List, [], ◌∷◌, ◌++◌, length, sym, ap, ◌∙◌, mul-le-mul_right, suc-mul, div-lt_iff_lt-mul, add-mul, le-div_iff_mul-le, arith, pow_pos, pow_mono}
use Rattle.std.specs.List.{flat_map}
use Rattle.std.proofs.lemmas.List.{flat_map_more, length-append}
use Rattle.region.specs.Bytes.{overwrite}
use Rattle.region.proofs.Writes.{overwrite_behind}
use Rattle.element.specs.Patterns.{Shaped}

-- value i ends before n values do
pub ends_within : (i n w : ℕ) → i < n → i * w + w ≤ n * w
ends_within i n w h = let more : i + 1 ≤ n = omega arith in omega (arith, mul-le-mul_right w more, add-mul i 1 w)

-- a value below the number of whole values ends within the part, and one that is not does not
pub ends_inside : (i m w : ℕ) → 0 < w → i < m / w → i * w + w ≤ m
ends_inside i m w p h = let more : i + 1 ≤ m / w = omega arith in omega (arith, (le-div_iff_mul-le {k = w} {x = i + 1} {y = m} p).0 more, add-mul i 1 w)

pub ends_outside : (i m w : ℕ) → 0 < w → m / w ≤ i → m < i * w + w
ends_outside i m w p h = let more : m / w < i + 1 = omega arith in omega (arith, (div-lt_iff_lt-mul {k = w} {x = m} {y = i + 1} p).0 more, add-mul i 1 w)

-- no width is 0
pub wide : {w a : ℕ} → Shaped w a → 0 < w
wide s = let above : 0 < 2 ^ s.wide.0 = pow_pos s.wide.0 in omega (arith, s.wide.2)

-- and none is above 16
pub at_most_16 : {w a : ℕ} → Shaped w a → w ≤ 16
at_most_16 s = let top : 2 ^ s.wide.0 ≤ 2 ^ 4 = pow_mono s.wide.1 in omega (arith, s.wide.2)

pub place_within : (place i n w w' m : ℕ) → i < n → w' ≡ w → place + n * w ≤ m → place + i * w' + w' ≤ m
place_within place i n w w' m h e p = rw e (omega (arith, ends_within i n w h))

module _ {K : Type 0} (w : ℕ) (f : K → List ℕ) (long : (x : K) → length (f x) ≡ w) where
  pub length_joined : (xs : List K) → length (flat_map f xs) ≡ length xs * w
  length_joined [] = omega arith
  length_joined (x ∷ xs) = length-append (f x) (flat_map f xs) ∙ omega (arith, long x, length_joined xs, suc-mul (length xs) w)

  -- one value more, written behind the others
  pub write_more : (xs : List K) (x : K) (ys : List K) (place i v : ℕ) (r₀ r : List ℕ) → length xs ≡ i → xs ++ x ∷ [] ≡ ys → v ≡ w → place ≤ length r₀ → r ≡ overwrite place (flat_map f xs) r₀ → overwrite (place + i * v) (f x) r ≡ overwrite place (flat_map f ys) r₀
  write_more xs x ys place i v r₀ r count more wide room before =
      let at : place + i * v ≡ place + length (flat_map f xs) = ap (λ u. place + i * u) wide ∙ ap (λ n. place + n * w) (sym count) ∙ omega (arith, length_joined xs) in
      ap (overwrite (place + i * v) (f x)) before ∙ overwrite_behind place (flat_map f xs) (f x) _ r₀ room at ∙ ap (λ bs. overwrite place bs r₀) (flat_map_more f [] xs x ∙ ap (flat_map f) more)
