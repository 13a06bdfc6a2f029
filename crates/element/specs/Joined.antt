-- The patterns of values, one behind another.
use Rattle.std.specs.Prelude.{◌≡◌, ℕ, zero, suc, List, [], ◌∷◌, ◌++◌, map, length, replicate, refl}
use Rattle.std.specs.List.{flat_map, AllByRecursion}
use Rattle.std.proofs.Common.{ap}

module _ {K : Type 0} (w : ℕ) (f : K → List ℕ) (long : (x : K) → length (f x) ≡ w) where
  pub wide_map : (xs : List K) → AllByRecursion (λ p. length p ≡ w) (map f xs)
  wide_map [] = tt
  wide_map (x ∷ xs) = (long x, wide_map xs)

  pub wide_replicate : (n : ℕ) (x : K) → AllByRecursion (λ p. length p ≡ w) (replicate n (f x))
  wide_replicate zero x = tt
  wide_replicate (suc n) x = (long x, wide_replicate n x)

module _ {K : Type 0} (f : K → List ℕ) where
  pub joins_map : (xs : List K) → flat_map (λ p. p) (map f xs) ≡ flat_map f xs
  joins_map [] = refl
  joins_map (x ∷ xs) = ap (λ bs. f x ++ bs) (joins_map xs)

  pub joins_replicate : (n : ℕ) (x : K) → flat_map (λ p. p) (replicate n (f x)) ≡ flat_map f (replicate n x)
  joins_replicate zero x = refl
  joins_replicate (suc n) x = ap (λ bs. f x ++ bs) (joins_replicate n x)
