-- What the law of a kind says of whole columns.
use Rattle.std.specs.Prelude.{◌≡◌, ℕ, ◌*◌, ◌<◌, ◌↔◌, List, map, length, slice_index_or}
use Rattle.std.specs.List.{flat_map, AllByRecursion}
use Rattle.region.specs.Bytes.{part}
use Rattle.element.specs.Patterns.{Bytes}

-- A list of values and its bytes determine each other.
pub record Columns {K : Type 0} (width : ℕ) (pattern : K → List ℕ) : Type 0 where
  -- lists of patterns are equal exactly when the lists of values are
  pub patterns : (xs ys : List K) → (map pattern xs ≡ map pattern ys) ↔ (xs ≡ ys)
  -- and so are the bytes that the patterns make, one behind another
  pub bytes : (xs ys : List K) → (flat_map pattern xs ≡ flat_map pattern ys) ↔ (xs ≡ ys)
  -- each pattern is as long as the kind is wide, and the patterns joined are those bytes
  pub wide : (xs : List K) → AllByRecursion (λ p. length p ≡ width) (map pattern xs)
  pub joins : (xs : List K) → flat_map (λ p. p) (map pattern xs) ≡ flat_map pattern xs
  -- as many bytes as values, times the width
  pub long : (xs : List K) → length (flat_map pattern xs) ≡ length xs * width
  -- the pattern of each value stands at its index
  pub place : (xs : List K) (i : ℕ) (d : K) → i < length xs → part (i * width) width (flat_map pattern xs) ≡ pattern (slice_index_or xs i d)
  -- bytes for n values are the bytes of n values
  pub every : (n : ℕ) (bs : List ℕ) → length bs ≡ n * width → Bytes bs → (xs : List K) × (length xs ≡ n) × (flat_map pattern xs ≡ bs)
