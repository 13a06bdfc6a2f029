-- Parts of a region's bytes, and what a write leaves of them.
use Rattle.std.specs.Prelude.{◌≡◌, ℕ, ◌+◌, ◌<◌, ◌≤◌, Bool, true, false, cond, ◌⊎◌, List, [], ◌∷◌, ◌++◌, length, take, drop, ◌==◌, slice_index}

-- the n bytes from a place on
unfoldable pub part : ℕ → ℕ → List ℕ → List ℕ
part place n bytes = take n (drop place bytes)

-- the bytes with new ones in place of those that stood from a place on
unfoldable pub overwrite : ℕ → List ℕ → List ℕ → List ℕ
overwrite place new bytes = take place bytes ++ (new ++ drop (place + length new) bytes)

-- after is before but for the n bytes from a place on
pub record Outside (place n : ℕ) (before after : List ℕ) : Type 0 where
  pub long : length after ≡ length before
  pub same : (i : ℕ) → (i < place) ⊎ (place + n ≤ i) → slice_index after i ≡ slice_index before i

-- are two lists of bytes the same list?
unfoldable pub equal : List ℕ → List ℕ → Bool
equal [] [] = true
equal [] (y ∷ ys) = false
equal (x ∷ xs) [] = false
equal (x ∷ xs) (y ∷ ys) = cond (x == y) (equal xs ys) false
