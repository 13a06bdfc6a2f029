-- Elements as byte patterns, and patterns as bytes one after another.
use Rattle.std.specs.Prelude.{◌≡◌, ℕ, zero, suc, List, [], ◌∷◌, ◌++◌, length, take, drop}
use Rattle.model.specs.Keyed.{All}

-- the bytes of the patterns, one pattern after another
unfoldable pub joined : List (List ℕ) → List ℕ
joined [] = []
joined (p ∷ ps) = p ++ joined ps

-- the first n patterns of w bytes that some bytes are joined from
unfoldable pub chunks : ℕ → ℕ → List ℕ → List (List ℕ)
chunks w zero bytes = []
chunks w (suc n) bytes = take w bytes ∷ chunks w n (drop w bytes)

-- every pattern is w bytes wide
unfoldable pub Even : ℕ → List (List ℕ) → Type 0
Even w ps = All (λ p. length p ≡ w) ps
