-- Lists of things that each have a number, the key: the lines of a book and the rows of a table, by serial.
use Rattle.std.specs.Prelude.{ℕ, ◌+◌, ◌<◌, ◌≤◌, Bool, true, false, cond, List, [], ◌∷◌, Some, None, Option, ◌==◌}

-- each thing in the list is so
abbrev pub All : {X : Type 0} → (X → Type 0) → List X → Type 0
All P [] = Unit {0}
All P (x ∷ xs) = P x × All P xs

-- the thing with key s: the one place where a search is defined
unfoldable pub find : {X : Type 0} → (X → ℕ) → ℕ → List X → Option X
find key s [] = None
find key s (x ∷ xs) = cond (key x == s) (Some x) (find key s xs)

-- the thing with key s changed by f
unfoldable pub update : {X : Type 0} → (X → ℕ) → ℕ → (X → X) → List X → List X
update key s f [] = []
update key s f (x ∷ xs) = cond (key x == s) (f x) x ∷ update key s f xs

-- all but the thing with key s
unfoldable pub without : {X : Type 0} → (X → ℕ) → ℕ → List X → List X
without key s [] = []
without key s (x ∷ xs) = cond (key x == s) (without key s xs) (x ∷ without key s xs)

-- does a thing with another key than s pass the test?
unfoldable pub any_other : {X : Type 0} → (X → ℕ) → (X → Bool) → ℕ → List X → Bool
any_other key test s [] = false
any_other key test s (x ∷ xs) = cond (key x == s) (any_other key test s xs) (cond (test x) true (any_other key test s xs))

-- oldest first: the keys rise, from `low` on and all below n
unfoldable pub Rising : {X : Type 0} → (X → ℕ) → ℕ → ℕ → List X → Type 0
Rising key low n [] = Unit {0}
Rising key low n (x ∷ xs) = (low ≤ key x) × (key x < n) × Rising key (key x + 1) n xs
