-- Searches of keyed lists in the library's words.
use Rattle.std.proofs.Common.{◌≡◌, ℕ, suc, ◌<◌, Bool, true, false, cond, not, ◌&&◌, ◌||◌, eqb, List, [], ◌∷◌, length, get_or, Some, None, Option, MatchOption, refl, arith, ◌≢◌}
use Rattle.std.specs.List.{list_any}
use Rattle.std.proofs.lemmas.Bool.{ne_eqb}
use Rattle.model.specs.declared.line.Line.{Line}
use Rattle.model.specs.Book.{serial_of, blank}
use Rattle.model.specs.Keyed.{find, any_other}
use Rattle.book.specs.Held.{line_at, At}

-- a key that stands at no place is not found
find_none : {X : Type 0} (key : X → ℕ) (d : X) (s : ℕ) (xs : List X) → ((k : ℕ) → k < length xs → key (get_or xs k d) ≢ s) → find key s xs ≡ None
unfolding find
find_none key d s [] h = refl
find_none key d s (x ∷ xs) h = rw (ne_eqb (key x) s (h 0 (omega arith))) (find_none key d s xs (λ k lt. h (suc k) (omega arith)))

pub found_or_none : (ls : List Line) (s : ℕ) (r : Option ℕ) → MatchOption r ((k : ℕ) → k < length ls → (line_at ls k).serial ≢ s) (λ i. At ls i s) → MatchOption r (find serial_of s ls ≡ None) (λ i. At ls i s)
found_or_none ls s None h = find_none serial_of blank s ls h
found_or_none ls s (Some i) h = h

-- some thing with another key passes the test
pub any_other_any : {X : Type 0} (key : X → ℕ) (t : X → Bool) (s : ℕ) (xs : List X) → any_other key t s xs ≡ list_any (λ x. not (eqb (key x) s) && t x) xs
unfolding any_other
any_other_any key t s [] = refl
any_other_any key t s (x ∷ xs) = go (eqb (key x) s) (t x) (any_other_any key t s xs)
  where
    go : {u v : Bool} (a b : Bool) → u ≡ v → cond a u (cond b true u) ≡ ((not a && b) || v)
    go true b e = e
    go false true e = refl
    go false false e = e
