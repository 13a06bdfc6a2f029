-- Where serials rise, the line that stands at a place is the one that its serial finds: what is done at the place is done to that serial.
use Rattle.std.proofs.Common.{◌≡◌, ℕ, zero, suc, ◌+◌, ◌<◌, ◌≤◌, false, eqb, List, [], ◌∷◌, length, get_or, set, Some, sym, refl, ap, arith}
use Rattle.std.specs.List.{remove}
use Rattle.std.proofs.lemmas.Bool.{eq-eqb, ne_eqb}
use Rattle.model.specs.declared.line.Line.{Line}
use Rattle.model.specs.Book.{serial_of, blank}
use Rattle.model.specs.Keyed.{find, update, without, Rising}
use Rattle.book.specs.Held.{line_at, At}

module _ {X : Type 0} (key : X → ℕ) (d : X) where
  rising_at : (low n : ℕ) (xs : List X) (i : ℕ) → Rising key low n xs → i < length xs → low ≤ key (get_or xs i d)
  unfolding Rising
  rising_at low n [] i r lt = absurd (omega arith)
  rising_at low n (x ∷ xs) zero r lt = r.0
  rising_at low n (x ∷ xs) (suc i) r lt = let h : key x + 1 ≤ key (get_or xs i d) = rising_at (key x + 1) n xs i r.2 (omega arith) in omega (arith, r.0)

  update_below : (low n s : ℕ) (f : X → X) (xs : List X) → Rising key low n xs → s < low → update key s f xs ≡ xs
  unfolding Rising update
  update_below low n s f [] r lt = refl
  update_below low n s f (x ∷ xs) r lt =
      let u : eqb (key x) s ≡ false = ne_eqb (key x) s (λ q. omega (arith, r.0)) in
      rw u (ap (λ zs. x ∷ zs) (update_below (key x + 1) n s f xs r.2 (omega (arith, r.0))))

  without_below : (low n s : ℕ) (xs : List X) → Rising key low n xs → s < low → without key s xs ≡ xs
  unfolding Rising without
  without_below low n s [] r lt = refl
  without_below low n s (x ∷ xs) r lt =
      let u : eqb (key x) s ≡ false = ne_eqb (key x) s (λ q. omega (arith, r.0)) in
      rw u (ap (λ zs. x ∷ zs) (without_below (key x + 1) n s xs r.2 (omega (arith, r.0))))

  later : (low n s : ℕ) (x : X) (xs : List X) (i : ℕ) → Rising key low n (x ∷ xs) → suc i < length (x ∷ xs) → key (get_or xs i d) ≡ s → eqb (key x) s ≡ false
  unfolding Rising
  later low n s x xs i r lt e = let h : key x + 1 ≤ key (get_or xs i d) = rising_at (key x + 1) n xs i r.2 (omega arith) in ne_eqb (key x) s (λ q. omega arith)

  find_at : (low n s : ℕ) (xs : List X) (i : ℕ) → Rising key low n xs → i < length xs → key (get_or xs i d) ≡ s → find key s xs ≡ Some (get_or xs i d)
  unfolding Rising find
  find_at low n s [] i r lt e = absurd (omega arith)
  find_at low n s (x ∷ xs) zero r lt e = rw (eq-eqb (key x) s e)
  find_at low n s (x ∷ xs) (suc i) r lt e = rw (later low n s x xs i r lt e) (find_at (key x + 1) n s xs i r.2 (omega arith) e)

  update_at : (low n s : ℕ) (f : X → X) (xs : List X) (i : ℕ) → Rising key low n xs → i < length xs → key (get_or xs i d) ≡ s → update key s f xs ≡ set xs i (f (get_or xs i d))
  unfolding Rising update
  update_at low n s f [] i r lt e = absurd (omega arith)
  update_at low n s f (x ∷ xs) zero r lt e = rw (eq-eqb (key x) s e) (ap (λ zs. f x ∷ zs) (update_below (key x + 1) n s f xs r.2 (omega arith)))
  update_at low n s f (x ∷ xs) (suc i) r lt e = rw (later low n s x xs i r lt e) (ap (λ zs. x ∷ zs) (update_at (key x + 1) n s f xs i r.2 (omega arith) e))

  without_at : (low n s : ℕ) (xs : List X) (i : ℕ) → Rising key low n xs → i < length xs → key (get_or xs i d) ≡ s → without key s xs ≡ remove xs i
  unfolding Rising without
  without_at low n s [] i r lt e = absurd (omega arith)
  without_at low n s (x ∷ xs) zero r lt e = rw (eq-eqb (key x) s e) (without_below (key x + 1) n s xs r.2 (omega arith))
  without_at low n s (x ∷ xs) (suc i) r lt e = rw (later low n s x xs i r lt e) (ap (λ zs. x ∷ zs) (without_at (key x + 1) n s xs i r.2 (omega arith) e))

-- the lines of a book: what `position` answers is handed on as it came
module _ (low n : ℕ) (ls : List Line) (i s : ℕ) (rises : Rising serial_of low n ls) (here : At ls i s) where
  pub found_at : find serial_of s ls ≡ Some (line_at ls i)
  found_at = find_at serial_of blank low n s ls i rises here.0 here.1

  pub put_at : (new : Line) → set ls i new ≡ update serial_of s (λ _. new) ls
  put_at new = sym (update_at serial_of blank low n s (λ _. new) ls i rises here.0 here.1)

  pub ended_at : remove ls i ≡ without serial_of s ls
  ended_at = sym (without_at serial_of blank low n s ls i rises here.0 here.1)
