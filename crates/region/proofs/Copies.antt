-- What a write leaves of a part: the bytes written there, and all others as they were.
use Rattle.std.proofs.Common.{◌≡◌, ℕ, ◌+◌, ◌-◌, ◌≤◌, List, ◌++◌, length, get_or, take, drop, sym, refl, ap, ◌∙◌, ⊎_elim, arith}
use Rattle.std.proofs.lemmas.List.{take_at, drop_at, drop-drop, take-append-drop, length-take-le, get_or_append_left, get_or-append_right, get_or-take, get_or-drop}
use Rattle.region.specs.Bytes.{part, overwrite, Outside}
use Rattle.region.proofs.Writes.{length_overwrite, length_part}

module _ (place : ℕ) (bs xs : List ℕ) (h : place + length bs ≤ length xs) where
  -- the part that was written holds what was written
  pub part_overwrite : (n : ℕ) → length bs ≡ n → part place n (overwrite place bs xs) ≡ bs
  unfolding part overwrite
  part_overwrite n e =
      let front : length (take place xs) ≡ place = length-take-le place xs (omega arith) in
      ap (take n) (drop_at (take place xs) (bs ++ drop (place + length bs) xs) place front) ∙ take_at bs (drop (place + length bs) xs) n e

  -- bytes outside of a part that holds what was written are as they were
  pub outside_overwrite : (n : ℕ) → length bs ≤ n → Outside place n xs (overwrite place bs xs)
  unfolding overwrite
  outside_overwrite n le =
      let front : length (take place xs) ≡ place = length-take-le place xs (omega arith) in
      let rest : List ℕ = drop (place + length bs) xs in
      record {
        long = length_overwrite place bs xs h;
        same = λ i.
            ⊎_elim (λ below. get_or_append_left (take place xs) (bs ++ rest) 0 i (omega arith) ∙ get_or-take place xs i 0 below)
            (λ above.
            let at : place + length bs + (i - place - length bs) ≡ i = omega arith in
            get_or-append_right (take place xs) (bs ++ rest) place i 0 front (omega arith) ∙ get_or-append_right bs rest (length bs) (i - place) 0 refl (omega arith) ∙ get_or-drop (place + length bs) xs (i - place - length bs) 0 ∙ ap (λ (k : ℕ). get_or xs k 0) at);
      }

-- a part written over itself changes nothing
pub overwrite_itself : (place n : ℕ) (xs : List ℕ) → place + n ≤ length xs → overwrite place (part place n xs) xs ≡ xs
unfolding part overwrite
overwrite_itself place n xs h =
    let e : length (take n (drop place xs)) ≡ n = length_part place n xs h in
    ap (λ (k : ℕ). take place xs ++ (take n (drop place xs) ++ drop (place + k) xs)) e ∙ ap (λ (t : List ℕ). take place xs ++ (take n (drop place xs) ++ t)) (sym (drop-drop n place xs)) ∙ ap (λ (t : List ℕ). take place xs ++ t) (take-append-drop n (drop place xs)) ∙ take-append-drop place xs
