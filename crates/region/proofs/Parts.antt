-- Parts of bytes after a write, inside it and outside.
use Rattle.std.proofs.Common.{◌≡◌, ℕ, ◌+◌, ◌-◌, ◌<◌, ◌≤◌, ◌⊎◌, List, [], ◌++◌, length, get_or, take, drop, replicate, sym, refl, ap, ◌∙◌, inl, inr, ⊎_elim, arith, get_or-drop, get_or-take, drop-drop, ext_get_or, take-add}
use Rattle.std.proofs.lemmas.List.{drop-replicate, take-replicate}
use Rattle.std.proofs.lemmas.Bool.{cases_lt}
use Rattle.region.specs.Bytes.{Outside, overwrite, part}
use Rattle.region.proofs.Copies.{outside_overwrite, part_overwrite}
use Rattle.region.proofs.Writes.{length_overwrite, length_part}

pub get_or_part : (p n : ℕ) (xs : List ℕ) (i : ℕ) → i < n → get_or (part p n xs) i 0 ≡ get_or xs (p + i) 0
unfolding part
get_or_part p n xs i h = get_or-take n (drop p xs) i 0 h ∙ get_or-drop p xs i 0

pub part_none : (p : ℕ) (xs : List ℕ) → part p 0 xs ≡ []
unfolding part
part_none p xs = refl

-- a byte of what was written, and a byte elsewhere
pub get_or_overwrite_in : (p : ℕ) (v xs : List ℕ) → p + length v ≤ length xs → (i : ℕ) → i < length v → get_or (overwrite p v xs) (p + i) 0 ≡ get_or v i 0
get_or_overwrite_in p v xs h i l = sym (get_or_part p (length v) (overwrite p v xs) i l) ∙ ap (λ z. get_or z i 0) (part_overwrite p v xs h (length v) refl)

pub get_or_overwrite_out : (p : ℕ) (v xs : List ℕ) → p + length v ≤ length xs → (i : ℕ) → (i < p) ⊎ (p + length v ≤ i) → get_or (overwrite p v xs) i 0 ≡ get_or xs i 0
get_or_overwrite_out p v xs h i l = (outside_overwrite p v xs h (length v) (omega arith)).same i l

pub part_written : (p n : ℕ) (v xs : List ℕ) → length v ≡ n → p + n ≤ length xs → part p n (overwrite p v xs) ≡ v
part_written p n v xs e h = part_overwrite p v xs (omega arith) n e

pub part_split : (p m n : ℕ) (xs : List ℕ) → part p (m + n) xs ≡ part p m xs ++ part (p + m) n xs
unfolding part
part_split p m n xs = take-add m n (drop p xs) ∙ ap (λ z. take m (drop p xs) ++ take n z) (drop-drop m p xs)

pub part_part : (p n q m : ℕ) (xs : List ℕ) → q + m ≤ n → p + n ≤ length xs → part q m (part p n xs) ≡ part (p + q) m xs
part_part p n q m xs h k =
    let l = length_part p n xs k in
    let a = length_part q m (part p n xs) (omega arith) in
    ext_get_or 0 (part q m (part p n xs)) (part (p + q) m xs) (a ∙ sym (length_part (p + q) m xs (omega arith))) (λ i b.
    get_or_part q m (part p n xs) i (omega arith) ∙ get_or_part p n xs (q + i) (omega arith)
    ∙ ap (λ z. get_or xs z 0) (let e : p + (q + i) ≡ p + q + i = omega arith in e) ∙ sym (get_or_part (p + q) m xs i (omega arith)))

pub outside_none : (p n : ℕ) (xs : List ℕ) → Outside p n xs xs
outside_none p n xs = record { long = refl; same = λ i h. refl }

pub outside_more : (p n : ℕ) (xs ys between : List ℕ) → Outside p n xs ys → Outside p n ys between → Outside p n xs between
outside_more p n xs ys between a b = record { long = b.long ∙ a.long; same = λ i h. b.same i h ∙ a.same i h }

-- a write inside a part leaves what is outside of the part
pub outside_written : (p n q : ℕ) (v xs : List ℕ) → p ≤ q → q + length v ≤ p + n → p + n ≤ length xs → Outside p n xs (overwrite q v xs)
outside_written p n q v xs a b c = record { long = length_overwrite q v xs (omega arith); same = λ i h. get_or_overwrite_out q v xs (omega arith) i (⊎_elim (λ k. inl (omega arith)) (λ k. inr (omega arith)) h) }

pub part_outside : (p n q m : ℕ) (xs ys : List ℕ) → Outside p n xs ys → (q + m ≤ p) ⊎ (p + n ≤ q) → q + m ≤ length xs → part q m ys ≡ part q m xs
part_outside p n q m xs ys o d h =
    let a = length_part q m ys (omega (arith, o.long)) in
    ext_get_or 0 (part q m ys) (part q m xs) (a ∙ sym (length_part q m xs h)) (λ i b.
    get_or_part q m ys i (omega arith) ∙ o.same (q + i) (⊎_elim (λ k. inl (omega arith)) (λ k. inr (omega arith)) d) ∙ sym (get_or_part q m xs i (omega arith)))

-- a write inside a part, seen in the part
pub part_overwrite_inside : (p n q : ℕ) (v xs : List ℕ) → q + length v ≤ n → p + n ≤ length xs → part p n (overwrite (p + q) v xs) ≡ overwrite q v (part p n xs)
part_overwrite_inside p n q v xs h k =
    let l = length_overwrite (p + q) v xs (omega arith) in
    let a = length_part p n (overwrite (p + q) v xs) (omega arith) in
    let b = length_part p n xs k in
    let c = length_overwrite q v (part p n xs) (omega arith) in
    ext_get_or 0 (part p n (overwrite (p + q) v xs)) (overwrite q v (part p n xs)) (a ∙ sym (c ∙ b)) (λ i d.
    get_or_part p n (overwrite (p + q) v xs) i (omega arith) ∙ at i (omega arith) (cases_lt i q) (cases_lt i (q + length v)))
  where
    at : (i : ℕ) → i < n → (i < q) ⊎ (q ≤ i) → (i < q + length v) ⊎ (q + length v ≤ i) → get_or (overwrite (p + q) v xs) (p + i) 0 ≡ get_or (overwrite q v (part p n xs)) i 0
    at i d (inl e) f = get_or_overwrite_out (p + q) v xs (omega arith) (p + i) (inl (omega arith)) ∙ sym (get_or_overwrite_out q v (part p n xs) (omega (arith, length_part p n xs k)) i (inl e) ∙ get_or_part p n xs i d)
    at i d (inr e) (inr f) = get_or_overwrite_out (p + q) v xs (omega arith) (p + i) (inr (omega arith)) ∙ sym (get_or_overwrite_out q v (part p n xs) (omega (arith, length_part p n xs k)) i (inr f) ∙ get_or_part p n xs i d)
    at i d (inr e) (inl f) =
        let u : p + i ≡ p + q + (i - q) = omega arith in
        let w : i ≡ q + (i - q) = omega arith in
        ap (λ z. get_or (overwrite (p + q) v xs) z 0) u ∙ get_or_overwrite_in (p + q) v xs (omega arith) (i - q) (omega arith)
        ∙ sym (ap (λ z. get_or (overwrite q v (part p n xs)) z 0) w ∙ get_or_overwrite_in q v (part p n xs) (omega (arith, length_part p n xs k)) (i - q) (omega arith))

pub part_zeros : (p n m : ℕ) → p + n ≤ m → part p n (replicate m 0) ≡ replicate n 0
unfolding part
part_zeros p n m h = ap (take n) (drop-replicate p m 0) ∙ take-replicate n (m - p) 0 (omega arith)
