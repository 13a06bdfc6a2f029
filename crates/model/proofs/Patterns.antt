-- Lists of patterns of one width, and their bytes.
use Rattle.std.proofs.Common.{◌≡◌, ℕ, zero, suc, ◌+◌, ◌-◌, ◌*◌, ◌<◌, ◌≤◌, List, [], ◌∷◌, ◌++◌, length, take, drop, set, replicate, sym, refl, ap, ◌∙◌, append_assoc, zero-add, zero-mul, arith, length-append, length-drop, take-append-drop, length-take-le, take_at, drop_at}
use lib.ListN.{length-replicate, replicate-append-replicate}
use lib.Seq.{take-nil, drop-nil, take-append-add, drop-append-add, drop-append_seam}
use Rattle.std.proofs.lemmas.List.{nil_from_length}
use Rattle.region.specs.Bytes.{overwrite, part}
use Rattle.region.proofs.Writes.{overwrite_none}
use Rattle.model.specs.Patterns.{Even, chunks, joined}

-- patterns of one width
pub length_joined : (w : ℕ) (ps : List (List ℕ)) → Even w ps → length (joined ps) ≡ length ps * w
unfolding joined Even
length_joined w [] e = sym (zero-mul w)
length_joined w (p ∷ ps) e = length-append p (joined ps) ∙ (let i = length_joined w ps e.1 in omega (arith, e.0))

pub joined_append : (ps qs : List (List ℕ)) → joined (ps ++ qs) ≡ joined ps ++ joined qs
unfolding joined
joined_append [] qs = refl
joined_append (p ∷ ps) qs = ap (λ z. p ++ z) (joined_append ps qs) ∙ sym (append_assoc p (joined ps) (joined qs))

pub joined_take : (w k : ℕ) (ps : List (List ℕ)) → Even w ps → joined (take k ps) ≡ take (k * w) (joined ps)
unfolding joined Even
joined_take w zero ps e = rw (zero-mul w)
joined_take w (suc k) [] e = sym (take-nil (suc k * w))
joined_take w (suc k) (p ∷ ps) e =
    let m : suc k * w ≡ length p + k * w = omega (arith, e.0) in
    rw m (ap (λ z. p ++ z) (joined_take w k ps e.1) ∙ sym (take-append-add p (joined ps) (k * w)))

pub joined_drop : (w k : ℕ) (ps : List (List ℕ)) → Even w ps → joined (drop k ps) ≡ drop (k * w) (joined ps)
unfolding joined Even
joined_drop w zero ps e = rw (zero-mul w)
joined_drop w (suc k) [] e = sym (drop-nil (suc k * w))
joined_drop w (suc k) (p ∷ ps) e =
    let m : suc k * w ≡ length p + k * w = omega (arith, e.0) in
    rw m (joined_drop w k ps e.1 ∙ sym (drop-append-add p (joined ps) (k * w)))

pub even_drop : (w k : ℕ) (ps : List (List ℕ)) → Even w ps → Even w (drop k ps)
unfolding Even
even_drop w zero ps e = e
even_drop w (suc k) [] e = e
even_drop w (suc k) (p ∷ ps) e = even_drop w k ps e.1

pub joined_part : (w b n : ℕ) (ps : List (List ℕ)) → Even w ps → joined (take n (drop b ps)) ≡ part (b * w) (n * w) (joined ps)
unfolding part
joined_part w b n ps e = joined_take w n (drop b ps) (even_drop w b ps e) ∙ ap (take (n * w)) (joined_drop w b ps e)

pub even_none : (w : ℕ) → Even w []
unfolding Even
even_none w = tt

pub even_one : (w : ℕ) (v : List ℕ) → length v ≡ w → Even w (v ∷ [])
unfolding Even
even_one w v h = (h, tt)

pub even_take : (w k : ℕ) (ps : List (List ℕ)) → Even w ps → Even w (take k ps)
unfolding Even
even_take w zero ps e = tt
even_take w (suc k) [] e = tt
even_take w (suc k) (p ∷ ps) e = (e.0, even_take w k ps e.1)

pub even_append : (w : ℕ) (ps qs : List (List ℕ)) → Even w ps → Even w qs → Even w (ps ++ qs)
unfolding Even
even_append w [] qs e f = f
even_append w (p ∷ ps) qs e f = (e.0, even_append w ps qs e.1 f)

pub even_set : (w : ℕ) (ps : List (List ℕ)) (i : ℕ) (v : List ℕ) → length v ≡ w → Even w ps → Even w (set ps i v)
unfolding Even
even_set w [] i v h e = tt
even_set w (p ∷ ps) zero v h e = (h, e.1)
even_set w (p ∷ ps) (suc i) v h e = (e.0, even_set w ps i v h e.1)

pub joined_set : (w : ℕ) (ps : List (List ℕ)) (i : ℕ) (v : List ℕ) → length v ≡ w → i < length ps → Even w ps → joined (set ps i v) ≡ overwrite (i * w) v (joined ps)
unfolding joined Even overwrite
joined_set w [] i v h l e = absurd (omega arith)
joined_set w (p ∷ ps) zero v h l e =
    rw (zero-mul w) (ap (λ z. v ++ z) (sym (rw (zero-add (length v)) (rw (h ∙ sym e.0) (drop-append_seam p (joined ps))))))
joined_set w (p ∷ ps) (suc i) v h l e =
    let m : suc i * w ≡ length p + i * w = omega (arith, e.0) in
    let n : length p + i * w + length v ≡ length p + (i * w + length v) = omega arith in
    rw m (rw n (rw (take-append-add p (joined ps) (i * w)) (rw (drop-append-add p (joined ps) (i * w + length v)) (ap (λ z. p ++ z) (joined_set w ps i v h (omega arith) e.1) ∙ sym (append_assoc p (take (i * w) (joined ps)) (v ++ drop (i * w + length v) (joined ps)))))))

pub joined_one_to_one : (w : ℕ) (ps qs : List (List ℕ)) → 1 ≤ w → Even w ps → Even w qs → joined ps ≡ joined qs → ps ≡ qs
unfolding joined Even
joined_one_to_one w [] [] h e f g = refl
joined_one_to_one w [] (q ∷ qs) h e f g = absurd (omega (arith, f.0, ap length g ∙ length-append q (joined qs)))
joined_one_to_one w (p ∷ ps) [] h e f g = absurd (omega (arith, e.0, ap length (sym g) ∙ length-append p (joined ps)))
joined_one_to_one w (p ∷ ps) (q ∷ qs) h e f g =
    let a : p ≡ q = sym (take_at p (joined ps) w e.0) ∙ ap (take w) g ∙ take_at q (joined qs) w f.0 in
    let b : joined ps ≡ joined qs = sym (drop_at p (joined ps) w e.0) ∙ ap (drop w) g ∙ drop_at q (joined qs) w f.0 in
    let c = joined_one_to_one w ps qs h e.1 f.1 b in cc

-- zeros
pub even_zeros : (n w : ℕ) → Even w (replicate n (replicate w 0))
unfolding Even
even_zeros zero w = tt
even_zeros (suc n) w = (length-replicate w 0, even_zeros n w)

pub joined_zeros : (n w : ℕ) → joined (replicate n (replicate w 0)) ≡ replicate (n * w) 0
unfolding joined
joined_zeros zero w = sym (ap (λ k. replicate k 0) (zero-mul w))
joined_zeros (suc n) w = ap (λ z. replicate w 0 ++ z) (joined_zeros n w) ∙ replicate-append-replicate w (n * w) 0 ∙ ap (λ k. replicate k 0) (let e : w + n * w ≡ suc n * w = omega arith in e)

-- patterns of another width
pub even_chunks : (w n : ℕ) (xs : List ℕ) → length xs ≡ n * w → Even w (chunks w n xs)
unfolding Even chunks
even_chunks w zero xs h = tt
even_chunks w (suc n) xs h = (length-take-le w xs (omega arith), even_chunks w n (drop w xs) (length-drop w xs ∙ (let e : length xs - w ≡ n * w = omega arith in e)))

pub length_chunks : (w n : ℕ) (xs : List ℕ) → length (chunks w n xs) ≡ n
unfolding chunks
length_chunks w zero xs = refl
length_chunks w (suc n) xs = ap suc (length_chunks w n (drop w xs))

pub joined_chunks : (w n : ℕ) (xs : List ℕ) → length xs ≡ n * w → joined (chunks w n xs) ≡ xs
unfolding joined chunks
joined_chunks w zero xs h = sym (nil_from_length xs (h ∙ zero-mul w))
joined_chunks w (suc n) xs h = ap (λ z. take w xs ++ z) (joined_chunks w n (drop w xs) (length-drop w xs ∙ (let e : length xs - w ≡ n * w = omega arith in e))) ∙ take-append-drop w xs

-- nothing written
pub overwrite_nothing : (place : ℕ) (xs : List ℕ) → overwrite place (joined []) xs ≡ xs
unfolding joined
overwrite_nothing place xs = overwrite_none place xs
