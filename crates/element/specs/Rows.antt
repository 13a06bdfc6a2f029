-- Patterns that stand one behind another.
use Rattle.std.specs.Prelude.{◌≡◌, ℕ, zero, suc, ◌+◌, ◌-◌, List, [], ◌∷◌, ◌++◌, length, take, drop}
use Rattle.std.proofs.Common.{sym, ap, ◌∙◌, arith}
use borrow.Rule.Slice.PartMut.{put_mid}
use Rattle.std.proofs.lemmas.List.{take_at, drop_at, drop_all, take-append-drop, append-nil, length-append, length-take-le, length-drop}
use Rattle.element.specs.Patterns.{Bytes, OneToOne}

-- the second part was written behind the first, to the end
pub put_behind : (p t q : List ℕ) (k : ℕ) → length p ≡ k → put_mid k (length (p ++ t) - k) (p ++ t) q ≡ p ++ q
put_behind p t q k e =
    let front : take k (p ++ t) ≡ p = take_at p t k e in
    let back : drop k (p ++ t) ≡ t = drop_at p t k e in
    let none : drop (length (p ++ t) - k) t ≡ [] = drop_all _ t (omega (arith, length-append p t)) in
    let end : q ++ [] ≡ q = append-nil q in
    cc

pub bytes_take : (n : ℕ) (xs : List ℕ) → Bytes xs → Bytes (take n xs)
bytes_take zero xs a = tt
bytes_take (suc n) [] a = tt
bytes_take (suc n) (x ∷ xs) a = (a.0, bytes_take n xs a.1)

pub bytes_drop : (n : ℕ) (xs : List ℕ) → Bytes xs → Bytes (drop n xs)
bytes_drop zero xs a = a
bytes_drop (suc n) [] a = tt
bytes_drop (suc n) (x ∷ xs) a = bytes_drop n xs a.1

-- The law of a kind that is made of two, whose patterns stand one behind the other.
pub side_by_side : {X Y C : Type 0} (w v : ℕ) (f : X → List ℕ) (g : Y → List ℕ) → OneToOne w f → OneToOne v g
    → (left : C → X) (right : C → Y) (both : X → Y → C)
    → ((c : C) → both (left c) (right c) ≡ c) → ((x : X) (y : Y) → left (both x y) ≡ x) → ((x : X) (y : Y) → right (both x y) ≡ y)
    → OneToOne (w + v) (λ c. f (left c) ++ g (right c))
side_by_side w v f g a b left right both whole is_left is_right = record {
  long = λ c. length-append (f (left c)) (g (right c)) ∙ omega (arith, a.long (left c), b.long (right c));
  one = λ c d e.
      let cut : (x y : List ℕ) → length x ≡ w → take w (x ++ y) ≡ x = λ x y n. take_at x y w n in
      let rest : (x y : List ℕ) → length x ≡ w → drop w (x ++ y) ≡ y = λ x y n. drop_at x y w n in
      let first : f (left c) ≡ f (left d) = sym (cut _ (g (right c)) (a.long (left c))) ∙ ap (take w) e ∙ cut _ (g (right d)) (a.long (left d)) in
      let second : g (right c) ≡ g (right d) = sym (rest (f (left c)) _ (a.long (left c))) ∙ ap (drop w) e ∙ rest (f (left d)) _ (a.long (left d)) in
      let l : left c ≡ left d = a.one (left c) (left d) first in
      let r : right c ≡ right d = b.one (right c) (right d) second in
      sym (whole c) ∙ ap (λ x. both x (right c)) l ∙ ap (both (left d)) r ∙ whole d;
  every = λ bs n p.
      let x = a.every (take w bs) (length-take-le w bs (omega arith)) (bytes_take w bs p) in
      let y = b.every (drop w bs) (length-drop w bs ∙ omega arith) (bytes_drop w bs p) in
      let l : f (left (both x.0 y.0)) ≡ take w bs = ap f (is_left x.0 y.0) ∙ x.1 in
      let r : g (right (both x.0 y.0)) ≡ drop w bs = ap g (is_right x.0 y.0) ∙ y.1 in
      (both x.0 y.0, ap (λ t. t ++ g (right (both x.0 y.0))) l ∙ ap (λ t. take w bs ++ t) r ∙ take-append-drop w bs);
}
