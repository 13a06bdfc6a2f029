-- Lists of values and their bytes, from the law of a kind.
use Rattle.std.proofs.Common.{◌≡◌, ℕ, zero, suc, ◌+◌, ◌*◌, ◌<◌, List, [], ◌∷◌, ◌++◌, map, length, get_or, take, drop, sym, refl, ap, ◌∙◌, suc-mul, arith}
use Rattle.std.specs.List.{flat_map}
use Rattle.std.proofs.lemmas.List.{drop-drop, length-append, length-drop, length-take-le, nil_from_length, take-append-drop, take_at, drop_at}
use Rattle.region.specs.Bytes.{part}
use Rattle.element.specs.Columns.{Columns}
use Rattle.element.specs.Joined.{joins_map, wide_map}
use Rattle.element.specs.Patterns.{Bytes, OneToOne}
use Rattle.element.proofs.Behind.{length_joined}
use Rattle.element.specs.Rows.{bytes_take, bytes_drop}

module _ {K : Type 0} (w : ℕ) (f : K → List ℕ) (law : OneToOne w f) where
  same_patterns : (xs ys : List K) → map f xs ≡ map f ys → xs ≡ ys
  same_patterns [] [] e = refl
  same_patterns [] (y ∷ ys) e = absurd (let z : ◌≡◌ {A = ℕ} 0 1 = cc in omega arith)
  same_patterns (x ∷ xs) [] e = absurd (let z : ◌≡◌ {A = ℕ} 0 1 = cc in omega arith)
  same_patterns (x ∷ xs) (y ∷ ys) e =
      let head : f x ≡ f y = cc in
      let tail : map f xs ≡ map f ys = cc in
      ap (λ z. z ∷ xs) (law.one x y head) ∙ ap (λ zs. y ∷ zs) (same_patterns xs ys tail)

  front : (x : K) (bs : List ℕ) → take w (f x ++ bs) ≡ f x
  front x bs = take_at (f x) bs w (law.long x)

  back : (x : K) (bs : List ℕ) → drop w (f x ++ bs) ≡ bs
  back x bs = drop_at (f x) bs w (law.long x)

  same_bytes : 0 < w → (xs ys : List K) → flat_map f xs ≡ flat_map f ys → xs ≡ ys
  same_bytes h [] [] e = refl
  same_bytes h [] (y ∷ ys) e = absurd (omega (arith, ap length e, length-append (f y) (flat_map f ys), law.long y))
  same_bytes h (x ∷ xs) [] e = absurd (omega (arith, ap length e, length-append (f x) (flat_map f xs), law.long x))
  same_bytes h (x ∷ xs) (y ∷ ys) e =
      let head : f x ≡ f y = sym (front x (flat_map f xs)) ∙ ap (take w) e ∙ front y (flat_map f ys) in
      let tail : flat_map f xs ≡ flat_map f ys = sym (back x (flat_map f xs)) ∙ ap (drop w) e ∙ back y (flat_map f ys) in
      ap (λ z. z ∷ xs) (law.one x y head) ∙ ap (λ zs. y ∷ zs) (same_bytes h xs ys tail)

  part_of : (xs : List K) (i : ℕ) (d : K) → i < length xs → part (i * w) w (flat_map f xs) ≡ f (get_or xs i d)
  unfolding part
  part_of [] i d h = absurd (omega arith)
  part_of (x ∷ xs) zero d h =
      let none : 0 * w ≡ 0 = omega arith in
      ap (λ (n : ℕ). take w (drop n (f x ++ flat_map f xs))) none ∙ front x (flat_map f xs)
  part_of (x ∷ xs) (suc i) d h =
      let step : suc i * w ≡ w + i * w = suc-mul i w ∙ omega arith in
      ap (λ (n : ℕ). take w (drop n (f x ++ flat_map f xs))) step ∙ ap (take w) (sym (drop-drop (i * w) w (f x ++ flat_map f xs)) ∙ ap (drop (i * w)) (back x (flat_map f xs))) ∙ part_of xs i d (omega arith)

  values_of : (n : ℕ) (bs : List ℕ) → length bs ≡ n * w → Bytes bs → (xs : List K) × (length xs ≡ n) × (flat_map f xs ≡ bs)
  values_of zero bs e p = ([], refl, sym (nil_from_length bs (e ∙ omega arith)))
  values_of (suc n) bs e p =
      let room : length bs ≡ w + n * w = e ∙ suc-mul n w ∙ omega arith in
      let x = law.every (take w bs) (length-take-le w bs (omega arith)) (bytes_take w bs p) in
      let rest = values_of n (drop w bs) (length-drop w bs ∙ omega arith) (bytes_drop w bs p) in
      (x.0 ∷ rest.0, ap suc rest.1, ap (λ b. b ++ flat_map f rest.0) x.1 ∙ ap (λ b. take w bs ++ b) rest.2 ∙ take-append-drop w bs)

  pub columns : 0 < w → Columns w f
  columns h = record {
    patterns = λ xs ys. (same_patterns xs ys, ap (map f));
    bytes = λ xs ys. (same_bytes h xs ys, ap (flat_map f));
    wide = wide_map w f law.long;
    joins = joins_map f;
    long = length_joined w f law.long;
    place = part_of;
    every = values_of;
  }
