-- Lists of values and lists of their patterns.
use Rattle.std.proofs.Common.{◌≡◌, ℕ, ◌≤◌, List, [], ◌∷◌, ◌++◌, map, sym, refl, ap, ◌∙◌, arith}
use Rattle.std.specs.List.{flat_map as JoinedBy}
use Rattle.model.specs.Patterns.{Even, joined}
use Rattle.model.specs.Values.{Bytes, BytesAgree, Coding, ListsAgree, PartsAgree, ValuesExist, ValuesLaw}
use Rattle.model.proofs.Law.{parts_law}
use Rattle.model.proofs.Patterns.{joined_one_to_one}

bytes_left : (bs cs : List ℕ) → Bytes (bs ++ cs) → Bytes bs
bytes_left [] cs e = tt
bytes_left (b ∷ bs) cs e = (e.0, bytes_left bs cs e.1)

bytes_right : (bs cs : List ℕ) → Bytes (bs ++ cs) → Bytes cs
bytes_right [] cs e = e
bytes_right (b ∷ bs) cs e = bytes_right bs cs e.1

module _ {V : Type 0} (pattern : V → List ℕ) where
  -- the patterns of values, one after another
  pub joined_map : (vs : List V) → JoinedBy pattern vs ≡ joined (map pattern vs)
  unfolding joined
  joined_map [] = refl
  joined_map (v ∷ vs) = ap (λ z. pattern v ++ z) (joined_map vs)

  module _ (w : ℕ) (code : Coding w pattern) where
    pub even_map : (vs : List V) → Even w (map pattern vs)
    unfolding Even
    even_map [] = tt
    even_map (v ∷ vs) = (code.long v, even_map vs)

    values : (us vs : List V) → map pattern us ≡ map pattern vs → us ≡ vs
    values [] [] e = refl
    values [] (v ∷ vs) e = let z : ◌≡◌ {A = ℕ} 0 1 = cc in absurd (omega arith)
    values (u ∷ us) [] e = let z : ◌≡◌ {A = ℕ} 0 1 = cc in absurd (omega arith)
    values (u ∷ us) (v ∷ vs) e =
        let p : pattern u ≡ pattern v = cc in
        let q : map pattern us ≡ map pattern vs = cc in
        let a = code.one u v p in
        let b = values us vs q in cc

    pub lists_agree : ListsAgree pattern
    lists_agree us vs = (values us vs, ap (map pattern))

    pub bytes_agree : 1 ≤ w → BytesAgree pattern
    bytes_agree one us vs = (λ e. values us vs (joined_one_to_one w (map pattern us) (map pattern vs) one (even_map us) (even_map vs) e), ap (λ z. joined (map pattern z)))

    pub values_exist : ValuesExist w pattern
    unfolding Even joined
    values_exist [] e b = ([], refl)
    values_exist (p ∷ ps) e b =
        let v = code.every p e.0 (bytes_left p (joined ps) b) in
        let vs = values_exist ps e.1 (bytes_right p (joined ps) b) in
        (v.0 ∷ vs.0, λ i. v.1 i ∷ vs.1 i)

    pub parts_agree : PartsAgree w pattern
    parts_agree x y rx ry s t i j m n g h p q xs ys sx sy kind width us vs e f =
        let l = (parts_law x y rx ry s t i j m n g h p q xs ys sx sy kind).2 in
        (λ z. values us vs (sym e ∙ l.0 z ∙ f), λ z. l.1 (e ∙ ap (map pattern) z ∙ sym f))

  pub values_law : ValuesLaw pattern
  values_law w one code = (lists_agree w code, bytes_agree w code one, values_exist w code, parts_agree w code)
