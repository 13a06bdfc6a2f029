-- Keyed lists: what is found after each change, and what stays so of all.
use Rattle.std.proofs.Common.{◌≡◌, ℕ, suc, ◌+◌, ◌<◌, ◌≤◌, Bool, true, false, cond, eqb, List, [], ◌∷◌, ◌++◌, map, length, Some, None, Option, sym, refl, ap, ◌∙◌, subst, arith}
use Rattle.std.proofs.lemmas.Bool.{eqb-true, eqb-false, eq-eqb, ne_eqb}
use Rattle.model.specs.Keyed.{All, Rising, any_other, find, update, without}

pub all_snoc : {X : Type 0} (P : X → Type 0) (xs : List X) (x : X) → All P xs → P x → All P (xs ++ (x ∷ []))
all_snoc P [] x e k = (k, tt)
all_snoc P (y ∷ ys) x e k = (e.0, all_snoc P ys x e.1 k)

abbrev pub mapped : {X Y : Type 0} → (X → Y) → Option X → Option Y
mapped f None = None
mapped f (Some x) = Some (f x)

-- what is found among images is the image of what is found
pub find_map : {X Y : Type 0} (key : X → ℕ) (key' : Y → ℕ) (f : X → Y) → ((x : X) → key' (f x) ≡ key x) → (s : ℕ) (xs : List X) → find key' s (map f xs) ≡ mapped f (find key s xs)
unfolding find
find_map key key' f k s [] = refl
find_map key key' f k s (x ∷ xs) = rw (k x) (go (eqb (key x) s) (find_map key key' f k s xs))
  where
    go : (b : Bool) → find key' s (map f xs) ≡ mapped f (find key s xs) → cond b (Some (f x)) (find key' s (map f xs)) ≡ mapped f (cond b (Some x) (find key s xs))
    go true ih = refl
    go false ih = ih

module _ {X : Type 0} (key : X → ℕ) where
  pub find_nil : (s : ℕ) → find key s [] ≡ None
  unfolding find
  find_nil s = refl

  -- what is so of all is so of what is found
  pub all_find : (P : X → Type 0) (s : ℕ) (xs : List X) (x : X) → All P xs → find key s xs ≡ Some x → P x
  unfolding find
  all_find P s [] x e q = let z : ◌≡◌ {A = ℕ} 0 1 = cc in absurd (omega arith)
  all_find P s (y ∷ ys) x e q = go (eqb (key y) s) (all_find P s ys x e.1) q
    where
      go : (b : Bool) → (find key s ys ≡ Some x → P x) → cond b (Some y) (find key s ys) ≡ Some x → P x
      go true ih f = let z : y ≡ x = cc in subst P z e.0
      go false ih f = ih f

  pub all_update : (P : X → Type 0) (s : ℕ) (f : X → X) (xs : List X) → ((x : X) → P (f x)) → All P xs → All P (update key s f xs)
  unfolding update
  all_update P s f [] k e = tt
  all_update P s f (x ∷ xs) k e = (go (eqb (key x) s), all_update P s f xs k e.1)
    where
      go : (b : Bool) → P (cond b (f x) x)
      go true = k x
      go false = e.0

  pub all_without : (P : X → Type 0) (s : ℕ) (xs : List X) → All P xs → All P (without key s xs)
  unfolding without
  all_without P s [] e = tt
  all_without P s (x ∷ xs) e = go (eqb (key x) s) (all_without P s xs e.1)
    where
      go : (b : Bool) → All P (without key s xs) → All P (cond b (without key s xs) (x ∷ without key s xs))
      go true w = w
      go false w = (e.0, w)

  pub find_key : (s : ℕ) (xs : List X) (x : X) → find key s xs ≡ Some x → key x ≡ s
  unfolding find
  find_key s [] x e = let z : ◌≡◌ {A = ℕ} 0 1 = cc in absurd (omega arith)
  find_key s (y ∷ ys) x e = go (find_key s ys x) (eqb (key y) s) refl e
    where
      go : (find key s ys ≡ Some x → key x ≡ s) → (b : Bool) → eqb (key y) s ≡ b → cond b (Some y) (find key s ys) ≡ Some x → key x ≡ s
      go ih true t e' = let f : y ≡ x = cc in ap key (sym f) ∙ eqb-true (key y) s t
      go ih false t e' = ih e'

  pub find_update : (s : ℕ) (f : X → X) (xs : List X) (x : X) → key (f x) ≡ s → find key s xs ≡ Some x → find key s (update key s f xs) ≡ Some (f x)
  unfolding find update
  find_update s f [] x k e = let z : ◌≡◌ {A = ℕ} 0 1 = cc in absurd (omega arith)
  find_update s f (y ∷ ys) x k e = go (find_update s f ys x k) (eqb (key y) s) refl e
    where
      go : (find key s ys ≡ Some x → find key s (update key s f ys) ≡ Some (f x)) → (b : Bool) → eqb (key y) s ≡ b → cond b (Some y) (find key s ys) ≡ Some x → cond (eqb (key (cond b (f y) y)) s) (Some (cond b (f y) y)) (find key s (update key s f ys)) ≡ Some (f x)
      go ih true t e' = let g : y ≡ x = cc in let u : eqb (key (f y)) s ≡ true = eq-eqb (key (f y)) s (ap (λ z. key (f z)) g ∙ k) in cc
      go ih false t e' = rw t (ih e')

  pub find_update_other : (s t : ℕ) (f : X → X) (xs : List X) → (t ≡ s → ⊥) → ((x : X) → key x ≡ s → key (f x) ≡ s) → find key t (update key s f xs) ≡ find key t xs
  unfolding find update
  find_update_other s t f [] n k = refl
  find_update_other s t f (y ∷ ys) n k = go (find_update_other s t f ys n k) (eqb (key y) s) refl
    where
      go : find key t (update key s f ys) ≡ find key t ys → (b : Bool) → eqb (key y) s ≡ b → cond (eqb (key (cond b (f y) y)) t) (Some (cond b (f y) y)) (find key t (update key s f ys)) ≡ cond (eqb (key y) t) (Some y) (find key t ys)
      go w true e =
          let a : key y ≡ s = eqb-true (key y) s e in
          let u : eqb (key (f y)) t ≡ false = ne_eqb (key (f y)) t (λ q. n (sym q ∙ k y a)) in
          let v : eqb (key y) t ≡ false = ne_eqb (key y) t (λ q. n (sym q ∙ a)) in
          cc
      go w false e = cc

  pub find_without : (s : ℕ) (xs : List X) → find key s (without key s xs) ≡ None
  unfolding find without
  find_without s [] = refl
  find_without s (y ∷ ys) = go (find_without s ys) (eqb (key y) s) refl
    where
      go : find key s (without key s ys) ≡ None → (b : Bool) → eqb (key y) s ≡ b → find key s (cond b (without key s ys) (y ∷ without key s ys)) ≡ None
      go w true e = w
      go w false e = rw e w

  pub find_without_other : (s t : ℕ) (xs : List X) → (t ≡ s → ⊥) → find key t (without key s xs) ≡ find key t xs
  unfolding find without
  find_without_other s t [] n = refl
  find_without_other s t (y ∷ ys) n = go (find_without_other s t ys n) (eqb (key y) s) refl
    where
      go : find key t (without key s ys) ≡ find key t ys → (b : Bool) → eqb (key y) s ≡ b → find key t (cond b (without key s ys) (y ∷ without key s ys)) ≡ cond (eqb (key y) t) (Some y) (find key t ys)
      go w true e =
          let v : eqb (key y) t ≡ false = ne_eqb (key y) t (λ q. n (sym q ∙ eqb-true (key y) s e)) in
          cc
      go w false e = cc

  pub find_cons : (x : X) (xs : List X) → find key (key x) (x ∷ xs) ≡ Some x
  unfolding find
  find_cons x xs = let u : eqb (key x) (key x) ≡ true = eq-eqb (key x) (key x) refl in cc

  pub find_cons_other : (t : ℕ) (x : X) (xs : List X) → (t ≡ key x → ⊥) → find key t (x ∷ xs) ≡ find key t xs
  unfolding find
  find_cons_other t x xs n = let u : eqb (key x) t ≡ false = ne_eqb (key x) t (λ q. n (sym q)) in cc

  pub any_other_no : (test : X → Bool) (s t : ℕ) (xs : List X) (x : X) → any_other key test s xs ≡ false → (t ≡ s → ⊥) → find key t xs ≡ Some x → test x ≡ false
  unfolding find any_other
  any_other_no test s t [] x a n e = let z : ◌≡◌ {A = ℕ} 0 1 = cc in absurd (omega arith)
  any_other_no test s t (y ∷ ys) x a n e = go (λ a' e'. any_other_no test s t ys x a' n e') (eqb (key y) s) refl (eqb (key y) t) refl (test y) refl a e
    where
      go : (any_other key test s ys ≡ false → find key t ys ≡ Some x → test x ≡ false) → (b : Bool) → eqb (key y) s ≡ b → (c : Bool) → eqb (key y) t ≡ c → (d : Bool) → test y ≡ d → cond b (any_other key test s ys) (cond d true (any_other key test s ys)) ≡ false → cond c (Some y) (find key t ys) ≡ Some x → test x ≡ false
      go ih true p true q d r a' e' = absurd (n (sym (eqb-true (key y) t q) ∙ eqb-true (key y) s p))
      go ih true p false q d r a' e' = ih a' e'
      go ih false p true q true r a' e' = let z : ◌≡◌ {A = ℕ} 0 1 = cc in absurd (omega arith)
      go ih false p true q false r a' e' = let g : y ≡ x = cc in ap test (sym g) ∙ r
      go ih false p false q true r a' e' = let z : ◌≡◌ {A = ℕ} 0 1 = cc in absurd (omega arith)
      go ih false p false q false r a' e' = ih a' e'

  pub find_snoc_other : (t : ℕ) (x : X) (xs : List X) → (t ≡ key x → ⊥) → find key t (xs ++ (x ∷ [])) ≡ find key t xs
  unfolding find
  find_snoc_other t x [] n = let u : eqb (key x) t ≡ false = ne_eqb (key x) t (λ q. n (sym q)) in cc
  find_snoc_other t x (y ∷ ys) n = ap (cond (eqb (key y) t) (Some y)) (find_snoc_other t x ys n)

  pub find_snoc : (x : X) (xs : List X) → find key (key x) xs ≡ None → find key (key x) (xs ++ (x ∷ [])) ≡ Some x
  unfolding find
  find_snoc x [] e = let u : eqb (key x) (key x) ≡ true = eq-eqb (key x) (key x) refl in cc
  find_snoc x (y ∷ ys) e = go (find_snoc x ys) (eqb (key y) (key x)) e
    where
      go : (find key (key x) ys ≡ None → find key (key x) (ys ++ (x ∷ [])) ≡ Some x) → (b : Bool) → cond b (Some y) (find key (key x) ys) ≡ None → cond b (Some y) (find key (key x) (ys ++ (x ∷ []))) ≡ Some x
      go ih true f = let z : ◌≡◌ {A = ℕ} 0 1 = cc in absurd (omega arith)
      go ih false f = ih f

  -- keys that rise are found where they stand
  pub rising_above : (lo n s : ℕ) (xs : List X) → Rising key lo n xs → n ≤ s → find key s xs ≡ None
  unfolding find Rising
  rising_above lo n s [] f h = refl
  rising_above lo n s (y ∷ ys) f h =
      let u : eqb (key y) s ≡ false = ne_eqb (key y) s (λ q. omega (arith, f.1)) in
      let w : find key s ys ≡ None = rising_above (key y + 1) n s ys f.2 h in cc

  rising_below : (lo n s : ℕ) (xs : List X) → Rising key lo n xs → s < lo → find key s xs ≡ None
  unfolding find Rising
  rising_below lo n s [] f h = refl
  rising_below lo n s (y ∷ ys) f h =
      let u : eqb (key y) s ≡ false = ne_eqb (key y) s (λ q. omega (arith, f.0)) in
      let w : find key s ys ≡ None = rising_below (key y + 1) n s ys f.2 (omega (arith, f.0)) in cc

  rising_from : (lo lo' n : ℕ) (xs : List X) → Rising key lo n xs → lo' ≤ lo → Rising key lo' n xs
  unfolding Rising
  rising_from lo lo' n [] f h = tt
  rising_from lo lo' n (y ∷ ys) f h = (omega (arith, f.0), f.1, f.2)

  pub rising_high : (low n s : ℕ) (xs : List X) (x : X) → Rising key low n xs → find key s xs ≡ Some x → key x < n
  unfolding find Rising
  rising_high low n s [] x f e = let z : ◌≡◌ {A = ℕ} 0 1 = cc in absurd (omega arith)
  rising_high low n s (y ∷ ys) x f e = go (rising_high (key y + 1) n s ys x f.2) (eqb (key y) s) e
    where
      go : (find key s ys ≡ Some x → key x < n) → (b : Bool) → cond b (Some y) (find key s ys) ≡ Some x → key x < n
      go ih true e' = let z : y ≡ x = cc in subst (λ v. key v < n) z f.1
      go ih false e' = ih e'

  pub rising_update : (lo n s : ℕ) (f : X → X) (xs : List X) → ((x : X) → key x ≡ s → key (f x) ≡ s) → Rising key lo n xs → Rising key lo n (update key s f xs)
  unfolding Rising update
  rising_update lo n s f [] k h = tt
  rising_update lo n s f (y ∷ ys) k h = go (rising_update (key y + 1) n s f ys k h.2) (eqb (key y) s) refl
    where
      go : Rising key (key y + 1) n (update key s f ys) → (b : Bool) → eqb (key y) s ≡ b → (lo ≤ key (cond b (f y) y)) × (key (cond b (f y) y) < n) × Rising key (key (cond b (f y) y) + 1) n (update key s f ys)
      go w true e =
          let a : key (f y) ≡ key y = k y (eqb-true (key y) s e) ∙ sym (eqb-true (key y) s e) in
          rw a (h.0, h.1, w)
      go w false e = (h.0, h.1, w)

  pub rising_without : (lo n s : ℕ) (xs : List X) → Rising key lo n xs → Rising key lo n (without key s xs)
  unfolding Rising without
  rising_without lo n s [] h = tt
  rising_without lo n s (y ∷ ys) h = go (rising_without (key y + 1) n s ys h.2) (eqb (key y) s) refl
    where
      go : Rising key (key y + 1) n (without key s ys) → (b : Bool) → eqb (key y) s ≡ b → Rising key lo n (cond b (without key s ys) (y ∷ without key s ys))
      go w true e = rising_from (key y + 1) lo n (without key s ys) w (omega (arith, h.0))
      go w false e = (h.0, h.1, w)

  pub rising_snoc : (lo n : ℕ) (x : X) (xs : List X) → key x ≡ n → lo ≤ n → Rising key lo n xs → Rising key lo (n + 1) (xs ++ (x ∷ []))
  unfolding Rising
  rising_snoc lo n x [] q h f = (omega (arith, q), omega (arith, q), tt)
  rising_snoc lo n x (y ∷ ys) q h f = (f.0, omega (arith, f.1), rising_snoc (key y + 1) n x ys q (omega (arith, f.1)) f.2)

  pub any_other_yes : (test : X → Bool) (s lo n : ℕ) (xs : List X) → Rising key lo n xs → any_other key test s xs ≡ true → (t : ℕ) × (x : X) × (t ≡ s → ⊥) × (find key t xs ≡ Some x) × (test x ≡ true)
  unfolding find any_other Rising
  any_other_yes test s lo n [] f a = let z : ◌≡◌ {A = ℕ} 0 1 = cc in absurd (omega arith)
  any_other_yes test s lo n (y ∷ ys) f a = go (any_other_yes test s (key y + 1) n ys f.2) (eqb (key y) s) refl (test y) refl a
    where
      later : (t : ℕ) × (x : X) × (t ≡ s → ⊥) × (find key t ys ≡ Some x) × (test x ≡ true) → (t : ℕ) × (x : X) × (t ≡ s → ⊥) × (find key t (y ∷ ys) ≡ Some x) × (test x ≡ true)
      later r =
          let below : (key y ≡ r.0) → ⊥ = λ q. let u : find key r.0 ys ≡ None = rising_below (key y + 1) n r.0 ys f.2 (omega arith) in
          let z : ◌≡◌ {A = ℕ} 0 1 = cc (u, r.3) in omega arith in
          (r.0, r.1, r.2, find_cons_other r.0 y ys (λ q. below (sym q)) ∙ r.3, r.4)

      go : (any_other key test s ys ≡ true → (t : ℕ) × (x : X) × (t ≡ s → ⊥) × (find key t ys ≡ Some x) × (test x ≡ true)) → (b : Bool) → eqb (key y) s ≡ b → (d : Bool) → test y ≡ d → cond b (any_other key test s ys) (cond d true (any_other key test s ys)) ≡ true
          → (t : ℕ) × (x : X) × (t ≡ s → ⊥) × (find key t (y ∷ ys) ≡ Some x) × (test x ≡ true)
      go ih true e d q a' = later (ih a')
      go ih false e true q a' = (key y, y, eqb-false (key y) s e, find_cons y ys, q)
      go ih false e false q a' = later (ih a')

  pub length_update : (s : ℕ) (f : X → X) (xs : List X) → length (update key s f xs) ≡ length xs
  unfolding update
  length_update s f [] = refl
  length_update s f (x ∷ xs) = ap suc (length_update s f xs)

  pub length_without : (s : ℕ) (xs : List X) → length (without key s xs) ≤ length xs
  unfolding without
  length_without s [] = omega arith
  length_without s (x ∷ xs) = go (eqb (key x) s) (length_without s xs)
    where
      go : (b : Bool) → length (without key s xs) ≤ length xs → length (cond b (without key s xs) (x ∷ without key s xs)) ≤ suc (length xs)
      go true h = omega arith
      go false h = omega arith
