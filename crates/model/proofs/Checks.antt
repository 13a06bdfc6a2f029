-- What a granted call has passed.
use Rattle.std.proofs.Common.{◌≡◌, ℕ, Bool, true, false, cond, not, ◌&&◌, eqb, ◌⊎◌, List, [], ◌∷◌, ◌++◌, Some, None, Option, sym, refl, ap, ◌∙◌, inl, inr, arith}
use Rattle.std.proofs.lemmas.Bool.{eqb-true, not-false}
use Rattle.allocation.specs.declared.fault.Fault.{Fault}
use Rattle.model.specs.declared.line.Handle.{Handle}
use Rattle.model.specs.declared.line.Line.{Line}
use Rattle.model.specs.Book.{State, agrees, known, line, look_up, or_blank, same_flag, serial_of}
use Rattle.model.specs.Checks.{Check, refusal}
use Rattle.model.proofs.Keyed.{find_key}

abbrev pub Passed : List Check → Type 0
Passed [] = Unit {0}
Passed (c ∷ cs) = (c.0 ≡ false) × Passed cs

pub passed : (cs : List Check) → refusal cs ≡ None → Passed cs
passed [] e = tt
passed (c ∷ cs) e = go (passed cs) c.0 refl e
  where
    go : (refusal cs ≡ None → Passed cs) → (b : Bool) → c.0 ≡ b → cond b (Some c.1) (refusal cs) ≡ None → (c.0 ≡ false) × Passed cs
    go ih true q f = let z : ◌≡◌ {A = ℕ} 0 1 = cc in absurd (omega arith)
    go ih false q f = (q, ih f)

pub record Held (st : State) (h : Handle) : Type 0 where
  pub at : look_up h.serial st ≡ Some (line st h)
  pub state : (line st h).mutable ≡ h.mutable
  pub kind : (line st h).kind ≡ h.kind
  pub serial : (line st h).serial ≡ h.serial

both : (b x : Bool) → cond b x false ≡ true → (b ≡ true) × (x ≡ true)
both true x e = (refl, e)
both false x e = let z : ◌≡◌ {A = ℕ} 0 1 = cc in absurd (omega arith)

same_flags : (a b : Bool) → same_flag a b ≡ true → a ≡ b
same_flags true b e = sym e
same_flags false true e = let z : ◌≡◌ {A = ℕ} 0 1 = cc in absurd (omega arith)
same_flags false false e = refl

pub held : (st : State) (h : Handle) → not (known st h) ≡ false → Held st h
unfolding line or_blank
held st h e = go (look_up h.serial st) refl (both (eqb h.store st.number) (agrees h (look_up h.serial st)) (not-false (known st h) e)).1
  where
    go : (o : Option Line) → look_up h.serial st ≡ o → agrees h o ≡ true → Held st h
    go None q a = let z : ◌≡◌ {A = ℕ} 0 1 = cc in absurd (omega arith)
    go (Some l) q a =
        let u = both (same_flag l.mutable h.mutable) (cond (eqb l.kind.width h.kind.width) (eqb l.kind.align h.kind.align) false) a in
        let v = both (eqb l.kind.width h.kind.width) (eqb l.kind.align h.kind.align) u.1 in
        let i : l ≡ line st h = ap or_blank (sym q) in
        let p = eqb-true l.kind.width h.kind.width v.0 in
        let r = eqb-true l.kind.align h.kind.align v.1 in
        let k : l.kind ≡ h.kind = λ j. record { width = p j; align = r j } in
        let m : l.mutable ≡ h.mutable = same_flags l.mutable h.mutable u.0 in
        record {
          at = q ∙ ap {B = Option Line} Some i;
          state = ap (λ z. z.mutable) (sym i) ∙ m;
          kind = ap (λ z. z.kind) (sym i) ∙ k;
          serial = ap (λ z. z.serial) (sym i) ∙ find_key serial_of h.serial st.lines l q;
        }

pub line_is : (st : State) (h : Handle) (l : Line) → look_up h.serial st ≡ Some l → l ≡ line st h
unfolding line or_blank
line_is st h l e = sym (ap or_blank e)

pub not_not : (b : Bool) → not (not b) ≡ false → b ≡ false
not_not true e = e
not_not false e = refl

-- a refusal comes from the first check that holds
abbrev pub Stopped : Fault → List Check → Type 0
Stopped f [] = ⊥
Stopped f (c ∷ cs) = ((c.0 ≡ true) × (c.1 ≡ f)) ⊎ ((c.0 ≡ false) × Stopped f cs)

pub stopped : (f : Fault) (cs : List Check) → refusal cs ≡ Some f → Stopped f cs
stopped f [] e = let z : ◌≡◌ {A = ℕ} 0 1 = cc in omega arith
stopped f (c ∷ cs) e = go (stopped f cs) c.0 refl e
  where
    go : (refusal cs ≡ Some f → Stopped f cs) → (b : Bool) → c.0 ≡ b → cond b (Some c.1) (refusal cs) ≡ Some f → ((c.0 ≡ true) × (c.1 ≡ f)) ⊎ ((c.0 ≡ false) × Stopped f cs)
    go ih true q e' = inl (q, let z : c.1 ≡ f = cc in z)
    go ih false q e' = inr (q, ih e')

-- the first of two conditions that both hold
pub and_cases_first : (a b : Bool) → not (a && b) ≡ false → not a ≡ false
and_cases_first true b e = refl
and_cases_first false b e = e

-- checks that do not hold refuse nothing
pub past : (cs ds : List Check) → Passed cs → refusal (cs ++ ds) ≡ refusal ds
past [] ds p = refl
past (c ∷ cs) ds p = ap (λ b. cond b (Some c.1) (refusal (cs ++ ds))) p.0 ∙ past cs ds p.1

pub unrefused : (cs : List Check) → Passed cs → refusal cs ≡ None
unrefused [] p = refl
unrefused (c ∷ cs) p = ap (λ b. cond b (Some c.1) (refusal cs)) p.0 ∙ unrefused cs p.1
