-- What getting a block and giving one back come to, whichever way they go.
use Rattle.std.proofs.Common.{◌≡◌, ℕ, Bool, true, false, ltb, ◌⊎◌, ◌↔◌, Some, None, Option, sym, refl, ap, ◌∙◌, subst, inl, inr, ⊎_elim, arith}
use Rattle.std.proofs.lemmas.Bool.{ltb-false}
use Rattle.allocation.specs.declared.block.Block.{Block}
use Rattle.allocation.specs.Meaning.{Among, Fixed, Lawful, Meaning}
use Rattle.model.specs.Checks.{request_for}
use Rattle.model.specs.Effects.{GivesBack, Obtains}
use Rattle.model.proofs.Shapes.{never}

pub unchanged : (a : Meaning) → Fixed a a
unchanged a = record { base = refl; extent = refl; room = refl; copies = refl }

pub record Returned (a a' : Meaning) (back : Option Block) : Type 0 where
  pub lawful : Lawful a'
  pub fixed : Fixed a a'
  pub blocks : (C : Block) → Among C a'.live ↔ (Among C a.live × (back ≡ Some C → ⊥))

pub returned : (a a' : Meaning) (back : Option Block) → Lawful a → GivesBack a back a' → Returned a a' back
returned a a' None law g = subst (λ z. Returned a z None) (sym g) (record { lawful = law; fixed = unchanged a; blocks = λ C. (λ x. (x, λ v. never refl v), λ x. x.0) })
returned a a' (Some B) law g = record {
  lawful = g.lawful;
  fixed = g.fixed;
  blocks = λ C. (λ x. let y = (g.live C).0 x in (y.0, λ v. y.1 (let u : C ≡ B = cc in u)), λ x. (g.live C).1 (x.0, λ v. x.1 (ap {B = Option Block} Some (sym v))));
}

pub record Obtained (a a' : Meaning) (c size : ℕ) (got : Option Block) : Type 0 where
  pub lawful : Lawful a'
  pub fixed : Fixed a a'
  pub blocks : (C : Block) → Among C a'.live ↔ ((got ≡ Some C) ⊎ Among C a.live)
  pub new : (C : Block) → got ≡ Some C → Among C a.live → ⊥
  pub sized : (B : Block) → got ≡ Some B → B.size ≡ size
  pub bare : got ≡ None → c ≡ 0

module _ (a a' : Meaning) (c size : ℕ) (got : Option Block) (law : Lawful a) where
  step : (b : Bool) → ltb 0 c ≡ b → Obtains b a (request_for size) got a' → Obtained a a' c size got
  step false k (e, f) = subst (λ z. Obtained a z c size got) (sym f) (record {
    lawful = law;
    fixed = unchanged a;
    blocks = λ C. (inr, ⊎_elim (λ q. absurd (never e q)) (λ x. x));
    new = λ C q x. never e q;
    sized = λ B q. absurd (never e q);
    bare = λ q. omega (arith, ltb-false 0 c k);
  })
  step true k (B, e, x) = record {
    lawful = x.lawful;
    fixed = x.fixed;
    blocks = λ C. (λ y. ⊎_elim (λ q. inl (e ∙ ap {B = Option Block} Some (sym q))) inr ((x.live C).0 y), λ y. (x.live C).1 (⊎_elim (λ q. inl (let z : C ≡ B = cc (e, q) in z)) inr y));
    new = λ C q y. x.new (subst (λ D. Among D a.live) (let z : C ≡ B = cc (e, q) in z) y);
    sized = λ D q. let z : B ≡ D = cc (e, q) in subst (λ D. D.size ≡ size) z x.size;
    bare = λ q. absurd (never q e);
  }

  pub obtained : Obtains (ltb 0 c) a (request_for size) got a' → Obtained a a' c size got
  obtained = step (ltb 0 c) refl
