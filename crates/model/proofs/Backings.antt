-- Backings and their blocks.
use Rattle.std.proofs.Common.{◌≡◌, ℕ, true, ◌&&◌, eqb, Some, None, refl, subst, arith}
use Rattle.std.proofs.lemmas.Bool.{eqb-true, eq-eqb, and_parts}
use Rattle.allocation.specs.declared.block.Block.{Block}
use Rattle.allocation.specs.Faults.{same_block}
use Rattle.model.specs.declared.line.Backing.{Backing}
use Rattle.model.specs.declared.line.Backing.TheVariants.{Empty, Owned, Unbacked}
use Rattle.model.specs.Book.{block_of, one_backing}
use Rattle.model.specs.Effects.{shared_with}

pub same_block_refl : (b : Block) → same_block b b ≡ true
same_block_refl b = rw (eq-eqb b.place b.place refl) (rw (eq-eqb b.size b.size refl) (eq-eqb b.align b.align refl))

pub same_block_eq : (b c : Block) → same_block b c ≡ true → b ≡ c
same_block_eq b c e =
    let p = and_parts (eqb b.place c.place) (eqb b.size c.size && eqb b.align c.align) e in
    let q = and_parts (eqb b.size c.size) (eqb b.align c.align) p.1 in
    λ i. record { place = eqb-true b.place c.place p.0 i; size = eqb-true b.size c.size q.0 i; align = eqb-true b.align c.align q.1 i }

none_some : {X : Type 0} (x : X) → None ≡ Some x → ⊥
none_some x e = let z : ◌≡◌ {A = ℕ} 0 1 = cc in omega arith

-- two handles on one block are on one backing, and the other way round
pub one_block : (b c : Backing) (C : Block) → block_of b ≡ Some C → block_of c ≡ Some C → one_backing b c ≡ true
unfolding block_of
one_block Unbacked c C e f = absurd (none_some C e)
one_block (Empty g) c C e f = absurd (none_some C e)
one_block (Owned B) Unbacked C e f = absurd (none_some C f)
one_block (Owned B) (Empty h) C e f = absurd (none_some C f)
one_block (Owned B) (Owned D) C e f = let q : B ≡ D = cc in subst (λ z. same_block B z ≡ true) q (same_block_refl B)

pub block_one : (b c : Backing) (C : Block) → block_of b ≡ Some C → one_backing b c ≡ true → block_of c ≡ Some C
unfolding block_of
block_one Unbacked c C e f = absurd (none_some C e)
block_one (Empty g) c C e f = absurd (none_some C e)
block_one (Owned B) Unbacked C e f = absurd (mathlib.Core.Bool.false≢true f)
block_one (Owned B) (Empty h) C e f = absurd (mathlib.Core.Bool.false≢true f)
block_one (Owned B) (Owned D) C e f = let q = same_block_eq B D f in cc

pub shared_with_block : (s : ℕ) (b : Backing) → block_of (shared_with s b) ≡ block_of b
unfolding block_of
shared_with_block s Unbacked = refl
shared_with_block s (Empty g) = refl
shared_with_block s (Owned B) = refl
