-- A truncated `Sure` gives `Sure` back: each part is a proposition or is decided by a list.
use Rattle.std.proofs.Common.{◌≡◌, ℕ, ◌+◌, ◌^◌, ◌<◌, ◌≤◌, Bool, true, false, ◌⊎◌, List, [], ◌∷◌, Some, None, Option, sym, refl, ◌∙◌, subst, inl, inr, ⊎_elim, arith}
use mathlib.Core.Bool.{Bool-set, false≢true}
use mathlib.Core.HLevel.{is_prop→PathP, ⊥_prop}
use mathlib.Core.Logic.{∥∥₁_map, ∥∥₁_elim}
use native.Mathlib.Bridge.{le_prop}
use native.Mathlib.Nat.{ℕ_set}
use lib.Pow.{pow-lt}
use Rattle.std.proofs.lemmas.Bool.{cases_lt}
use Rattle.allocation.specs.declared.block.Block.{Block}
use Rattle.allocation.specs.Alignments.{greatest_exponent}
use Rattle.allocation.specs.Faults.{same_block}
use Rattle.allocation.specs.Meaning.{Among}
use Rattle.allocation.proofs.Tables.{same_block_refl}
use Rattle.model.specs.declared.line.Backing.TheVariants.{Owned}
use Rattle.model.specs.declared.line.Kind.{Kind}
use Rattle.model.specs.declared.line.Line.{Line}
use Rattle.model.specs.Book.{block_of, one_backing, serial_of}
use Rattle.model.specs.Invariant.{Counted, KeptLine, Plain, Sits, Stands, Sure}
use Rattle.model.specs.Keyed.{All, Rising, any_other, find}
use Rattle.model.specs.Kinds.{SoundKind}
use Rattle.model.proofs.Backings.{block_one, one_block, same_block_eq}
use Rattle.model.proofs.Keeps.{on_block}
use Rattle.model.proofs.Keyed.{any_other_no, any_other_yes, rising_above}
use Rattle.model.proofs.Shapes.{never}

-- one exponent for each power
exponent_prop : (m a : ℕ) (u v : (e : ℕ) × (e ≤ m) × (a ≡ 2 ^ e)) → u ≡ v
exponent_prop m a u v =
    let p : u.0 ≡ v.0 = ⊎_elim (λ (h : u.0 < v.0). let k = pow-lt h in absurd (omega (arith, u.2, v.2)))
    (λ (h : v.0 ≤ u.0). ⊎_elim (λ (j : v.0 < u.0). let k = pow-lt j in absurd (omega (arith, u.2, v.2))) (λ (j : u.0 ≤ v.0). omega arith) (cases_lt v.0 u.0)) (cases_lt u.0 v.0) in
    λ i. (p i, is_prop→PathP (λ t. p t ≤ m) (λ t. le_prop) u.1 v.1 i, is_prop→PathP (λ t. a ≡ 2 ^ p t) (λ t. ℕ_set a (2 ^ p t)) u.2 v.2 i)

rising : (lo n : ℕ) (ls : List Line) → ∥ Rising serial_of lo n ls ∥₁ → Rising serial_of lo n ls
unfolding Rising
rising lo n [] t = tt
rising lo n (l ∷ ls) t = (∥∥₁_elim t le_prop (λ r. r.0), ∥∥₁_elim t le_prop (λ r. r.1), rising (l.serial + 1) n ls (∥∥₁_map t (λ r. r.2)))

sound_kind : (k : Kind) → ∥ SoundKind k ∥₁ → SoundKind k
sound_kind k t = record { width = ∥∥₁_elim t (exponent_prop 4 k.width) (λ s. s.width); align = ∥∥₁_elim t (exponent_prop greatest_exponent k.align) (λ s. s.align); within = ∥∥₁_elim t le_prop (λ s. s.within) }

counted : (n : ℕ) (ls : List Line) → ∥ Counted n ls ∥₁ → Counted n ls
counted n ls t = record { begun = ∥∥₁_elim t le_prop (λ c. c.begun); unspent = ∥∥₁_elim t le_prop (λ c. c.unspent); few = ∥∥₁_elim t le_prop (λ c. c.few) }

kept_line : (l : Line) → ∥ KeptLine l ∥₁ → KeptLine l
kept_line l t = record { serial = ∥∥₁_elim t le_prop (λ k. k.serial); kind = sound_kind l.kind (∥∥₁_map t (λ k. k.kind)); shared = λ q. ∥∥₁_elim t (ℕ_set _ _) (λ k. k.shared q); alignment = ∥∥₁_elim t (exponent_prop greatest_exponent l.claim) (λ k. k.alignment); start = ∥∥₁_elim t (ℕ_set _ _) (λ k. k.start); align = ∥∥₁_elim t le_prop (λ k. k.align) }

each : (ls : List Line) → ∥ All KeptLine ls ∥₁ → All KeptLine ls
each [] t = tt
each (l ∷ ls) t = (kept_line l (∥∥₁_map t (λ r. r.0)), each ls (∥∥₁_map t (λ r. r.1)))

sits : (base : ℕ) (l : Line) (o : Option Block) → ∥ Sits base l o ∥₁ → Sits base l o
sits base l None t = (∥∥₁_elim t (ℕ_set _ _) (λ s. s.0), ∥∥₁_elim t (ℕ_set _ _) (λ s. s.1))
sits base l (Some B) t = (∥∥₁_elim t le_prop (λ s. s.0), ∥∥₁_elim t le_prop (λ s. s.1), ∥∥₁_elim t le_prop (λ s. s.2))

stands : (base : ℕ) (l : Line) → ∥ Stands base l ∥₁ → Stands base l
stands base l t = record {
  wide = ∥∥₁_elim t le_prop (λ s. s.wide);
  claims = ∥∥₁_elim t le_prop (λ s. s.claims);
  within = λ m. ∥∥₁_elim t le_prop (λ s. s.within m);
  sits = sits base l (block_of l.backing) (∥∥₁_map t (λ s. s.sits));
}

among : (B : Block) (bs : List Block) → ∥ Among B bs ∥₁ → Among B bs
unfolding Among
among B [] t = ∥∥₁_elim t ⊥_prop (λ a. a)
among B (C ∷ bs) t = go (same_block C B) refl (among B bs)
  where
    go : (b : Bool) → same_block C B ≡ b → (∥ Among B bs ∥₁ → Among B bs) → (C ≡ B) ⊎ Among B bs
    go true e ih = inl (same_block_eq C B e)
    go false e ih = inr (ih (∥∥₁_map t (⊎_elim (λ q. absurd (false≢true (sym e ∙ subst (λ z. same_block z B ≡ true) (sym q) (same_block_refl B)))) (λ a. a))))

abbrev OnOne : List Line → Block → Type 0
OnOne ls B = (t : ℕ) × (m : Line) × (find serial_of t ls ≡ Some m) × (block_of m.backing ≡ Some B)

used : (n : ℕ) (ls : List Line) (B : Block) → Rising serial_of 0 n ls → ∥ OnOne ls B ∥₁ → OnOne ls B
used n ls B r t = go (any_other serial_of (λ m. one_backing (Owned B) m.backing) n ls) refl
  where
    go : (b : Bool) → any_other serial_of (λ m. one_backing (Owned B) m.backing) n ls ≡ b → OnOne ls B
    go true e = let z = any_other_yes serial_of (λ m. one_backing (Owned B) m.backing) n 0 n ls r e in (z.0, z.1, z.3, block_one (Owned B) z.1.backing B (on_block B) z.4)
    go false e = absurd (∥∥₁_elim t ⊥_prop (λ u. false≢true (
        sym (any_other_no serial_of (λ m. one_backing (Owned B) m.backing) n u.0 ls u.1 e (λ q. never (rising_above serial_of 0 n u.0 ls r (omega (arith, q))) u.2) u.2)
        ∙ one_block (Owned B) u.1.backing B (on_block B) u.3)))

pub strip : (n : ℕ) (ls : List Line) (p : Plain) → ∥ Sure n ls p ∥₁ → Sure n ls p
strip n ls p t =
    let r = rising 0 n ls (∥∥₁_map t (λ k. k.order)) in
    record {
      order = r;
      counted = counted n ls (∥∥₁_map t (λ k. k.counted));
      each = each ls (∥∥₁_map t (λ k. k.each));
      stands = λ s l e. stands p.base l (∥∥₁_map t (λ k. k.stands s l e));
      held = λ s l B e b. among B p.live (∥∥₁_map t (λ k. k.held s l B e b));
      used = λ B a. used n ls B r (∥∥₁_map t (λ k. k.used B a));
      alone = λ s u l m B d e f g h. ∥∥₁_elim t (Bool-set _ _) (λ k. k.alone s u l m B d e f g h);
    }
