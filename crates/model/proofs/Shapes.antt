-- The shapes of what a granted call does to a store and its table, each shown once to keep the invariant.
use Rattle.std.proofs.Common.{◌≡◌, ℕ, false, ◌⊎◌, ◌↔◌, List, length, Some, None, Option, sym, refl, ap, ◌∙◌, subst, inl, inr, ⊎_elim, arith}
use Rattle.std.proofs.lemmas.Bool.{cases_eq}
use Rattle.region.specs.Bytes.{Outside}
use Rattle.region.proofs.Parts.{part_outside}
use Rattle.allocation.specs.declared.block.Block.{Block}
use Rattle.allocation.specs.Meaning.{Among, Lawful, Meaning}
use Rattle.model.specs.declared.line.Line.{Line}
use Rattle.model.specs.Book.{State, block_of, look_up, serial_of}
use Rattle.model.specs.Keyed.{Rising}
use Rattle.model.specs.Pedigree.{Row, Table, row}
use Rattle.model.proofs.Invariant.{Change, HasRow, Inv, Other, Under, Undisturbed, changed}

pub pin : {X : Type 0} {o : Option X} {x : X} → o ≡ Some x → (P : X → Type 0) → P x → (y : X) → o ≡ Some y → P y
pin {X} {o} {x} e P p y f = let q : x ≡ y = cc in subst P q p

pub never : {X : Type 0} {o : Option X} {x : X} → o ≡ None → o ≡ Some x → ⊥
never {X} {o} {x} e f = let z : ◌≡◌ {A = ℕ} 0 1 = cc in omega arith

abbrev pub block_at : Option Line → Option Block
block_at None = None
block_at (Some l) = block_of l.backing

-- at the serial s the old line, if any, gives way to the new one, if any; the block `gone` is given back, and the new line's block is got
pub record Swap (st st' : State) (tb tb' : Table) (s : ℕ) (new : Option Line) (gone : Option Block) : Type 0 where
  pub based : st'.meaning.base ≡ st.meaning.base
  pub law : Lawful st'.meaning
  pub long : length st'.bytes ≡ st'.meaning.extent
  pub order : Rising serial_of 0 st'.next st'.lines
  pub same_look_up : (t : ℕ) → (t ≡ s → ⊥) → look_up t st' ≡ look_up t st
  pub same_row : (t : ℕ) → (t ≡ s → ⊥) → row t tb' ≡ row t tb
  pub at : look_up s st' ≡ new
  pub undisturbed : Undisturbed st s st'.bytes
  pub spelled : (l : Line) → new ≡ Some l → HasRow st.meaning.base st'.bytes l s tb'
  pub live : (r : Row) → row s tb' ≡ Some r → (l : Line) × (new ≡ Some l)
  pub blocks : (C : Block) → Among C st'.meaning.live ↔ ((block_at new ≡ Some C) ⊎ (Among C st.meaning.live × (gone ≡ Some C → ⊥)))
  pub leaves : (C : Block) → block_at (look_up s st) ≡ Some C → (block_at new ≡ Some C) ⊎ ((gone ≡ Some C) ⊎ Other st s C)
  pub spared : (C : Block) → Other st s C → gone ≡ Some C → ⊥
  pub sharing : (t : ℕ) (l m : Line) (B : Block) → (t ≡ s → ⊥) → new ≡ Some l → look_up t st ≡ Some m → block_of l.backing ≡ Some B → block_of m.backing ≡ Some B → (l.mutable ≡ false) × (m.mutable ≡ false)

module _ (st st' : State) (tb tb' : Table) (s : ℕ) (new : Option Line) (gone : Option Block) (inv : Inv st tb) (w : Swap st st' tb tb' s new gone) where
  mine : (C : Block) (o : Option Line) → look_up s st' ≡ o → block_at o ≡ Some C → Under st' C
  mine C None e b = absurd (never refl b)
  mine C (Some l) e b = (s, l, e, b)

  yours : (C : Block) → Other st s C → Under st' C
  yours C o = (o.0, o.1, w.same_look_up o.0 o.2 ∙ o.3, o.4)

  used' : (C : Block) → Under st C → (gone ≡ Some C → ⊥) → Under st' C
  used' C u n = go (cases_eq u.0 s)
    where
      go : (u.0 ≡ s) ⊎ (u.0 ≡ s → ⊥) → Under st' C
      go (inl q) =
          let e : look_up s st ≡ Some u.1 = ap (λ z. look_up z st) (sym q) ∙ u.2 in
          ⊎_elim (λ b. mine C new w.at b) (⊎_elim (λ g. absurd (n g)) (yours C)) (w.leaves C (ap block_at e ∙ u.3))
      go (inr d) = yours C (u.0, u.1, d, u.2, u.3)

  change : Change st st' tb tb' s
  change = record {
    based = w.based;
    law = w.law;
    long = w.long;
    order = w.order;
    same_look_up = w.same_look_up;
    same_row = w.same_row;
    undisturbed = w.undisturbed;
    spelled = λ l e. w.spelled l (sym w.at ∙ e);
    live = λ r e. let h = w.live r e in (h.0, w.at ∙ h.1);
    held = λ l B e b. (w.blocks B).1 (inl (ap block_at (sym w.at ∙ e) ∙ b));
    kept = λ t m B n e b. (w.blocks B).1 (inr (inv.held t m B e b, w.spared B (t, m, n, e, b)));
    used = λ B a. ⊎_elim (λ b. mine B new w.at b) (λ p. used' B (inv.used B p.0) p.1) ((w.blocks B).0 a);
    alone = λ t l m B n e f g h. w.sharing t l m B n (sym w.at ∙ e) f g h;
  }

  pub swapped : Inv st' tb'
  swapped = changed st st' tb tb' s inv change

-- writes inside a block that no other handle is on
module _ (st : State) (tb : Table) (s : ℕ) (a : Meaning) (B : Block) (ys : List ℕ) (inv : Inv st tb) (law : Lawful a) (size : a.extent ≡ st.meaning.extent) (here : Among B a.live)
    (out : Outside B.place B.size st.bytes ys)
    (others : (C : Block) → Other st s C → Among C a.live × (C ≡ B → ⊥)) where
  pub undisturbed_outside : Undisturbed st s ys
  undisturbed_outside C o =
      let k = others C o in
      part_outside B.place B.size C.place C.size st.bytes ys out (law.apart C B k.0 here k.1) (omega (arith, law.within C k.0, inv.long))
