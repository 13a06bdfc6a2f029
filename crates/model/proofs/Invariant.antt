-- What holds of a store and its table after every call, and the lemma that keeps it where one serial's line and row change.
use Rattle.std.proofs.Common.{◌≡◌, ℕ, ◌+◌, ◌-◌, ◌*◌, ◌≤◌, true, false, ◌⊎◌, List, length, Some, None, Option, sym, refl, ap, ◌∙◌, subst, inl, inr, arith}
use Rattle.std.proofs.lemmas.Bool.{cases_eq}
use Rattle.region.specs.Bytes.{part}
use Rattle.region.proofs.Parts.{part_part}
use Rattle.allocation.specs.declared.block.Block.{Block}
use Rattle.allocation.specs.Meaning.{Among, Lawful}
use Rattle.model.specs.declared.line.Line.{Line}
use Rattle.model.specs.Book.{State, block_of, look_up, serial_of, shown, shown_on}
use Rattle.model.specs.Invariant.{Sits}
use Rattle.model.specs.Keyed.{Rising}
use Rattle.model.specs.Patterns.{Even, joined}
use Rattle.model.specs.Pedigree.{Row, Table, row}

-- a line and its row
pub record Fits (base : ℕ) (xs : List ℕ) (l : Line) (r : Row) : Type 0 where
  pub kind : r.kind ≡ l.kind
  pub block : r.block ≡ block_of l.backing
  pub wide : 1 ≤ l.kind.width
  pub claims : 1 ≤ l.claim
  pub even : Even l.kind.width r.list
  pub len : length r.list ≡ l.len
  pub within : l.mutable ≡ true → l.len ≤ l.capacity
  pub sits : Sits base l (block_of l.backing)
  pub spells : joined r.list ≡ shown base l xs

abbrev pub HasRow : ℕ → List ℕ → Line → ℕ → Table → Type 0
HasRow base xs l s tb = (r : Row) × (row s tb ≡ Some r) × Fits base xs l r

abbrev pub Under : State → Block → Type 0
Under st B = (t : ℕ) × (m : Line) × (look_up t st ≡ Some m) × (block_of m.backing ≡ Some B)

pub record Inv (st : State) (tb : Table) : Type 0 where
  pub law : Lawful st.meaning
  pub long : length st.bytes ≡ st.meaning.extent
  pub order : Rising serial_of 0 st.next st.lines
  pub spelled : (s : ℕ) (l : Line) → look_up s st ≡ Some l → HasRow st.meaning.base st.bytes l s tb
  pub live : (s : ℕ) (r : Row) → row s tb ≡ Some r → (l : Line) × (look_up s st ≡ Some l)
  pub held : (s : ℕ) (l : Line) (B : Block) → look_up s st ≡ Some l → block_of l.backing ≡ Some B → Among B st.meaning.live
  pub used : (B : Block) → Among B st.meaning.live → Under st B
  pub alone : (s t : ℕ) (l m : Line) (B : Block) → (t ≡ s → ⊥) → look_up s st ≡ Some l → look_up t st ≡ Some m → block_of l.backing ≡ Some B → block_of m.backing ≡ Some B → l.mutable ≡ false

-- another handle than s on the block
abbrev pub Other : State → ℕ → Block → Type 0
Other st s C = (t : ℕ) × (m : Line) × (t ≡ s → ⊥) × (look_up t st ≡ Some m) × (block_of m.backing ≡ Some C)

-- the bytes of every block that another handle is on stay
abbrev pub Undisturbed : State → ℕ → List ℕ → Type 0
Undisturbed st s ys = (C : Block) → Other st s C → part C.place C.size ys ≡ part C.place C.size st.bytes

-- the line and the row of the serial s change, and no other
pub record Change (st st' : State) (tb tb' : Table) (s : ℕ) : Type 0 where
  pub based : st'.meaning.base ≡ st.meaning.base
  pub law : Lawful st'.meaning
  pub long : length st'.bytes ≡ st'.meaning.extent
  pub order : Rising serial_of 0 st'.next st'.lines
  pub same_look_up : (t : ℕ) → (t ≡ s → ⊥) → look_up t st' ≡ look_up t st
  pub same_row : (t : ℕ) → (t ≡ s → ⊥) → row t tb' ≡ row t tb
  pub undisturbed : Undisturbed st s st'.bytes
  pub spelled : (l : Line) → look_up s st' ≡ Some l → HasRow st.meaning.base st'.bytes l s tb'
  pub live : (r : Row) → row s tb' ≡ Some r → (l : Line) × (look_up s st' ≡ Some l)
  pub held : (l : Line) (B : Block) → look_up s st' ≡ Some l → block_of l.backing ≡ Some B → Among B st'.meaning.live
  pub kept : (t : ℕ) (m : Line) (B : Block) → (t ≡ s → ⊥) → look_up t st ≡ Some m → block_of m.backing ≡ Some B → Among B st'.meaning.live
  pub used : (B : Block) → Among B st'.meaning.live → Under st' B
  pub alone : (t : ℕ) (l m : Line) (B : Block) → (t ≡ s → ⊥) → look_up s st' ≡ Some l → look_up t st ≡ Some m → block_of l.backing ≡ Some B → block_of m.backing ≡ Some B → (l.mutable ≡ false) × (m.mutable ≡ false)

pub refit : (base base' : ℕ) (xs ys : List ℕ) (l : Line) (r : Row) → base' ≡ base → shown base l ys ≡ shown base l xs → Fits base xs l r → Fits base' ys l r
refit base base' xs ys l r e c f =
    subst (λ b. Fits b ys l r) (sym e)
    (record { kind = f.kind; block = f.block; wide = f.wide; claims = f.claims; even = f.even; len = f.len; within = f.within; sits = f.sits; spells = f.spells ∙ sym c })

-- a line shows what it did if its block's bytes stay
still_shown : (base : ℕ) (l : Line) (xs ys : List ℕ) (o : Option Block) → Sits base l o
    → ((C : Block) → o ≡ Some C → (C.place + C.size ≤ length xs) × (C.place + C.size ≤ length ys) × (part C.place C.size ys ≡ part C.place C.size xs)) → shown_on o base l ys ≡ shown_on o base l xs
unfolding shown_on
still_shown base l xs ys None s h = refl
still_shown base l xs ys (Some C) s h =
    let k = h C refl in
    let w = l.len * l.kind.width in
    let off = l.start - base - C.place in
    let e : C.place + off ≡ l.start - base = omega (arith, s.0) in
    let a = part_part C.place C.size off w ys (omega (arith, s.0, s.1)) k.1 in
    let b = part_part C.place C.size off w xs (omega (arith, s.0, s.1)) k.0 in
    subst (λ z. part z w ys ≡ part z w xs) e (sym a ∙ ap (part off w) k.2 ∙ b)

module _ (st st' : State) (tb tb' : Table) (s : ℕ) (inv : Inv st tb) (c : Change st st' tb tb' s) where
  still : (t : ℕ) (l : Line) → (t ≡ s → ⊥) → look_up t st ≡ Some l → Sits st.meaning.base l (block_of l.backing) → shown st.meaning.base l st'.bytes ≡ shown st.meaning.base l st.bytes
  unfolding shown
  still t l n e k = still_shown st.meaning.base l st.bytes st'.bytes (block_of l.backing) k (λ C b.
      (omega (arith, inv.law.within C (inv.held t l C e b), inv.long), omega (arith, c.law.within C (c.kept t l C n e b), c.long), c.undisturbed C (t, l, n, e, b)))

  spelled' : (t : ℕ) (l : Line) → look_up t st' ≡ Some l → (t ≡ s) ⊎ (t ≡ s → ⊥) → HasRow st'.meaning.base st'.bytes l t tb'
  spelled' t l e (inl q) =
      let h = c.spelled l (rw q at e) in
      rw q (h.0, h.1, refit st.meaning.base st'.meaning.base st'.bytes st'.bytes l h.0 c.based refl h.2)
  spelled' t l e (inr n) =
      let e' : look_up t st ≡ Some l = sym (c.same_look_up t n) ∙ e in
      let h = inv.spelled t l e' in
      (h.0, c.same_row t n ∙ h.1, refit st.meaning.base st'.meaning.base st.bytes st'.bytes l h.0 c.based (still t l n e' h.2.sits) h.2)

  live' : (t : ℕ) (r : Row) → row t tb' ≡ Some r → (t ≡ s) ⊎ (t ≡ s → ⊥) → (l : Line) × (look_up t st' ≡ Some l)
  live' t r e (inl q) = rw q (c.live r (rw q at e))
  live' t r e (inr n) = let h = inv.live t r (sym (c.same_row t n) ∙ e) in (h.0, c.same_look_up t n ∙ h.1)

  held' : (t : ℕ) (l : Line) (B : Block) → look_up t st' ≡ Some l → block_of l.backing ≡ Some B → (t ≡ s) ⊎ (t ≡ s → ⊥) → Among B st'.meaning.live
  held' t l B e b (inl q) = c.held l B (rw q at e) b
  held' t l B e b (inr n) = c.kept t l B n (sym (c.same_look_up t n) ∙ e) b

  alone' : (a t : ℕ) (l m : Line) (B : Block) → (t ≡ a → ⊥) → look_up a st' ≡ Some l → look_up t st' ≡ Some m → block_of l.backing ≡ Some B → block_of m.backing ≡ Some B
      → (a ≡ s) ⊎ (a ≡ s → ⊥) → (t ≡ s) ⊎ (t ≡ s → ⊥) → l.mutable ≡ false
  alone' a t l m B d e f g h (inl p) (inl q) = absurd (d (q ∙ sym p))
  alone' a t l m B d e f g h (inl p) (inr q) = (c.alone t l m B q (rw p at e) (sym (c.same_look_up t q) ∙ f) g h).0
  alone' a t l m B d e f g h (inr p) (inl q) = (c.alone a m l B p (rw q at f) (sym (c.same_look_up a p) ∙ e) h g).1
  alone' a t l m B d e f g h (inr p) (inr q) = inv.alone a t l m B d (sym (c.same_look_up a p) ∙ e) (sym (c.same_look_up t q) ∙ f) g h

  pub changed : Inv st' tb'
  changed = record {
    law = c.law;
    long = c.long;
    order = c.order;
    spelled = λ t l e. spelled' t l e (cases_eq t s);
    live = λ t r e. live' t r e (cases_eq t s);
    held = λ t l B e b. held' t l B e b (cases_eq t s);
    used = c.used;
    alone = λ a t l m B d e f g h. alone' a t l m B d e f g h (cases_eq a s) (cases_eq t s);
  }
