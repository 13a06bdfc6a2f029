-- The shapes of change: a line is revised, created, relocated or ended.
use Rattle.std.proofs.Common.{◌≡◌, ℕ, ◌+◌, true, false, ◌⊎◌, ◌↔◌, List, [], ◌∷◌, ◌++◌, length, Some, None, Option, sym, refl, ap, ◌∙◌, subst, inl, inr, ⊎_elim, arith}
use Rattle.region.specs.Bytes.{Outside}
use Rattle.allocation.specs.declared.block.Block.{Block}
use Rattle.allocation.specs.Meaning.{Among, Fixed, Lawful, Meaning}
use Rattle.model.specs.declared.line.Line.{Line}
use Rattle.model.specs.Book.{State, block_of, look_up, serial_of}
use Rattle.model.specs.Keyed.{Rising, find, update, without}
use Rattle.model.specs.Pedigree.{Row, Table, key_of, row}
use Rattle.model.proofs.Invariant.{Fits, HasRow, Inv, Other, Undisturbed}
use Rattle.model.proofs.Keyed.{find_cons, find_cons_other, find_key, find_snoc, find_snoc_other, find_update, find_update_other, find_without, find_without_other, rising_above, rising_snoc, rising_update, rising_without}
use Rattle.model.proofs.Shapes.{block_at, never, pin, swapped, undisturbed_outside}

-- the book changes only at the serial s
pub record Only (n : ℕ) (xs ys : List Line) (s : ℕ) (new : Option Line) : Type 0 where
  pub order : Rising serial_of 0 n ys
  pub same : (t : ℕ) → (t ≡ s → ⊥) → find serial_of t ys ≡ find serial_of t xs
  pub at : find serial_of s ys ≡ new

-- and so the table
pub record Rows (tb tb' : Table) (s : ℕ) (new : Option Row) : Type 0 where
  pub same : (t : ℕ) → (t ≡ s → ⊥) → row t tb' ≡ row t tb
  pub at : row s tb' ≡ new

pub only_put : (n : ℕ) (xs : List Line) (s : ℕ) (l l' : Line) → Rising serial_of 0 n xs → find serial_of s xs ≡ Some l → l'.serial ≡ s → Only n xs (update serial_of l'.serial (λ _. l') xs) s (Some l')
only_put n xs s l l' f e q = subst (λ z. Only n xs (update serial_of z (λ _. l') xs) s (Some l')) (sym q) (record {
  order = rising_update serial_of 0 n s (λ _. l') xs (λ x k. q) f;
  same = λ t d. find_update_other serial_of s t (λ _. l') xs d (λ x k. q);
  at = find_update serial_of s (λ _. l') xs l q e;
})

pub only_none : (n : ℕ) (xs : List Line) (s : ℕ) (l : Line) → Rising serial_of 0 n xs → find serial_of s xs ≡ Some l → Only n xs xs s (Some l)
only_none n xs s l f e = record { order = f; same = λ t d. refl; at = e }

pub only_add : (n : ℕ) (xs : List Line) (l : Line) → Rising serial_of 0 n xs → l.serial ≡ n → Only (n + 1) xs (xs ++ (l ∷ [])) n (Some l)
only_add n xs l f q = record {
  order = rising_snoc serial_of 0 n l xs q (omega arith) f;
  same = λ t d. find_snoc_other serial_of t l xs (λ k. d (k ∙ q));
  at = subst (λ z. find serial_of z (xs ++ (l ∷ [])) ≡ Some l) q (find_snoc serial_of l xs (rising_above serial_of 0 n l.serial xs f (omega arith)));
}

pub only_end : (n : ℕ) (xs : List Line) (s : ℕ) → Rising serial_of 0 n xs → Only n xs (without serial_of s xs) s None
only_end n xs s f = record { order = rising_without serial_of 0 n s xs f; same = λ t d. find_without_other serial_of s t xs d; at = find_without serial_of s xs }

pub rows_update : (tb : Table) (s : ℕ) (f : Row → Row) (r : Row) → ((x : Row) → (f x).serial ≡ x.serial) → row s tb ≡ Some r → Rows tb (update key_of s f tb) s (Some (f r))
unfolding row key_of
rows_update tb s f r k e = record {
  same = λ t d. find_update_other key_of s t f tb d (λ x q. k x ∙ q);
  at = find_update key_of s f tb r (k r ∙ Rattle.model.proofs.Keyed.find_key key_of s tb r e) e;
}

-- two changes at one serial, one after the other
pub rows_then : (tb tb₁ tb₂ : Table) (s : ℕ) (a b : Option Row) → Rows tb tb₁ s a → Rows tb tb₂ s b → Rows tb₁ tb₂ s b
rows_then tb tb₁ tb₂ s a b p q = record { same = λ t d. q.same t d ∙ sym (p.same t d); at = q.at }

pub rows_none : (tb : Table) (s : ℕ) (r : Row) → row s tb ≡ Some r → Rows tb tb s (Some r)
rows_none tb s r e = record { same = λ t d. refl; at = e }

pub rows_add : (tb : Table) (r : Row) (n : ℕ) → r.serial ≡ n → Rows tb (r ∷ tb) n (Some r)
unfolding row key_of
rows_add tb r n q = record {
  same = λ t d. find_cons_other key_of t r tb (λ k. d (k ∙ q));
  at = subst (λ z. find key_of z (r ∷ tb) ≡ Some r) q (find_cons key_of r tb);
}

pub rows_end : (tb : Table) (s : ℕ) → Rows tb (without key_of s tb) s None
unfolding row
rows_end tb s = record { same = λ t d. find_without_other key_of s t tb d; at = find_without key_of s tb }

abbrev pub to : State → ℕ → List Line → Meaning → List ℕ → State
to st n ls a ys = record { number = st.number; next = n; lines = ls; meaning = a; bytes = ys }

module _ (st : State) (tb : Table) (inv : Inv st tb) where
  -- the line at s is revised, over the same block
  pub revise : (s : ℕ) (l l' : Line) (r' : Row) (ls : List Line) (ys : List ℕ) (tb' : Table) → look_up s st ≡ Some l
      → Only st.next st.lines ls s (Some l') → Rows tb tb' s (Some r')
      → block_of l'.backing ≡ block_of l.backing → length ys ≡ length st.bytes → Undisturbed st s ys → Fits st.meaning.base ys l' r'
      → ((C : Block) → Other st s C → block_of l.backing ≡ Some C → l'.mutable ≡ false)
      → Inv (to st st.next ls st.meaning ys) tb'
  revise s l l' r' ls ys tb' e only rows b long undisturbed fits share = swapped st (to st st.next ls st.meaning ys) tb tb' s (Some l') None inv (record {
    based = refl;
    law = inv.law;
    long = long ∙ inv.long;
    order = only.order;
    same_look_up = only.same;
    same_row = rows.same;
    at = only.at;
    undisturbed = undisturbed;
    spelled = λ k q. pin refl (λ k. HasRow st.meaning.base ys k s tb') (r', rows.at, fits) k q;
    live = λ k q. (l', refl);
    blocks = λ C. (λ a. inr (a, λ q. never refl q), ⊎_elim (λ q. inv.held s l C e (sym b ∙ q)) (λ p. p.0));
    leaves = λ C q. inl (b ∙ sym (ap block_at e) ∙ q);
    spared = λ C o q. never refl q;
    sharing = λ t k m B n p q g h.
        let i : k ≡ l' = cc in
        let j : block_of l.backing ≡ Some B = sym b ∙ ap (λ z. block_of z.backing) (sym i) ∙ g in
        (ap (λ z. z.mutable) i ∙ share B (t, m, n, q, h) j, inv.alone t s m l B (λ z. n (sym z)) q e h j);
  })

  -- a new line, on no block, on a new one, or on one that shared handles are on
  pub create : (n : ℕ) (l : Line) (r : Row) (ls : List Line) (a : Meaning) (ys : List ℕ) (tb' : Table) (s : ℕ) → look_up s st ≡ None
      → Only n st.lines ls s (Some l) → Rows tb tb' s (Some r)
      → Lawful a → a.base ≡ st.meaning.base → length ys ≡ a.extent → Undisturbed st s ys → Fits st.meaning.base ys l r
      → ((C : Block) → Among C a.live ↔ ((block_of l.backing ≡ Some C) ⊎ Among C st.meaning.live))
      → ((t : ℕ) (m : Line) (C : Block) → look_up t st ≡ Some m → block_of m.backing ≡ Some C → block_of l.backing ≡ Some C → (l.mutable ≡ false) × (m.mutable ≡ false))
      → Inv (to st n ls a ys) tb'
  create n l r ls a ys tb' s e only rows law based long undisturbed fits blocks share = swapped st (to st n ls a ys) tb tb' s (Some l) None inv (record {
    based = based;
    law = law;
    long = long;
    order = only.order;
    same_look_up = only.same;
    same_row = rows.same;
    at = only.at;
    undisturbed = undisturbed;
    spelled = λ k q. pin refl (λ k. HasRow st.meaning.base ys k s tb') (r, rows.at, fits) k q;
    live = λ k q. (l, refl);
    blocks = λ C. (λ k. ⊎_elim inl (λ p. inr (p, λ q. never refl q)) ((blocks C).0 k), λ k. (blocks C).1 (⊎_elim inl (λ p. inr p.0) k));
    leaves = λ C q. absurd (never refl (ap block_at (sym e) ∙ q));
    spared = λ C o q. never refl q;
    sharing = λ t k m B d p q g h.
        let i : k ≡ l = cc in
        let f = share t m B q h (ap (λ z. block_of z.backing) (sym i) ∙ g) in
        (ap (λ z. z.mutable) i ∙ f.0, f.1);
  })

  -- the mutable line at s moves to the block B; its old block, if any, is given back or grown
  pub relocate : (s : ℕ) (l l' : Line) (r' : Row) (ls : List Line) (a : Meaning) (B : Block) (ys : List ℕ) (tb' : Table) → look_up s st ≡ Some l → l.mutable ≡ true
      → Only st.next st.lines ls s (Some l') → Rows tb tb' s (Some r')
      → Lawful a → Fixed st.meaning a → Outside B.place B.size st.bytes ys → Fits st.meaning.base ys l' r' → block_of l'.backing ≡ Some B
      → ((C : Block) → Among C a.live ↔ ((C ≡ B) ⊎ (Among C st.meaning.live × (block_of l.backing ≡ Some C → ⊥))))
      → (Among B st.meaning.live → block_of l.backing ≡ Some B)
      → Inv (to st st.next ls a ys) tb'
  relocate s l l' r' ls a B ys tb' e mut only rows law fixed out fits on-B blocks fresh = swapped st (to st st.next ls a ys) tb tb' s (Some l') (block_of l.backing) inv (record {
    based = fixed.base;
    law = law;
    long = out.long ∙ inv.long ∙ sym fixed.extent;
    order = only.order;
    same_look_up = only.same;
    same_row = rows.same;
    at = only.at;
    undisturbed = undisturbed_outside st tb s a B ys inv law fixed.extent ((blocks B).1 (inl refl)) out (λ C o. ((blocks C).1 (inr (inv.held o.0 o.1 C o.3 o.4, spare C o)), strange C o));
    spelled = λ k q. pin refl (λ k. HasRow st.meaning.base ys k s tb') (r', rows.at, fits) k q;
    live = λ k q. (l', refl);
    blocks = λ C. (λ k. ⊎_elim (λ q. inl (on-B ∙ ap {B = Option Block} Some (sym q))) inr ((blocks C).0 k), λ k. (blocks C).1 (⊎_elim (λ q. inl (let z : C ≡ B = cc in z)) inr k));
    leaves = λ C q. inr (inl (sym (ap block_at e) ∙ q));
    spared = spare;
    sharing = λ t k m C d p q g h.
        let i : k ≡ l' = cc in
        let j : Some C ≡ Some B = sym g ∙ ap (λ z. block_of z.backing) i ∙ on-B in
        absurd (strange C (t, m, d, q, h) (let z : C ≡ B = cc in z));
  })
    where
      spare : (C : Block) → Other st s C → block_of l.backing ≡ Some C → ⊥
      spare C o q = let z : true ≡ false = sym mut ∙ inv.alone s o.0 l o.1 C o.2 e o.3 q o.4 in mathlib.Core.Bool.true≢false z

      strange : (C : Block) → Other st s C → C ≡ B → ⊥
      strange C o q = spare C o (subst (λ D. block_of l.backing ≡ Some D) (sym q) (fresh (subst (λ D. Among D st.meaning.live) q (inv.held o.0 o.1 C o.3 o.4))))

  -- the line at s ends; its block is given back if no other handle is on it
  pub finish_line : (s : ℕ) (l : Line) (ls : List Line) (a : Meaning) (gone : Option Block) (tb' : Table) → look_up s st ≡ Some l
      → Only st.next st.lines ls s None → Rows tb tb' s None
      → Lawful a → Fixed st.meaning a
      → ((C : Block) → Among C a.live ↔ (Among C st.meaning.live × (gone ≡ Some C → ⊥)))
      → ((C : Block) → block_of l.backing ≡ Some C → (gone ≡ Some C) ⊎ Other st s C)
      → ((C : Block) → Other st s C → gone ≡ Some C → ⊥)
      → Inv (to st st.next ls a st.bytes) tb'
  finish_line s l ls a gone tb' e only rows law fixed blocks leaves spared = swapped st (to st st.next ls a st.bytes) tb tb' s None gone inv (record {
    based = fixed.base;
    law = law;
    long = inv.long ∙ sym fixed.extent;
    order = only.order;
    same_look_up = only.same;
    same_row = rows.same;
    at = only.at;
    undisturbed = λ C o. refl;
    spelled = λ k q. absurd (never refl q);
    live = λ k q. absurd (never rows.at q);
    blocks = λ C. (λ k. inr ((blocks C).0 k), λ k. (blocks C).1 (⊎_elim (λ q. absurd (never refl q)) (λ p. p) k));
    leaves = λ C q. inr (leaves C (sym (ap block_at e) ∙ q));
    spared = spared;
    sharing = λ t k m B n p q g h. absurd (never refl p);
  })
