-- The calls that change one line, each shown to keep the invariant.
use Rattle.std.proofs.Common.{◌≡◌, ℕ, ◌+◌, ◌-◌, ◌*◌, ◌/◌, ◌<◌, ◌≤◌, Bool, true, false, leb, ◌⊎◌, List, [], ◌∷◌, ◌++◌, length, take, drop, set, Some, None, Option, sym, refl, ap, ◌∙◌, subst, inl, inr, ⊎_elim, mul-le-mul_right, arith, length-drop, length-take, take_all}
use Rattle.std.proofs.lemmas.List.{nil_from_length}
use Rattle.std.proofs.lemmas.Bool.{leb-true, leb-false}
use Rattle.region.specs.Bytes.{Outside, overwrite}
use Rattle.region.proofs.Parts.{outside_written}
use Rattle.allocation.specs.declared.block.Block.{Block}
use Rattle.allocation.specs.Meaning.{Meaning}
use Rattle.model.specs.declared.line.Backing.{Backing}
use Rattle.model.specs.declared.line.Backing.TheVariants.{Empty, Owned, Unbacked}
use Rattle.model.specs.declared.line.Kind.{Kind}
use Rattle.model.specs.declared.line.Line.{Line}
use Rattle.model.specs.Book.{State, block_of, look_up, one_backing, serial_of, shared_by}
use Rattle.model.specs.Calls.{giving}
use Rattle.model.specs.Effects.{GivesBack, add_line, block_left, end_line, put_line, regrouped, shortened, slice_line, unbacked_line, unfrozen, with_bytes, with_claim, with_len, with_meaning, with_state}
use Rattle.model.specs.Keyed.{Rising, update, without}
use Rattle.model.specs.Pedigree.{Row, Table, as_kind, begins, if_any, key_of, named, row, spelling, upon}
use Rattle.model.proofs.Backings.{block_one, one_block}
use Rattle.model.proofs.Fitting.{div_mul, fits_like, fits_new, fits_range, fits_regrouped, fits_set, mul_div, sits_off, sits_on}
use Rattle.model.proofs.Getting.{returned}
use Rattle.model.proofs.Invariant.{Fits, HasRow, Inv, Other}
use Rattle.model.proofs.Keyed.{any_other_no, any_other_yes, rising_above}
use Rattle.model.proofs.Moves.{Rows, create, finish_line, only_add, only_end, only_none, only_put, revise, rows_add, rows_end, rows_none, rows_update}
use Rattle.model.proofs.Shapes.{never, pin, undisturbed_outside}

if_any_some : (vs : List (List ℕ)) (b : Option Block) → 1 ≤ length vs → if_any vs b ≡ b
if_any_some [] b h = absurd (omega arith)
if_any_some (v ∷ vs) b h = refl

off_unbacked : block_of Unbacked ≡ None
unfolding block_of
off_unbacked = refl

off_empty : (g : Option ℕ) → block_of (Empty g) ≡ None
unfolding block_of
off_empty g = refl

pub on_block : (B : Block) → block_of (Owned B) ≡ Some B
unfolding block_of
on_block B = refl

pub no_other : (st : State) (l : Line) → shared_by st l ≡ false → (t : ℕ) (m : Line) → (t ≡ l.serial → ⊥) → look_up t st ≡ Some m → one_backing l.backing m.backing ≡ false
unfolding shared_by
no_other st l k t m d e = any_other_no serial_of (λ m. one_backing l.backing m.backing) l.serial t st.lines m k d e

pub some_other : (st : State) (s : ℕ) (l : Line) → l.serial ≡ s → Rising serial_of 0 st.next st.lines → shared_by st l ≡ true
    → (t : ℕ) × (m : Line) × (t ≡ s → ⊥) × (look_up t st ≡ Some m) × (one_backing l.backing m.backing ≡ true)
unfolding shared_by
some_other st s l q f k =
    let z = any_other_yes serial_of (λ m. one_backing l.backing m.backing) l.serial 0 st.next st.lines f k in
    (z.0, z.1, λ w. z.2 (w ∙ sym q), z.3, z.4)

module _ (st : State) (tb : Table) (inv : Inv st tb) where
  -- the blocks lie in the region
  pub inside : (s : ℕ) (l : Line) → look_up s st ≡ Some l → (B : Block) → block_of l.backing ≡ Some B → B.place + B.size ≤ length st.bytes
  inside s l e B b = omega (arith, inv.law.within B (inv.held s l B e b), inv.long)

  -- the line at s under another count, state or claim, no byte written
  pub recast : (s : ℕ) (l l' : Line) (r r' : Row) (tb' : Table) → look_up s st ≡ Some l → l'.serial ≡ s → Rows tb tb' s (Some r') → block_of l'.backing ≡ block_of l.backing
      → Fits st.meaning.base st.bytes l' r' → ((C : Block) → Other st s C → block_of l.backing ≡ Some C → l'.mutable ≡ false) → Inv (put_line st l') tb'
  unfolding put_line
  recast s l l' r r' tb' e q rows b fits share =
      revise st tb inv s l l' r' (update serial_of l'.serial (λ _. l') st.lines) st.bytes tb' e (only_put st.next st.lines s l l' inv.order e q) rows b refl (λ C o. refl) fits share

  pub own_share : (s : ℕ) (l l' : Line) → look_up s st ≡ Some l → l'.mutable ≡ l.mutable → (C : Block) → Other st s C → block_of l.backing ≡ Some C → l'.mutable ≡ false
  own_share s l l' e q C o b = q ∙ inv.alone s o.0 l o.1 C o.2 e o.3 b o.4

  pub cut : (s n : ℕ) (l : Line) (b : Bool) → look_up s st ≡ Some l → l.serial ≡ s → leb n l.len ≡ b → Inv (put_line st (shortened b n l)) (update key_of s (λ r. spelling r (take n r.list)) tb)
  unfolding spelling
  cut s n l true e q k =
      let t = inv.spelled s l e in
      let f = t.2 in
      let r = t.0 in
      recast s l (with_len l n) r (spelling r (take n r.list)) (update key_of s (λ r. spelling r (take n r.list)) tb) e q (rows_update tb s (λ r. spelling r (take n r.list)) r (λ x. refl) t.1) refl
      (fits_range st.meaning.base st.bytes l (with_len l n) r (spelling r (take n r.list)) 0 n f (inside s l e) (omega (arith, leb-true n l.len k)) refl f.kind refl f.block (omega arith) refl f.claims refl
      (λ B b. (sits_on st.meaning.base l B b f.sits).2) (λ b. (sits_off st.meaning.base l b f.sits).1) (λ m. omega (arith, f.within m, leb-true n l.len k)))
      (own_share s l (with_len l n) e refl)
  cut s n l false e q k =
      let t = inv.spelled s l e in
      let f = t.2 in
      let r = t.0 in
      recast s l l r (spelling r (take n r.list)) (update key_of s (λ r. spelling r (take n r.list)) tb) e q (rows_update tb s (λ r. spelling r (take n r.list)) r (λ x. refl) t.1) refl
      (fits_like st.meaning.base st.bytes l l r (spelling r (take n r.list)) f refl refl refl refl f.claims refl refl (take_all n r.list (omega (arith, leb-false n l.len k, f.len)))
      (λ B b. (sits_on st.meaning.base l B b f.sits).2) (λ b. (sits_off st.meaning.base l b f.sits).1) f.within)
      (own_share s l l e refl)

  pub freeze : (s : ℕ) (l : Line) → look_up s st ≡ Some l → l.serial ≡ s → Inv (put_line st (with_state l false 0)) tb
  freeze s l e q =
      let t = inv.spelled s l e in
      let f = t.2 in
      recast s l (with_state l false 0) t.0 t.0 tb e q (rows_none tb s t.0 t.1) refl
      (fits_like st.meaning.base st.bytes l (with_state l false 0) t.0 t.0 f refl refl refl refl f.claims refl refl refl
      (λ B b. let z = sits_on st.meaning.base l B b f.sits in omega (arith, z.0, z.1)) (λ b. refl) (λ m. absurd (mathlib.Core.Bool.false≢true m)))
      (λ C o b. refl)

  -- the claim alone changes
  pub reclaim : (s a : ℕ) (l : Line) (r : Row) (tb' : Table) → look_up s st ≡ Some l → l.serial ≡ s → 1 ≤ a → row s tb ≡ Some r → Rows tb tb' s (Some r) → Inv (put_line st (with_claim l a)) tb'
  reclaim s a l r tb' e q one re rows =
      let t = inv.spelled s l e in
      let f = pin t.1 (λ z. Fits st.meaning.base st.bytes l z) t.2 r re in
      recast s l (with_claim l a) r r tb' e q rows refl
      (fits_like st.meaning.base st.bytes l (with_claim l a) r r f refl refl refl refl one refl refl refl (λ B b. (sits_on st.meaning.base l B b f.sits).2) (λ b. (sits_off st.meaning.base l b f.sits).1) f.within)
      (own_share s l (with_claim l a) e refl)

  -- the same bytes as elements of another kind
  pub regroup : (s : ℕ) (l : Line) (k : Kind) (n c a : ℕ) → look_up s st ≡ Some l → l.serial ≡ s → 1 ≤ k.width → 1 ≤ a
      → n * k.width ≡ l.len * l.kind.width → c * k.width ≤ l.capacity * l.kind.width → (l.capacity ≡ 0 → c ≡ 0) → (l.mutable ≡ true → n ≤ c) → Inv (put_line st (regrouped l k n c a)) (update key_of s (λ r. as_kind r k) tb)
  unfolding as_kind
  regroup s l k n c a e q wide one even room bare within =
      let t = inv.spelled s l e in
      recast s l (regrouped l k n c a) t.0 (as_kind t.0 k) (update key_of s (λ r. as_kind r k) tb) e q (rows_update tb s (λ r. as_kind r k) t.0 (λ x. refl) t.1) refl
      (fits_regrouped st.meaning.base st.bytes l t.0 k n c a t.2 wide one even room bare within) (own_share s l (regrouped l k n c a) e refl)

  -- one value over an element
  pub put_value : (s i : ℕ) (v : List ℕ) (l : Line) → look_up s st ≡ Some l → l.mutable ≡ true → length v ≡ l.kind.width → i < l.len
      → Inv (with_bytes st (overwrite (l.start - st.meaning.base + i * l.kind.width) v st.bytes)) (update key_of s (λ r. spelling r (set r.list i v)) tb)
  unfolding with_bytes spelling
  put_value s i v l e mut k h = go (block_of l.backing) refl
    where
      t : HasRow st.meaning.base st.bytes l s tb
      t = inv.spelled s l e

      go : (o : Option Block) → block_of l.backing ≡ o → Inv (with_bytes st (overwrite (l.start - st.meaning.base + i * l.kind.width) v st.bytes)) (update key_of s (λ r. spelling r (set r.list i v)) tb)
      go None b = absurd (omega (arith, h, (sits_off st.meaning.base l b t.2.sits).0))
      go (Some B) b =
          let z = sits_on st.meaning.base l B b t.2.sits in
          let m = mul-le-mul_right l.kind.width h in
          let y = overwrite (l.start - st.meaning.base + i * l.kind.width) v st.bytes in
          let here = inv.held s l B e b in
          let o : Outside B.place B.size st.bytes y = outside_written B.place B.size (l.start - st.meaning.base + i * l.kind.width) v st.bytes (omega (arith, z.0)) (omega (arith, z.0, z.1)) (inside s l e B b) in
          revise st tb inv s l l (spelling t.0 (set t.0.list i v)) st.lines y (update key_of s (λ r. spelling r (set r.list i v)) tb) e (only_none st.next st.lines s l inv.order e)
          (rows_update tb s (λ r. spelling r (set r.list i v)) t.0 (λ x. refl) t.1) refl o.long
          (undisturbed_outside st tb s st.meaning B y inv inv.law refl here o (λ C x. (inv.held x.0 x.1 C x.3 x.4, λ q. mathlib.Core.Bool.true≢false (sym mut ∙ inv.alone s x.0 l x.1 C x.2 e x.3 (b ∙ ap {B = Option Block} Some (sym q)) x.4))))
          (fits_set st.meaning.base st.bytes l t.0 i v B t.2 b (inside s l e B b) h k) (own_share s l l e refl)

  pub unused : look_up st.next st ≡ None
  unused = rising_above serial_of 0 st.next st.next st.lines inv.order (omega arith)

  -- a new shared line on the block of a shared one, or on none
  pub branch_off : (s : ℕ) (l l' : Line) (r' : Row) → look_up s st ≡ Some l → l.mutable ≡ false → l'.mutable ≡ false → l'.serial ≡ st.next → r'.serial ≡ st.next
      → ((C : Block) → block_of l'.backing ≡ Some C → block_of l.backing ≡ Some C) → Fits st.meaning.base st.bytes l' r' → Inv (add_line st l') (r' ∷ tb)
  unfolding add_line
  branch_off s l l' r' e mut mut' q rq b fits =
      create st tb inv (st.next + 1) l' r' (st.lines ++ (l' ∷ [])) st.meaning st.bytes (r' ∷ tb) st.next unused (only_add st.next st.lines l' inv.order q) (rows_add tb r' st.next rq) inv.law refl inv.long (λ C o. refl) fits
      (λ C. (inr, ⊎_elim (λ x. inv.held s l C e (b C x)) (λ x. x)))
      (λ t m C x y z. (mut', go t m C x y z (Rattle.std.proofs.lemmas.Bool.cases_eq t s)))
    where
      go : (t : ℕ) (m : Line) (C : Block) → look_up t st ≡ Some m → block_of m.backing ≡ Some C → block_of l'.backing ≡ Some C → (t ≡ s) ⊎ (t ≡ s → ⊥) → m.mutable ≡ false
      go t m C x y z (inl p) = pin e (λ k. k.mutable ≡ false) mut m (ap (λ n. look_up n st) (sym p) ∙ x)
      go t m C x y z (inr p) = inv.alone t s m l C (λ w. p (sym w)) x e y (b C z)

  pub fit : (s : ℕ) (l : Line) (r : Row) → look_up s st ≡ Some l → row s tb ≡ Some r → Fits st.meaning.base st.bytes l r
  fit s l r e re = let t = inv.spelled s l e in pin t.1 (λ z. Fits st.meaning.base st.bytes l z) t.2 r re

  pub slice_some : (s b n a : ℕ) (l : Line) (r : Row) → look_up s st ≡ Some l → l.mutable ≡ false → row s tb ≡ Some r → b + n ≤ l.len → 1 ≤ a → 1 ≤ n
      → Inv (add_line st (slice_line true st l b n a)) (upon (spelling (named r st.next) (take n (drop b r.list))) (if_any (take n (drop b r.list)) r.block) ∷ tb)
  unfolding upon spelling named
  slice_some s b n a l r e mut re h k c =
      let f = fit s l r e re in
      let vs = take n (drop b r.list) in
      let long : length vs ≡ n = simp (length-take, length-drop) (omega (arith, f.len)) in
      branch_off s l (slice_line true st l b n a) (upon (spelling (named r st.next) vs) (if_any vs r.block)) e mut refl refl refl (λ C q. q)
      (fits_range st.meaning.base st.bytes l (slice_line true st l b n a) r (upon (spelling (named r st.next) vs) (if_any vs r.block)) b n f (inside s l e) h refl f.kind refl (if_any_some vs r.block (omega arith) ∙ f.block) refl refl k refl
      (λ B q. let z = sits_on st.meaning.base l B q f.sits in let m = mul-le-mul_right l.kind.width h in omega (arith, z.0, z.1)) (λ q. refl) (λ m. absurd (mathlib.Core.Bool.false≢true m)))

  pub slice_none : (s b n a : ℕ) (l : Line) (r : Row) → look_up s st ≡ Some l → l.mutable ≡ false → row s tb ≡ Some r → 1 ≤ a → n ≡ 0
      → Inv (add_line st (slice_line false st l b n a)) (upon (spelling (named r st.next) (take n (drop b r.list))) (if_any (take n (drop b r.list)) r.block) ∷ tb)
  unfolding upon spelling named block_of
  slice_none s b n a l r e mut re k c =
      let f = fit s l r e re in
      let vs = take n (drop b r.list) in
      let none_left : vs ≡ [] = ap (λ z. take z (drop b r.list)) c in
      branch_off s l (slice_line false st l b n a) (upon (spelling (named r st.next) vs) (if_any vs r.block)) e mut refl refl refl (λ C q. absurd (never refl q))
      (fits_new st.meaning.base st.bytes (slice_line false st l b n a) (upon (spelling (named r st.next) vs) (if_any vs r.block)) refl none_left f.kind (ap (λ z. if_any z r.block) none_left) f.wide k (refl, refl))

  -- a new shared line without a backing
  pub unbacked : (k : Kind) (a : ℕ) → 1 ≤ k.width → 1 ≤ a → Inv (add_line st (unbacked_line st.next k a)) (begins (giving st.next []) k [] ∷ tb)
  unfolding add_line block_of
  unbacked k a wide one =
      let l = unbacked_line st.next k a in
      let r = begins (giving st.next []) k [] in
      create st tb inv (st.next + 1) l r (st.lines ++ (l ∷ [])) st.meaning st.bytes (r ∷ tb) st.next unused (only_add st.next st.lines l inv.order refl) (rows_add tb r st.next refl) inv.law refl inv.long (λ C o. refl)
      (fits_new st.meaning.base st.bytes l r refl refl refl refl wide one (refl, refl)) (λ C. (inr, ⊎_elim (λ q. absurd (never refl q)) (λ x. x))) (λ t m C x y z. absurd (never refl z))

  -- alone on its backing, no other handle is on its block
  sole : (s : ℕ) (l : Line) → l.serial ≡ s → shared_by st l ≡ false → (C : Block) → Other st s C → block_of l.backing ≡ Some C → ⊥
  sole s l q k C o b =
      let z = no_other st l k o.0 o.1 (λ w. o.2 (w ∙ q)) o.3 in
      mathlib.Core.Bool.false≢true (sym z ∙ one_block l.backing o.1.backing C b o.4)

  pub unfreeze : (s : ℕ) (l : Line) (b : Backing) (tb' : Table) (e : look_up s st ≡ Some l) → l.serial ≡ s → shared_by st l ≡ false → l.backing ≡ b → Rows tb tb' s (Some (inv.spelled s l e).0) → Inv (put_line st (unfrozen st l b)) tb'
  unfolding block_of
  unfreeze s l Unbacked tb' e q k i rows =
      let t = inv.spelled s l e in
      let f = t.2 in
      let o : block_of l.backing ≡ None = ap block_of i ∙ off_unbacked in
      let z = sits_off st.meaning.base l o f.sits in
      recast s l (unfrozen st l Unbacked) t.0 t.0 tb' e q rows (sym o)
      (fits_new st.meaning.base st.bytes (unfrozen st l Unbacked) t.0 refl (nil_from_length t.0.list (f.len ∙ z.0)) f.kind (f.block ∙ o) f.wide f.claims (refl, refl))
      (λ C x b. absurd (never o b))
  unfreeze s l (Empty g) tb' e q k i rows =
      let t = inv.spelled s l e in
      let f = t.2 in
      let o : block_of l.backing ≡ None = ap block_of i ∙ off_empty g in
      recast s l (with_state l true 0) t.0 t.0 tb' e q rows refl
      (fits_like st.meaning.base st.bytes l (with_state l true 0) t.0 t.0 f refl refl refl refl f.claims refl refl refl (λ B b. absurd (never o b)) (λ b. refl) (λ m. omega (arith, (sits_off st.meaning.base l o f.sits).0)))
      (λ C x b. absurd (never o b))
  unfreeze s l (Owned B) tb' e q k i rows =
      let t = inv.spelled s l e in
      let f = t.2 in
      let base = st.meaning.base in
      let o : block_of l.backing ≡ Some B = ap block_of i ∙ on_block B in
      let z = sits_on base l B o f.sits in
      let l' = with_state l true ((B.size - (l.start - (base + B.place))) / l.kind.width) in
      let d = div_mul (B.size - (l.start - (base + B.place))) l.kind.width in
      recast s l l' t.0 t.0 tb' e q rows refl
      (fits_like base st.bytes l l' t.0 t.0 f refl refl refl refl f.claims refl refl refl (λ C b. subst (λ D. l.start + ((B.size - (l.start - (base + B.place))) / l.kind.width) * l.kind.width ≤ base + (D.place + D.size)) (let w : B ≡ C = cc in w) (omega (arith, z.0, z.1))) (λ b. absurd (never b o)) (λ m. mul_div (B.size - (l.start - (base + B.place))) l.kind.width l.len f.wide (omega (arith, z.0, z.1))))
      (λ C x b. absurd (sole s l q k C x b))

  -- what a line leaves behind: its block, given back, or another handle on it
  pub leaves_it : (s : ℕ) (l : Line) (c : Bool) → l.serial ≡ s → shared_by st l ≡ c → (C : Block) → block_of l.backing ≡ Some C → (block_left c l ≡ Some C) ⊎ Other st s C
  leaves_it s l true q k C b = let z = some_other st s l q inv.order k in inr (z.0, z.1, z.2, z.3, block_one l.backing z.1.backing C b z.4)
  leaves_it s l false q k C b = inl b

  pub spares_it : (s : ℕ) (l : Line) (c : Bool) → l.serial ≡ s → shared_by st l ≡ c → (C : Block) → Other st s C → block_left c l ≡ Some C → ⊥
  spares_it s l true q k C o b = never refl b
  spares_it s l false q k C o b = sole s l q k C o b

  -- released: the last handle on a block gives it back
  pub release : (s : ℕ) (l : Line) (a : Meaning) → look_up s st ≡ Some l → l.serial ≡ s → GivesBack st.meaning (block_left (shared_by st l) l) a → Inv (end_line (with_meaning st a) s) (without key_of s tb)
  unfolding end_line with_meaning
  release s l a e q g =
      let w = returned st.meaning a (block_left (shared_by st l) l) inv.law g in
      finish_line st tb inv s l (without serial_of s st.lines) a (block_left (shared_by st l) l) (without key_of s tb) e (only_end st.next st.lines s inv.order) (rows_end tb s) w.lawful w.fixed w.blocks
      (leaves_it s l (shared_by st l) q refl) (spares_it s l (shared_by st l) q refl)

-- a table that has the same rows serves as well
pub respelled : {st : State} (tb tb' : Table) → Inv st tb → (s : ℕ) (l : Line) → look_up s st ≡ Some l → (r : Row) → row s tb ≡ Some r → Rows tb tb' s (Some r) → Inv st tb'
respelled {st} tb tb' inv s l e r re rows = revise st tb inv s l l r st.lines st.bytes tb' e (only_none st.next st.lines s l inv.order e) rows refl refl (λ C o. refl) (fit st tb inv s l r e re) (own_share st tb inv s l l e refl)
