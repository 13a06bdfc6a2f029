-- Reserving and appending.
use Rattle.std.proofs.Common.{◌≡◌, ℕ, ◌+◌, ◌-◌, ◌*◌, ◌/◌, ◌≤◌, Bool, true, false, ◌⊎◌, ◌↔◌, List, [], ◌++◌, length, Some, None, Option, sym, refl, ap, ◌∙◌, subst, inl, inr, ⊎_elim, append-nil, mul-le-mul_right, arith}
use Rattle.std.proofs.lemmas.List.{nil_from_length}
use Rattle.std.proofs.lemmas.Bool.{cases_Bool, leb-true, ltb-false, or_parts}
use Rattle.region.specs.Bytes.{Outside, overwrite, part}
use Rattle.region.proofs.Parts.{outside_more, outside_written, part_part, part_written}
use Rattle.region.proofs.Writes.{length_part}
use Rattle.allocation.specs.declared.block.Block.{Block}
use Rattle.allocation.specs.declared.block.Request.{Request}
use Rattle.allocation.specs.Alignments.{round_up}
use Rattle.allocation.specs.Meaning.{Allocates, Among, Fixed, Lawful, Meaning}
use Rattle.allocation.proofs.Rounding.{round_up_high, round_up_low}
use Rattle.model.specs.declared.line.Backing.TheVariants.{Owned}
use Rattle.model.specs.declared.line.Line.{Line}
use Rattle.model.specs.Book.{State, block_of, look_up, serial_of, shown}
use Rattle.model.specs.Checks.{enough, smaller, takes_new, wanted_bytes, wanted_request}
use Rattle.model.specs.Effects.{GivesBack, Grown, Relocates, Reserves, TakesNew, appended, put_line, relocated, with_bytes, with_len, with_meaning}
use Rattle.model.specs.Keyed.{update}
use Rattle.model.specs.Patterns.{Even, joined}
use Rattle.model.specs.Pedigree.{Row, Table, key_of, last_or, row, spelling, upon}
use Rattle.model.proofs.Fitting.{div_mul, fits_append, fits_like, fits_moved, mul_div, shown_is, sits_off, sits_on}
use Rattle.model.proofs.Invariant.{Fits, Inv}
use Rattle.model.proofs.Keeps.{inside, on_block, own_share}
use Rattle.model.proofs.Moves.{Rows, only_none, only_put, relocate, revise, rows_update}
use Rattle.model.proofs.Patterns.{length_joined, overwrite_nothing}
use Rattle.model.proofs.Shapes.{never, undisturbed_outside}

pub same_fixed : (a b c : Meaning) → Fixed a b → Fixed b c → Fixed a c
same_fixed a b c p q = record { base = q.base ∙ p.base; extent = q.extent ∙ p.extent; room = q.room ∙ p.room; copies = q.copies ∙ p.copies }

-- the growth rule holds the elements and those to come
pub wanted_holds : (l : Line) (more : ℕ) → (l.len + more) * l.kind.width ≤ wanted_bytes l more
wanted_holds l more = omega arith

-- what both ways of getting a block for a line come to
pub record Relocation (st : State) (l : Line) (size target : ℕ) (B : Block) (a : Meaning) (ys : List ℕ) : Type 0 where
  pub lawful : Lawful a
  pub fixed : Fixed st.meaning a
  pub sized : B.size ≡ size
  pub outside : Outside B.place B.size st.bytes ys
  pub moved : part target (l.len * l.kind.width) ys ≡ shown st.meaning.base l st.bytes
  pub blocks : (C : Block) → Among C a.live ↔ ((C ≡ B) ⊎ (Among C st.meaning.live × (block_of l.backing ≡ Some C → ⊥)))
  pub fresh : Among B st.meaning.live → block_of l.backing ≡ Some B

module _ (st : State) (tb : Table) (inv : Inv st tb) (s : ℕ) (l : Line) (e : look_up s st ≡ Some l) where
  base : ℕ
  base = st.meaning.base

  long_shown : length (shown st.meaning.base l st.bytes) ≡ l.len * l.kind.width
  long_shown = let t = inv.spelled s l e in ap length (sym t.2.spells) ∙ length_joined l.kind.width t.0.list t.2.even ∙ ap (λ z. z * l.kind.width) t.2.len

  -- allocate, copy, give back
  relocate_anew : (L : Request) (target : ℕ) (B : Block) (a : Meaning) (ys : List ℕ) → B.place ≤ target → target + l.len * l.kind.width ≤ B.place + L.size → TakesNew st.meaning st.bytes l L target B a ys → Relocation st l L.size target B a ys
  relocate_anew L target B a ys low high n = go (block_of l.backing) refl n.gives
    where
      x : Allocates st.meaning L B n.between
      x = n.gets

      fits : B.place + B.size ≤ length st.bytes
      fits = omega (arith, x.lawful.within B ((x.live B).1 (inl refl)), inv.long, x.fixed.extent)

      written : ys ≡ overwrite target (shown st.meaning.base l st.bytes) st.bytes
      written = n.writes

      out : Outside B.place B.size st.bytes ys
      out = subst (Outside B.place B.size st.bytes) (sym written) (outside_written B.place B.size target (shown st.meaning.base l st.bytes) st.bytes low (omega (arith, long_shown, x.size)) fits)

      moves : part target (l.len * l.kind.width) ys ≡ shown st.meaning.base l st.bytes
      moves = ap (part target (l.len * l.kind.width)) written ∙ part_written target (l.len * l.kind.width) (shown st.meaning.base l st.bytes) st.bytes long_shown (omega (arith, fits, x.size))

      go : (o : Option Block) → block_of l.backing ≡ o → GivesBack n.between o a → Relocation st l L.size target B a ys
      go None q g =
          let f : Fixed st.meaning a = subst (Fixed st.meaning) (sym g) x.fixed in
          record {
            lawful = subst Lawful (sym g) x.lawful;
            fixed = f;
            sized = x.size;
            outside = out;
            moved = moves;
            blocks = λ C. (λ y. ⊎_elim inl (λ z. inr (z, λ w. never q w)) ((x.live C).0 (subst (λ z. Among C z.live) g y)), λ y. subst (λ z. Among C z.live) (sym g) ((x.live C).1 (⊎_elim inl (λ z. inr z.0) y)));
            fresh = λ y. absurd (x.new y);
          }
      go (Some D) q g = record {
        lawful = g.lawful;
        fixed = same_fixed st.meaning n.between a x.fixed g.fixed;
        sized = x.size;
        outside = out;
        moved = moves;
        blocks = λ C. (
          λ y. let z = (g.live C).0 y in ⊎_elim inl (λ w. inr (w, λ v. z.1 (let u : C ≡ D = cc in u))) ((x.live C).0 z.0),
          λ y. (g.live C).1 ((x.live C).1 (⊎_elim inl (λ z. inr z.0) y), λ v. ⊎_elim (λ i. x.new (subst (λ z. Among z st.meaning.live) (sym v ∙ i) (inv.held s l D e q))) (λ z. z.1 (q ∙ ap {B = Option Block} Some (sym v))) y),
        );
        fresh = λ y. absurd (x.new y);
      }

  -- grow and move
  relocate_grown : (L : Request) (target : ℕ) (B : Block) (a : Meaning) (ys : List ℕ) → B.place ≤ target → target + l.len * l.kind.width ≤ B.place + L.size → (n : Grown st.meaning st.bytes l L target B a ys) → n.from.size ≤ L.size → Relocation st l L.size target B a ys
  relocate_grown L target B a ys low high n larger =
      let D = n.from in
      let x = n.grows in
      let w = l.len * l.kind.width in
      let off = l.start - (st.meaning.base + D.place) in
      let z = sits_on st.meaning.base l D n.was (inv.spelled s l e).2.sits in
      let d = inside st tb inv s l e D n.was in
      let fits : B.place + B.size ≤ length n.between = omega (arith, x.lawful.within B ((x.live B).1 (inl refl)), inv.long, x.fixed.extent, x.outside.long) in
      let long : length (part (B.place + off) w n.between) ≡ w = length_part (B.place + off) w n.between (omega (arith, z.0, z.1, x.size)) in
      let old-place : D.place + off ≡ l.start - st.meaning.base = omega (arith, z.0) in
      record {
        lawful = x.lawful;
        fixed = x.fixed;
        sized = x.size;
        outside = outside_more B.place B.size st.bytes n.between ys x.outside
            (subst (Outside B.place B.size n.between) (sym n.moves) (outside_written B.place B.size target (part (B.place + off) w n.between) n.between low (omega (arith, x.size)) fits));
        moved = ap (part target w) n.moves ∙ part_written target w (part (B.place + off) w n.between) n.between long (omega (arith, x.size))
            ∙ sym (part_part B.place D.size off w n.between (omega (arith, z.0, z.1)) (omega (arith, x.size)))
            ∙ ap (part off w) x.kept ∙ part_part D.place D.size off w st.bytes (omega (arith, z.0, z.1)) d ∙ ap (λ p. part p w st.bytes) old-place
            ∙ sym (shown_is st.meaning.base l st.bytes D n.was);
        blocks = λ C. (λ y. ⊎_elim inl (λ v. inr (v.0, λ q. v.1 (let u : C ≡ D = cc (n.was, q) in u))) ((x.live C).0 y), λ y. (x.live C).1 (⊎_elim inl (λ v. inr (v.0, λ q. v.1 (n.was ∙ ap {B = Option Block} Some (sym q)))) y));
        fresh = λ y. n.was ∙ ap {B = Option Block} Some (sym (x.new y));
      }

  -- what reserving leaves: the line with room for more, at the same serial
  pub record Ready (more : ℕ) (bs : List Block) (between : State) : Type 0 where
    pub table : Table
    pub rows : Rows tb table s (Some (upon (inv.spelled s l e).0 (last_or (inv.spelled s l e).0.block bs)))
    pub keeps : Inv between table
    pub line : Line
    pub at : look_up s between ≡ Some line
    pub mutable : line.mutable ≡ true
    pub kind : line.kind ≡ l.kind
    pub serial : line.serial ≡ s
    pub room : line.len + more ≤ line.capacity

  smaller_no : (n : ℕ) (o : Option Block) (D : Block) → o ≡ Some D → smaller n o ≡ false → D.size ≤ n
  smaller_no n None D q k = absurd (never refl q)
  smaller_no n (Some C) D q k = subst (λ z. z.size ≤ n) (let u : C ≡ D = cc in u) (ltb-false n C.size k)

  -- whichever way the block is got
  pub relocation_of : (more : ℕ) (bs : List Block) (st' : State) (h : Relocates st l more bs st') → Relocation st l (wanted_bytes l more + l.claim) (round_up (st.meaning.base + h.block.place) l.claim - st.meaning.base) h.block h.meaning h.bytes
  relocation_of more bs st' h =
      let B = h.block in
      let N = wanted_bytes l more in
      let start = round_up (st.meaning.base + B.place) l.claim in
      let low = round_up_low (st.meaning.base + B.place) l.claim in
      let high = round_up_high (st.meaning.base + B.place) l.claim (inv.spelled s l e).2.claims in
      let m : (l.len + more) * l.kind.width ≤ N = wanted_holds l more in
      ⊎_elim (λ (c : takes_new st.meaning l more ≡ true). relocate_anew (wanted_request l more) (start - st.meaning.base) B h.meaning h.bytes (omega arith) (omega arith) (h.by_new c))
      (λ (c : takes_new st.meaning l more ≡ false). let g = h.by_growth c in
      relocate_grown (wanted_request l more) (start - st.meaning.base) B h.meaning h.bytes (omega arith) (omega arith) g (smaller_no (N + l.claim) (block_of l.backing) g.from g.was (or_parts st.meaning.copies (smaller (N + l.claim) (block_of l.backing)) c).1))
      (cases_Bool (takes_new st.meaning l more))

  pub reserved : (more : ℕ) (b : Bool) (bs : List Block) (between : State) → l.mutable ≡ true → l.serial ≡ s → enough l more ≡ b → Reserves b st l more bs between → Ready more bs between
  unfolding upon put_line with_meaning with_bytes
  reserved more true bs between mut q k (i, j) =
      let t = inv.spelled s l e in
      let f = λ (r : Row). upon r (last_or r.block bs) in
      let r' : f t.0 ≡ t.0 = ap (λ z. upon t.0 (last_or t.0.block z)) i in
      record {
        table = update key_of s f tb;
        rows = rows_update tb s f t.0 (λ x. refl) t.1;
        keeps = subst (λ z. Inv z (update key_of s f tb)) (sym j) (revise st tb inv s l l (f t.0) st.lines st.bytes (update key_of s f tb) e (only_none st.next st.lines s l inv.order e) (rows_update tb s f t.0 (λ x. refl) t.1) refl refl (λ C o. refl)
            (subst (Fits st.meaning.base st.bytes l) (sym r') t.2) (own_share st tb inv s l l e refl));
        line = l;
        at = ap (look_up s) j ∙ e;
        mutable = mut;
        kind = refl;
        serial = q;
        room = omega (arith, leb-true more (l.capacity - l.len) k, t.2.within mut);
      }
  reserved more false bs between mut q k h =
      let t = inv.spelled s l e in
      let f = λ (r : Row). upon r (last_or r.block bs) in
      let B = h.block in
      let start = round_up (st.meaning.base + B.place) l.claim in
      let N = wanted_bytes l more in
      let w = l.kind.width in
      let l' = relocated l B start (N / w) in
      let r' : f t.0 ≡ upon t.0 (Some B) = ap (λ z. upon t.0 (last_or t.0.block z)) h.got in
      let low = round_up_low (st.meaning.base + B.place) l.claim in
      let high = round_up_high (st.meaning.base + B.place) l.claim t.2.claims in
      let m : (l.len + more) * w ≤ N = wanted_holds l more in
      let relocation = relocation_of more bs between h in
      let div = div_mul N w in
      let fit-in = mul_div N w (l.len + more) t.2.wide (omega arith) in
      record {
        table = update key_of s f tb;
        rows = rows_update tb s f t.0 (λ x. refl) t.1;
        keeps = subst (λ z. Inv z (update key_of s f tb)) (sym h.is)
            (relocate st tb inv s l l' (f t.0) (update serial_of l'.serial (λ _. l') st.lines) h.meaning B h.bytes (update key_of s f tb) e mut (only_put st.next st.lines s l l' inv.order e q) (rows_update tb s f t.0 (λ x. refl) t.1)
            relocation.lawful relocation.fixed relocation.outside
            (subst (Fits st.meaning.base h.bytes l') (sym r') (fits_moved st.meaning.base st.bytes h.bytes l t.0 B start (N / w) t.2 low (omega (arith, relocation.sized)) (omega (arith, relocation.sized)) (omega (arith, fit-in)) relocation.moved))
            on_it relocation.blocks relocation.fresh);
        line = l';
        at = ap (look_up s) h.is ∙ (only_put st.next st.lines s l l' inv.order e q).at;
        mutable = mut;
        kind = refl;
        serial = q;
        room = fit-in;
      }
    where
      on_it : block_of (Owned h.block) ≡ Some h.block
      on_it = Rattle.model.proofs.Keeps.on_block h.block

  -- values written behind the last
  pub append : (vs : List (List ℕ)) (r : Row) (tb' : Table) → l.mutable ≡ true → l.serial ≡ s → l.len + length vs ≤ l.capacity → Even l.kind.width vs
      → row s tb ≡ Some r → Rows tb tb' s (Some (spelling r (r.list ++ vs))) → Inv (appended st l vs) tb'
  unfolding appended put_line with_bytes spelling
  append vs r tb' mut q room even re rows = go (block_of l.backing) refl
    where
      f : Fits st.meaning.base st.bytes l r
      f = Rattle.model.proofs.Keeps.fit st tb inv s l r e re

      w : ℕ
      w = l.kind.width

      ys : List ℕ
      ys = overwrite (l.start - st.meaning.base + l.len * l.kind.width) (joined vs) st.bytes

      l' : Line
      l' = with_len l (l.len + length vs)

      go : (o : Option Block) → block_of l.backing ≡ o → Inv (appended st l vs) tb'
      go None b =
          let z = sits_off st.meaning.base l b f.sits in
          let none_written : vs ≡ [] = nil_from_length vs (omega (arith, room, z.1)) in
          let still : ys ≡ st.bytes = ap (λ v. overwrite (l.start - st.meaning.base + l.len * l.kind.width) (joined v) st.bytes) none_written ∙ overwrite_nothing (l.start - st.meaning.base + l.len * l.kind.width) st.bytes in
          let n : l.len + length vs ≡ l.len = omega (arith, room, z.1) in
          revise st tb inv s l l' (spelling r (r.list ++ vs)) (update serial_of l'.serial (λ _. l') st.lines) ys tb' e (only_put st.next st.lines s l l' inv.order e q) rows refl (ap length still) (λ C o. ap (part C.place C.size) still)
          (subst (λ x. Fits st.meaning.base x l' (spelling r (r.list ++ vs))) (sym still) (fits_like st.meaning.base st.bytes l l' r (spelling r (r.list ++ vs)) f refl refl refl n f.claims refl refl (ap (λ v. r.list ++ v) none_written ∙ append-nil r.list)
          (λ B d. absurd (never b d)) (λ d. z.1) (λ m. room)))
          (own_share st tb inv s l l' e refl)
      go (Some B) b =
          let z = sits_on st.meaning.base l B b f.sits in
          let m = mul-le-mul_right l.kind.width room in
          let g = length_joined l.kind.width vs even in
          let o : Outside B.place B.size st.bytes ys = outside_written B.place B.size (l.start - st.meaning.base + l.len * l.kind.width) (joined vs) st.bytes (omega (arith, z.0)) (omega (arith, z.0, z.2)) (inside st tb inv s l e B b) in
          revise st tb inv s l l' (spelling r (r.list ++ vs)) (update serial_of l'.serial (λ _. l') st.lines) ys tb' e (only_put st.next st.lines s l l' inv.order e q) rows refl o.long
          (undisturbed_outside st tb s st.meaning B ys inv inv.law refl (inv.held s l B e b) o (λ C x. (inv.held x.0 x.1 C x.3 x.4, λ p. mathlib.Core.Bool.true≢false (sym mut ∙ inv.alone s x.0 l x.1 C x.2 e x.3 (b ∙ ap {B = Option Block} Some (sym p)) x.4))))
          (fits_append st.meaning.base st.bytes l r vs B f b (inside st tb inv s l e B b) room even) (own_share st tb inv s l l' e refl)
