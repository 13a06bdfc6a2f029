-- Each granted call keeps the invariant of a store and its table.
use Rattle.std.proofs.Common.{◌≡◌, ℕ, ◌+◌, ◌-◌, ◌*◌, ◌/◌, ◌%◌, ◌≤◌, max, Bool, true, false, not, eqb, ltb, leb, List, [], ◌∷◌, ◌++◌, length, take, drop, replicate, Some, None, sym, refl, ap, ◌∙◌, subst, mul-le-mul_right, div-add-mod', zero-mul, arith}
use lib.ListN.{length-replicate}
use Rattle.std.proofs.lemmas.Bool.{le-leb, eqb-true, not-false, leb-false, ltb-true, ltb-false}
use Rattle.allocation.proofs.Rounding.{round_up_high, round_up_low}
use Rattle.std.specs.declared.ops.Bound.{Bound}
use Rattle.model.specs.declared.line.Handle.{Handle}
use Rattle.model.specs.declared.line.Line.{Line}
use Rattle.model.specs.Book.{State, block_of, line, look_up, serial_of, shared_by}
use Rattle.model.specs.Calls.{Aligned, AlignedMut, Append, Call, Claim, Clear, CopyFrom, EmptyShared, EnsureAligned, Freeze, FromBytes, Given, Grant, Inherited, IntoBytes, IntoMut, OfKind, Read, Release, Reserve, Set, Share, Slice, Take, Truncate, TryIntoMut, WithCapacity, Zeroed, done}
use Rattle.model.specs.Checks.{begin, checks, claimed, enough, finish, is_aligned}
use Rattle.model.specs.Effects.{Copies, Does, Made, StaysOr, add_line, appended, capacity_in, empty_line, put_line, slice_line, unbacked_line, unfrozen, with_claim, with_serial, written_in, zeros_in}
use Rattle.model.specs.Keyed.{Rising, update}
use Rattle.model.specs.Kinds.{byte, is_byte}
use Rattle.model.specs.Patterns.{Even, joined}
use Rattle.model.specs.Pedigree.{Row, Table, begins, branch, copied_to, if_any, key_of, last_or, named, range, row, spell, spelling, upon}
use Rattle.model.specs.Runs.{Sound, SoundClaim}
use Rattle.model.proofs.Alignments.{alignment_one, max_one, width_one}
use Rattle.model.proofs.Checks.{Held, Passed, and_cases_first, held, line_is, not_not}
use Rattle.model.proofs.Fitting.{fits_like, fits_new, sits_off, sits_on}
use Rattle.model.proofs.Invariant.{Fits, HasRow, Inv}
use Rattle.model.proofs.Keeps.{cut, freeze, put_value, reclaim, regroup, release, respelled, slice_none, slice_some, unbacked, unfreeze, unused}
use Rattle.model.proofs.Lines.{LinesKeep, kept_line}
use Rattle.model.proofs.Making.{copy_in, make, placed_nothing, placed_written, placed_zeros, room_fits, room_in, room_none}
use Rattle.model.proofs.Moves.{Only, Rows, only_add, only_put, rows_add, rows_none, rows_then, rows_update}
use Rattle.model.proofs.Patterns.{even_none, even_zeros}
use Rattle.model.proofs.Reserving.{Ready, append, reserved}
use Rattle.model.proofs.Shapes.{never}
use Rattle.model.proofs.Sharing.{share, taken}

upon_serial : (g : Grant) (x : Row) → (upon x (last_or x.block g.blocks)).serial ≡ x.serial
unfolding upon
upon_serial g x = refl

length_zeros : (c w : ℕ) → length (replicate {A = List ℕ} c (replicate w 0)) ≡ c
length_zeros c w = length-replicate c (replicate w 0)

abbrev DoesIntoMut : State → Handle → Grant → State → Bool → Type 0
DoesIntoMut st h g st' b =
    StaysOr b st (unfrozen st (line st h) (line st h).backing) g st'
    (Copies st (line st h) (line st h).len (line st h).claim true (capacity_in st.meaning.base (max (line st h).claim 256) (line st h).kind.width) g st')

module _ (st : State) (tb : Table) (inv : Inv st tb) (each : LinesKeep st) (st' : State) where
  row_at : (h : Handle) → Held st h → HasRow st.meaning.base st.bytes (line st h) h.serial tb
  row_at h k = inv.spelled h.serial (line st h) k.at

  -- the table's branch, at the row that is there
  branch_at : (s : ℕ) (f : Row → Row) (tb' : Table) (r : Row) → row s tb ≡ Some r → branch (row s tb) f tb' ≡ f r ∷ tb'
  branch_at s f tb' r e = ap (λ o. branch o f tb') e

  claim_one : (h : Handle) (a : Claim) → SoundClaim a → 1 ≤ claimed a (line st h)
  claim_one h (Given a) s = alignment_one s
  claim_one h Inherited s = alignment_one (kept_line st each h).alignment
  claim_one h OfKind s = alignment_one (kept_line st each h).kind.align

  keep_slice : (h : Handle) (b e : Bound ℕ) (a : Claim) (g : Grant) → Held st h → h.mutable ≡ false → 1 ≤ claimed a (line st h) → begin b ≤ finish e (line st h).len → finish e (line st h).len ≤ (line st h).len → Does st (Slice h b e a) g st' → Inv st' (spell tb (Slice h b e a) g)
  keep_slice h b e a g k mut one le ge (p, q) =
      subst (λ z. Inv z (spell tb (Slice h b e a) g)) (sym q)
      (subst (λ z. Inv (add_line st (slice_line (ltb (begin b) (finish e l.len)) st l (begin b) (finish e l.len - begin b) (claimed a (line st h)))) z) (sym table) (go (ltb (begin b) (finish e l.len)) refl))
    where
      l : Line
      l = line st h

      t : HasRow st.meaning.base st.bytes l h.serial tb
      t = row_at h k

      r : Row
      r = t.0

      n : ℕ
      n = finish e l.len - begin b

      new : Row
      new = upon (spelling (named r st.next) (take n (drop (begin b) r.list))) (if_any (take n (drop (begin b) r.list)) r.block)

      table : spell tb (Slice h b e a) g ≡ new ∷ tb
      table =
          branch_at h.serial (λ r. upon (spelling (named r g.serial) (range r b e)) (if_any (range r b e) r.block)) tb r t.1
          ∙ (λ i. upon (spelling (named r (p i).serial) (take (finish e (t.2.len i) - begin b) (drop (begin b) r.list))) (if_any (take (finish e (t.2.len i) - begin b) (drop (begin b) r.list)) r.block) ∷ tb)

      go : (c : Bool) → ltb (begin b) (finish e l.len) ≡ c → Inv (add_line st (slice_line c st l (begin b) n (claimed a (line st h)))) (new ∷ tb)
      go true x = slice_some st tb inv h.serial (begin b) n (claimed a (line st h)) l r k.at (k.state ∙ mut) t.1 (omega arith) one (omega (arith, ltb-true (begin b) (finish e l.len) x))
      go false x = slice_none st tb inv h.serial (begin b) n (claimed a (line st h)) l r k.at (k.state ∙ mut) t.1 one (omega (arith, ltb-false (begin b) (finish e l.len) x))

  keep_reserve : (h : Handle) (n : ℕ) (g : Grant) → Held st h → h.mutable ≡ true → Does st (Reserve h n) g st' → Inv st' (spell tb (Reserve h n) g)
  unfolding row_at
  keep_reserve h n g k mut (bs, res, p) =
      let t = row_at h k in
      let d = reserved st tb inv h.serial (line st h) k.at n (enough (line st h) n) bs st' (k.state ∙ mut) k.serial refl res in
      let f = λ (r : Row). upon r (last_or r.block g.blocks) in
      let r₁ = upon t.0 (last_or t.0.block bs) in
      let final : Rows tb (update key_of h.serial f tb) h.serial (Some r₁) =
      subst (λ z. Rows tb (update key_of h.serial f tb) h.serial (Some z)) (ap (λ z. upon t.0 (last_or t.0.block z.blocks)) p) (rows_update tb h.serial f t.0 (upon_serial g) t.1) in
      respelled d.table (update key_of h.serial f tb) d.keeps h.serial d.line d.at r₁ d.rows.at (rows_then tb d.table (update key_of h.serial f tb) h.serial (Some r₁) (Some r₁) d.rows final)

  keep_append : (h : Handle) (vs : List (List ℕ)) (g : Grant) → Held st h → h.mutable ≡ true → Even h.kind.width vs → Does st (Append h vs) g st' → Inv st' (spell tb (Append h vs) g)
  unfolding upon spelling row_at
  keep_append h vs g k mut wide (between, bs, res, p, q) =
      subst (λ z. Inv z (spell tb (Append h vs) g)) (sym q) (subst (λ z. Inv (appended between z vs) (spell tb (Append h vs) g)) (line_is between h d.line d.at)
      (append between d.table d.keeps h.serial d.line d.at vs r₁ (spell tb (Append h vs) g) d.mutable d.serial d.room
      (subst (λ z. Even z.width vs) (sym (d.kind ∙ k.kind)) wide) d.rows.at
      (rows_then tb d.table (spell tb (Append h vs) g) h.serial (Some r₁) (Some (spelling r₁ (r₁.list ++ vs))) d.rows final)))
    where
      t : HasRow st.meaning.base st.bytes (line st h) h.serial tb
      t = row_at h k

      d : Ready st tb inv h.serial (line st h) k.at (length vs) bs between
      d = reserved st tb inv h.serial (line st h) k.at (length vs) (enough (line st h) (length vs)) bs between (k.state ∙ mut) k.serial refl res

      r₁ : Row
      r₁ = upon t.0 (last_or t.0.block bs)

      fed : Row → Row
      fed = λ r. upon (spelling r (r.list ++ vs)) (last_or r.block g.blocks)

      final : Rows tb (spell tb (Append h vs) g) h.serial (Some (spelling r₁ (r₁.list ++ vs)))
      final = subst (λ z. Rows tb (spell tb (Append h vs) g) h.serial (Some z)) (ap (λ z. upon (spelling t.0 (t.0.list ++ vs)) (last_or t.0.block z.blocks)) p) (rows_update tb h.serial fed t.0 (λ x. refl) t.1)

  -- a call that copied nothing leaves the row
  uncopied : (s : ℕ) (g : Grant) (r : Row) → row s tb ≡ Some r → g ≡ done → Rows tb (update key_of s (copied_to g) tb) s (Some r)
  unfolding upon
  uncopied s g r e p = subst (λ z. Rows tb (update key_of s (copied_to g) tb) s (Some z)) (ap (λ z. copied_to z r) p) (rows_update tb s (copied_to g) r (λ x. refl) e)

  keep_aligned_mut : (h : Handle) (a : ℕ) (g : Grant) (b : Bool) → Held st h → h.mutable ≡ true → 1 ≤ a
      → StaysOr b st (with_claim (line st h) a) g st' (Copies st (line st h) (line st h).capacity a true (λ got. (line st h).capacity) g st') → Inv st' (update key_of h.serial (copied_to g) tb)
  keep_aligned_mut h a g true k mut one (p, q) =
      let t = row_at h k in
      subst (λ z. Inv z (update key_of h.serial (copied_to g) tb)) (sym q) (reclaim st tb inv h.serial a (line st h) t.0 (update key_of h.serial (copied_to g) tb) k.at k.serial one t.1 (uncopied h.serial g t.0 t.1 p))
  keep_aligned_mut h a g false k mut one d =
      let t = row_at h k in
      let l = line st h in
      copy_in st tb inv h.serial l l.capacity a true (λ got. l.capacity) g st' k.at k.serial one (t.2.within (k.state ∙ mut))
      (λ got B sized e. omega (arith, sized B e, round_up_low (st.meaning.base + B.place) (max a 256), round_up_high (st.meaning.base + B.place) (max a 256) (omega arith))) (λ got e c. c) (λ got sized bare m. t.2.within (k.state ∙ mut)) d

  keep_aligned : (h : Handle) (a : ℕ) (g : Grant) (b : Bool) → Held st h → 1 ≤ a
      → StaysOr b st (with_claim (line st h) a) g st' (Copies st (line st h) (line st h).len a false (λ got. 0) g st') → Inv st' (update key_of h.serial (copied_to g) tb)
  keep_aligned h a g true k one (p, q) =
      let t = row_at h k in
      subst (λ z. Inv z (update key_of h.serial (copied_to g) tb)) (sym q) (reclaim st tb inv h.serial a (line st h) t.0 (update key_of h.serial (copied_to g) tb) k.at k.serial one t.1 (uncopied h.serial g t.0 t.1 p))
  keep_aligned h a g false k one d =
      copy_in st tb inv h.serial (line st h) (line st h).len a false (λ got. 0) g st' k.at k.serial one (omega arith)
      (λ got B sized e. omega arith) (λ got e c. refl) (λ got sized bare m. absurd (mathlib.Core.Bool.false≢true m)) d

  keep_into_mut : (h : Handle) (g : Grant) (b : Bool) → Held st h → shared_by st (line st h) ≡ b → DoesIntoMut st h g st' (not b) → Inv st' (update key_of h.serial (copied_to g) tb)
  unfolding row_at
  keep_into_mut h g false k s (p, q) =
      let t = row_at h k in
      subst (λ z. Inv z (update key_of h.serial (copied_to g) tb)) (sym q) (unfreeze st tb inv h.serial (line st h) (line st h).backing (update key_of h.serial (copied_to g) tb) k.at k.serial s refl (uncopied h.serial g t.0 t.1 p))
  keep_into_mut h g true k s d =
      let l = line st h in
      let f = (row_at h k).2 in
      let m = max l.claim 256 in
      copy_in st tb inv h.serial l l.len l.claim true (capacity_in st.meaning.base m l.kind.width) g st' k.at k.serial f.claims (omega arith)
      (λ got B sized e. room_fits st.meaning.base m l.kind.width got B e) (λ got e c. room_none st.meaning.base m l.kind.width got e)
      (λ got sized bare x. room_in st.meaning.base m l.kind.width l.len l.len got (omega arith) f.wide (omega arith) sized bare) d

  keep_take : (h : Handle) (g : Grant) → Held st h → Does st (Take h) g st' → Inv st' (spell tb (Take h) g)
  unfolding put_line add_line row key_of upon spelling named block_of Rising
  keep_take h g k (p, q) =
      subst (λ z. Inv z (spell tb (Take h) g)) (sym q) (subst (λ z. Inv (add_line (put_line st l₀) l') z) (sym table)
      (taken st (add_line (put_line st l₀) l') tb (r' ∷ tb₀) inv h.serial st.next l l' l₀ r' r₀ refl refl added.order k.at (unused st tb inv) refl refl refl
      added.at (added.same h.serial apart ∙ put.at) (λ t x y. added.same t x ∙ put.same t y)
      (rows_add tb₀ r' st.next refl).at ((rows_add tb₀ r' st.next refl).same h.serial apart ∙ updated.at) (λ t x y. (rows_add tb₀ r' st.next refl).same t x ∙ updated.same t y)
      (fits_like st.meaning.base st.bytes l l' r r' f refl refl refl refl f.claims refl refl refl (λ B b. (sits_on st.meaning.base l B b f.sits).2) (λ b. (sits_off st.meaning.base l b f.sits).1) f.within)
      (fits_new st.meaning.base st.bytes l₀ r₀ refl refl f.kind refl f.wide f.claims (refl, refl))))
    where
      l : Line
      l = line st h

      t : HasRow st.meaning.base st.bytes l h.serial tb
      t = row_at h k

      r : Row
      r = t.0

      f : Fits st.meaning.base st.bytes l r
      f = t.2

      l₀ : Line
      l₀ = empty_line h.serial l.kind l.claim

      l' : Line
      l' = with_serial l st.next

      r₀ : Row
      r₀ = upon (spelling r []) None

      r' : Row
      r' = named r st.next

      tb₀ : Table
      tb₀ = update key_of h.serial (λ r. upon (spelling r []) None) tb

      table : spell tb (Take h) g ≡ r' ∷ tb₀
      table = branch_at h.serial (λ r. named r g.serial) tb₀ r t.1 ∙ ap (λ z. named r z.serial ∷ tb₀) p

      put : Only st.next st.lines (update serial_of h.serial (λ _. l₀) st.lines) h.serial (Some l₀)
      put = only_put st.next st.lines h.serial l l₀ inv.order k.at refl

      added : Only (st.next + 1) (update serial_of h.serial (λ _. l₀) st.lines) (update serial_of h.serial (λ _. l₀) st.lines ++ (l' ∷ [])) st.next (Some l')
      added = only_add st.next (update serial_of h.serial (λ _. l₀) st.lines) l' put.order refl

      updated : Rows tb tb₀ h.serial (Some r₀)
      updated = rows_update tb h.serial (λ r. upon (spelling r []) None) r (λ x. refl) t.1

      apart : h.serial ≡ st.next → ⊥
      apart z = never (unused st tb inv) (ap (λ n. look_up n st) (sym z) ∙ k.at)

  keep_share : (h : Handle) (g : Grant) → Held st h → h.mutable ≡ false → Does st (Share h) g st' → Inv st' (spell tb (Share h) g)
  keep_share h g k mut (p, q) =
      let t = row_at h k in
      subst (λ z. Inv z (spell tb (Share h) g)) (sym q)
      (subst (Inv _) (sym (branch_at h.serial (λ r. named r g.serial) tb t.0 t.1 ∙ ap (λ z. named t.0 z.serial ∷ tb) p))
      (share st tb inv h.serial (line st h) t.0 k.at k.serial (k.state ∙ mut) t.1))

  pub keeps : (extent : ℕ) (c : Call) (g : Grant) → Sound c → Passed (checks st extent c) → Does st c g st' → Inv st' (spell tb c g)
  keeps extent (WithCapacity k c a p) g s ps d =
      make st tb inv k true c a (max a p) [] (λ got. st.bytes) g st' (width_one s.0.width) (alignment_one s.1) (max_one a p (alignment_one s.1)) (even_none k.width) (omega arith)
      (λ got x y z. placed_nothing st.meaning.base (max a p) k.width c (max_one a p (alignment_one s.1)) st.bytes got) d
  keeps extent (Zeroed k mutable n a p) g s ps d =
      make st tb inv k mutable n a (max a p) (replicate n (replicate k.width 0)) (λ got. zeros_in got st.bytes) g st' (width_one s.0.width) (alignment_one s.1) (max_one a p (alignment_one s.1)) (even_zeros n k.width) (omega (arith, length_zeros n k.width))
      (λ got x y z. placed_zeros st.meaning.base (max a p) k.width n (max_one a p (alignment_one s.1)) st.bytes got x y z)
      (subst (λ m. Made st k mutable n a (max a p) m (λ got. zeros_in got st.bytes) g st') (sym (length_zeros n k.width)) d)
  keeps extent (CopyFrom k mutable vs a p) g s ps d =
      make st tb inv k mutable (length vs) a (max a p) vs (λ got. written_in st.meaning.base (max a p) got (joined vs) st.bytes) g st' (width_one s.0.width) (alignment_one s.1) (max_one a p (alignment_one s.1)) s.3 (omega arith)
      (λ got x y z. placed_written st.meaning.base (max a p) k.width (length vs) (max_one a p (alignment_one s.1)) st.bytes vs got s.3 (omega arith) x y z) d
  keeps extent (EmptyShared k a) g s ps (p, q) =
      subst (λ z. Inv z (begins g k [] ∷ tb)) (sym q) (subst (λ z. Inv (add_line st (unbacked_line st.next k a)) (begins z k [] ∷ tb)) (sym p) (unbacked st tb inv k a (width_one s.0.width) (alignment_one s.1)))
  keeps extent (Reserve h n) g s ps d = keep_reserve h n g (held st h ps.1.1.0) (not-false h.mutable ps.1.0) d
  keeps extent (Append h vs) g s ps d = keep_append h vs g (held st h ps.1.1.0) (not-false h.mutable ps.1.0) s d
  keeps extent (Truncate h n) g s ps (p, q) =
      let k = held st h ps.1.1.0 in
      subst (λ z. Inv z (spell tb (Truncate h n) g)) (sym q) (cut st tb inv h.serial n (line st h) (leb n (line st h).len) k.at k.serial refl)
  keeps extent (Clear h) g s ps (p, q) =
      let k = held st h ps.1.1.0 in
      subst (λ z. Inv z (spell tb (Clear h) g)) (sym q) (cut st tb inv h.serial 0 (line st h) true k.at k.serial (le-leb 0 (line st h).len (omega arith)))
  keeps extent (Set h i v) g s ps (p, q) =
      let k = held st h ps.1.1.0 in
      subst (λ z. Inv z (spell tb (Set h i v) g)) (sym q)
      (put_value st tb inv h.serial i v (line st h) k.at (k.state ∙ not-false h.mutable ps.1.0) (s ∙ ap (λ z. z.width) (sym k.kind)) (leb-false (line st h).len i ps.1.1.1.1.0))
  keeps extent (Take h) g s ps d = keep_take h g (held st h ps.1.1.0) d
  keeps extent (AlignedMut h a) g s ps d = keep_aligned_mut h a g (is_aligned (line st h) a) (held st h ps.1.1.0) (not-false h.mutable ps.1.0) (alignment_one s) d
  keeps extent (IntoBytes h) g s ps (p, q) =
      let k = held st h ps.1.1.0 in
      let l = line st h in
      let f = (row_at h k).2 in
      subst (λ z. Inv z (spell tb (IntoBytes h) g)) (sym q)
      (regroup st tb inv h.serial l byte (l.len * l.kind.width) (l.capacity * l.kind.width) l.claim k.at k.serial (omega arith) f.claims (omega arith) (omega arith)
      (λ e. ap (λ z. z * l.kind.width) e ∙ zero-mul l.kind.width) (λ m. mul-le-mul_right l.kind.width (f.within m)))
  keeps extent (FromBytes h b a) g s ps (p, q) =
      let k = held st h ps.1.1.0 in
      let l = line st h in
      let whole = eqb-true ((l.len * l.kind.width) % b.width) 0 (not-false (eqb ((l.len * l.kind.width) % b.width) 0) ps.1.1.1.1.1.1.0) in
      subst (λ z. Inv z (spell tb (FromBytes h b a) g)) (sym q)
      (regroup st tb inv h.serial l b ((l.len * l.kind.width) / b.width) 0 a k.at k.serial (width_one s.0.width) (alignment_one s.1) (omega (arith, div-add-mod' (l.len * l.kind.width) b.width)) (omega arith)
      (λ e. refl) (λ m. absurd (mathlib.Core.Bool.true≢false (sym m ∙ k.state ∙ not_not h.mutable (and_cases_first (not h.mutable) (is_byte h.kind) ps.1.0)))))
  keeps extent (Freeze h) g s ps (p, q) =
      let k = held st h ps.1.1.0 in subst (λ z. Inv z tb) (sym q) (freeze st tb inv h.serial (line st h) k.at k.serial)
  keeps extent (Share h) g s ps d = keep_share h g (held st h ps.1.1.0) (not_not h.mutable ps.1.0) d
  keeps extent (Slice h b e a) g s ps d =
      keep_slice h b e a g (held st h ps.1.1.0) (not_not h.mutable ps.1.0) (claim_one h a s) (ltb-false (finish e (line st h).len) (begin b) ps.1.1.1.1.1.1.0) (ltb-false (line st h).len (finish e (line st h).len) ps.1.1.1.1.1.1.1.0) d
  keeps extent (TryIntoMut h) g s ps (p, q) =
      let k = held st h ps.1.1.0 in
      let t = inv.spelled h.serial (line st h) k.at in
      subst (λ z. Inv z tb) (sym q) (unfreeze st tb inv h.serial (line st h) (line st h).backing tb k.at k.serial ps.1.1.1.1.0 refl (rows_none tb h.serial t.0 t.1))
  keeps extent (IntoMut h) g s ps d = keep_into_mut h g (shared_by st (line st h)) (held st h ps.1.1.0) refl d
  keeps extent (Aligned h a) g s ps d = keep_aligned h a g (is_aligned (line st h) a) (held st h ps.1.1.0) (alignment_one s) d
  keeps extent (EnsureAligned h a) g s ps (p, q) =
      let k = held st h ps.1.1.0 in
      let t = row_at h k in
      subst (λ z. Inv z tb) (sym q) (reclaim st tb inv h.serial a (line st h) t.0 tb k.at k.serial (alignment_one s) t.1 (rows_none tb h.serial t.0 t.1))
  keeps extent (Read h) g s ps (p, q) = subst (λ z. Inv z tb) (sym q) inv
  keeps extent (Release h) g s ps (al, w, p, q) =
      let k = held st h ps.1.1.0 in
      subst (λ z. Inv z (spell tb (Release h) g)) (sym q) (release st tb inv h.serial (line st h) al k.at k.serial w)
