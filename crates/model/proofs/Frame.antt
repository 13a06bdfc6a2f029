-- A granted call changes no line and no row but those of its handle and of the new one.
use Rattle.std.proofs.Common.{◌≡◌, ℕ, ◌+◌, ◌-◌, ◌/◌, max, Bool, true, false, not, ltb, leb, ◌⊎◌, List, ◌∷◌, length, Some, None, Option, sym, refl, ap, ◌∙◌, subst, inl, inr, ⊎_elim, arith}
use Rattle.allocation.specs.declared.block.Block.{Block}
use Rattle.allocation.specs.Alignments.{round_up}
use Rattle.allocation.specs.Meaning.{Meaning}
use Rattle.model.specs.declared.line.Backing.{Backing}
use Rattle.model.specs.declared.line.Backing.TheVariants.{Empty, Owned, Unbacked}
use Rattle.model.specs.declared.line.Handle.{Handle}
use Rattle.model.specs.declared.line.Kind.{Kind}
use Rattle.model.specs.declared.line.Line.{Line}
use Rattle.model.specs.Answers.{Answers}
use Rattle.model.specs.Book.{State, known, line, look_up, serial_of, shared_by, shown}
use Rattle.model.specs.Calls.{Aligned, AlignedMut, Answer, Append, Call, Clear, CopyFrom, EmptyShared, EnsureAligned, Freeze, FromBytes, Grant, IntoBytes, IntoMut, Read, Release, Reserve, Set, Share, Slice, Take, Truncate, TryIntoMut, WithCapacity, Zeroed, granted, refused}
use Rattle.model.specs.Checks.{begin, brings, checks, claimed, enough, finish, is_aligned, wanted_bytes}
use Rattle.model.specs.Effects.{Copies, Does, Made, Reserves, StaysOr, add_line, appended, capacity_in, copied_into, end_line, made, made_as, put_line, relocated, shortened, slice_line, unfrozen, with_bytes, with_claim, with_len, with_meaning}
use Rattle.model.specs.Invariant.{KeptLine}
use Rattle.model.specs.Keyed.{All, find, update, without}
use Rattle.model.specs.Pedigree.{Row, Table, as_kind, branch, key_of, named, row, spell, spelling, upon}
use Rattle.model.specs.Runs.{Sound}
use Rattle.model.proofs.Checks.{Passed, held, line_is, passed}
use Rattle.model.proofs.Invariant.{Fits, Inv}
use Rattle.model.proofs.Keyed.{all_find, find_cons_other, find_key, find_snoc_other, find_update, find_update_other, find_without_other, rising_above}
use Rattle.model.proofs.Lines.{LinesKeep}
use Rattle.model.proofs.Runs.{answered}
use Rattle.model.proofs.Shapes.{never, pin}

-- rows
row_update : (tb : Table) (s t : ℕ) (f : Row → Row) → ((x : Row) → (f x).serial ≡ x.serial) → (t ≡ s → ⊥) → row t (update key_of s f tb) ≡ row t tb
unfolding row key_of
row_update tb s t f k d = find_update_other key_of s t f tb d (λ x q. k x ∙ q)

row_cons : (tb : Table) (r : Row) (t : ℕ) → (t ≡ r.serial → ⊥) → row t (r ∷ tb) ≡ row t tb
unfolding row key_of
row_cons tb r t d = find_cons_other key_of t r tb d

row_without : (tb : Table) (s t : ℕ) → (t ≡ s → ⊥) → row t (without key_of s tb) ≡ row t tb
unfolding row
row_without tb s t d = find_without_other key_of s t tb d

row_branch : (o : Option Row) (f : Row → Row) (tb : Table) (t n : ℕ) → ((x : Row) → (f x).serial ≡ n) → (t ≡ n → ⊥) → row t (branch o f tb) ≡ row t tb
row_branch None f tb t n k d = refl
row_branch (Some r) f tb t n k d = row_cons tb (f r) t (λ q. d (q ∙ k r))

module _ (tb : Table) (t : ℕ) (g : Grant) (new : t ≡ g.serial → ⊥) where
  pub spell_other : (c : Call) → All (λ h. h.serial ≡ t → ⊥) (brings c).handles → row t (spell tb c g) ≡ row t tb
  unfolding upon spelling named as_kind
  spell_other (WithCapacity k c a p) u = row_cons tb _ t new
  spell_other (Zeroed k mutable n a p) u = row_cons tb _ t new
  spell_other (CopyFrom k mutable vs a p) u = row_cons tb _ t new
  spell_other (EmptyShared k a) u = row_cons tb _ t new
  spell_other (Reserve h n) u = row_update tb h.serial t _ (λ x. refl) (λ q. u.0 (sym q))
  spell_other (Append h vs) u = row_update tb h.serial t _ (λ x. refl) (λ q. u.0 (sym q))
  spell_other (Truncate h n) u = row_update tb h.serial t _ (λ x. refl) (λ q. u.0 (sym q))
  spell_other (Clear h) u = row_update tb h.serial t _ (λ x. refl) (λ q. u.0 (sym q))
  spell_other (Set h i v) u = row_update tb h.serial t _ (λ x. refl) (λ q. u.0 (sym q))
  spell_other (Take h) u = row_branch (row h.serial tb) _ _ t g.serial (λ x. refl) new ∙ row_update tb h.serial t _ (λ x. refl) (λ q. u.0 (sym q))
  spell_other (AlignedMut h a) u = row_update tb h.serial t _ (λ x. refl) (λ q. u.0 (sym q))
  spell_other (Freeze h) u = refl
  spell_other (IntoBytes h) u = row_update tb h.serial t _ (λ x. refl) (λ q. u.0 (sym q))
  spell_other (FromBytes h k a) u = row_update tb h.serial t _ (λ x. refl) (λ q. u.0 (sym q))
  spell_other (Share h) u = row_branch (row h.serial tb) _ tb t g.serial (λ x. refl) new
  spell_other (Slice h first last a) u = row_branch (row h.serial tb) _ tb t g.serial (λ x. refl) new
  spell_other (TryIntoMut h) u = refl
  spell_other (IntoMut h) u = row_update tb h.serial t _ (λ x. refl) (λ q. u.0 (sym q))
  spell_other (Aligned h a) u = row_update tb h.serial t _ (λ x. refl) (λ q. u.0 (sym q))
  spell_other (EnsureAligned h a) u = refl
  spell_other (Read h) u = refl
  spell_other (Release h) u = row_without tb h.serial t (λ q. u.0 (sym q))

-- lines
module _ (st : State) (t : ℕ) (new : t ≡ st.next → ⊥) where
  put_other : (st₁ : State) (l : Line) → (t ≡ l.serial → ⊥) → look_up t (put_line st₁ l) ≡ look_up t st₁
  unfolding put_line
  put_other st₁ l d = find_update_other serial_of l.serial t (λ _. l) st₁.lines d (λ x q. refl)

  add_other : (st₁ : State) (l : Line) → (t ≡ l.serial → ⊥) → look_up t (add_line st₁ l) ≡ look_up t st₁
  unfolding add_line
  add_other st₁ l d = find_snoc_other serial_of t l st₁.lines d

  end_other : (m : Meaning) (s : ℕ) → (t ≡ s → ⊥) → look_up t (end_line (with_meaning st m) s) ≡ look_up t st
  unfolding end_line with_meaning
  end_other m s d = find_without_other serial_of s t st.lines d

  bytes_other : (m : Meaning) (xs : List ℕ) → look_up t (with_bytes (with_meaning st m) xs) ≡ look_up t st
  unfolding with_bytes with_meaning
  bytes_other m xs = refl

  set_other : (xs : List ℕ) → look_up t (with_bytes st xs) ≡ look_up t st
  unfolding with_bytes
  set_other xs = refl

  appended_other : (st₁ : State) (l : Line) (vs : List (List ℕ)) → (t ≡ l.serial → ⊥) → look_up t (appended st₁ l vs) ≡ look_up t st₁
  unfolding appended with_bytes
  appended_other st₁ l vs d = put_other (with_bytes st₁ _) (with_len l (l.len + length vs)) d

  made_other : (k : Kind) (mutable : Bool) (c claim m n : ℕ) (writes : Option Block → List ℕ) (g : Grant) (st' : State) → Made st k mutable c claim m n writes g st' → look_up t st' ≡ look_up t st
  made_other k mutable c claim m n writes g st' d = ap (look_up t) d.is ∙ add_other (with_bytes (with_meaning st d.meaning) (writes d.got)) (made_as mutable (made st k claim m n d.got)) new ∙ bytes_other d.meaning (writes d.got)

  copies_other : (l : Line) (c claim : ℕ) (mutable : Bool) (capacity : Option Block → ℕ) (g : Grant) (st' : State) → (t ≡ l.serial → ⊥) → Copies st l c claim mutable capacity g st' → look_up t st' ≡ look_up t st
  unfolding copied_into
  copies_other l c claim mutable capacity g st' u d = ap (look_up t) d.is ∙ put_other (with_bytes (with_meaning st d.meaning) _) (copied_into st.meaning.base l mutable claim (max claim 256) (capacity d.got) d.got) u ∙ bytes_other d.meaning _

  stays_other : (b : Bool) (l : Line) (g : Grant) (st' : State) (Else : Type 0) → (t ≡ l.serial → ⊥) → (Else → look_up t st' ≡ look_up t st) → StaysOr b st l g st' Else → look_up t st' ≡ look_up t st
  stays_other true l g st' Else u f (p, q) = ap (look_up t) q ∙ put_other st l u
  stays_other false l g st' Else u f d = f d

  reserves_other : (b : Bool) (l : Line) (more : ℕ) (bs : List Block) (st' : State) → (t ≡ l.serial → ⊥) → Reserves b st l more bs st' → look_up t st' ≡ look_up t st
  reserves_other true l more bs st' u (p, q) = ap (look_up t) q
  reserves_other false l more bs st' u d = ap (look_up t) d.is ∙ put_other (with_bytes (with_meaning st d.meaning) d.bytes) (relocated l d.block _ _) u ∙ bytes_other d.meaning d.bytes

  -- reserving leaves a line at the serial
  reserves_at : (b : Bool) (s : ℕ) (l : Line) (more : ℕ) (bs : List Block) (st' : State) → look_up s st ≡ Some l → l.serial ≡ s → Reserves b st l more bs st' → (l' : Line) × (look_up s st' ≡ Some l') × (l'.serial ≡ s)
  unfolding put_line with_bytes with_meaning
  reserves_at true s l more bs st' e k (p, q) = (l, ap (look_up s) q ∙ e, k)
  reserves_at false s l more bs st' e k d =
      let l' = relocated l d.block (round_up (st.meaning.base + d.block.place) l.claim) (wanted_bytes l more / l.kind.width) in
      (l', ap (look_up s) d.is ∙ subst (λ z. find serial_of s (update serial_of z (λ _. l') st.lines) ≡ Some l') (sym k) (find_update serial_of s (λ _. l') st.lines l k e), k)

  apart : (h : Handle) → not (known st h) ≡ false → (h.serial ≡ t → ⊥) → t ≡ (line st h).serial → ⊥
  apart h k d e = d (sym (e ∙ (held st h k).serial))

  shortened_other : (b : Bool) (len : ℕ) (h : Handle) → not (known st h) ≡ false → (h.serial ≡ t → ⊥) → look_up t (put_line st (shortened b len (line st h))) ≡ look_up t st
  shortened_other true len h k d = put_other st _ (apart h k d)
  shortened_other false len h k d = put_other st _ (apart h k d)

  sliced_other : (b : Bool) (l : Line) (first len a : ℕ) → look_up t (add_line st (slice_line b st l first len a)) ≡ look_up t st
  sliced_other true l first len a = add_other st _ new
  sliced_other false l first len a = add_other st _ new

  unfrozen_serial : (b : Backing) (l : Line) → (unfrozen st l b).serial ≡ l.serial
  unfrozen_serial Unbacked l = refl
  unfrozen_serial (Empty n) l = refl
  unfrozen_serial (Owned c) l = refl

  unfrozen_other : (b : Backing) (h : Handle) → not (known st h) ≡ false → (h.serial ≡ t → ⊥) → look_up t (put_line st (unfrozen st (line st h) b)) ≡ look_up t st
  unfrozen_other b h k d = put_other st _ (λ e. apart h k d (e ∙ unfrozen_serial b (line st h)))

  into_other : (s : Bool) (b : Backing) (h : Handle) (g : Grant) (st' : State) → not (known st h) ≡ false → (h.serial ≡ t → ⊥)
      → StaysOr s st (unfrozen st (line st h) b) g st' (Copies st (line st h) (line st h).len (line st h).claim true (capacity_in st.meaning.base (max (line st h).claim 256) (line st h).kind.width) g st') → look_up t st' ≡ look_up t st
  into_other s b h g st' k d = stays_other s (unfrozen st (line st h) b) g st' _ (λ e. apart h k d (e ∙ unfrozen_serial b (line st h))) (copies_other (line st h) (line st h).len (line st h).claim true _ g st' (apart h k d))

  pub does_other : (n : ℕ) (c : Call) (g : Grant) (st' : State) → Passed (checks st n c) → All (λ h. h.serial ≡ t → ⊥) (brings c).handles → Does st c g st' → look_up t st' ≡ look_up t st
  does_other n (WithCapacity k c a p) g st' ps u d = made_other k true c a (max a p) 0 _ g st' d
  does_other n (Zeroed k mutable c a p) g st' ps u d = made_other k mutable c a (max a p) c _ g st' d
  does_other n (CopyFrom k mutable vs a p) g st' ps u d = made_other k mutable (length vs) a (max a p) (length vs) _ g st' d
  does_other n (EmptyShared k a) g st' ps u (p, q) = ap (look_up t) q ∙ add_other st _ new
  does_other n (Reserve h more) g st' ps u (bs, res, p) = reserves_other (enough (line st h) more) (line st h) more bs st' (apart h ps.1.1.0 u.0) res
  does_other n (Append h vs) g st' ps u (between, bs, res, p, q) =
      let k = held st h ps.1.1.0 in
      let f = reserves_at (enough (line st h) (length vs)) h.serial (line st h) (length vs) bs between k.at k.serial res in
      let s : (line between h).serial ≡ h.serial = ap (λ l. l.serial) (sym (line_is between h f.0 f.1)) ∙ f.2 in
      ap (look_up t) q ∙ appended_other between (line between h) vs (λ e. u.0 (sym (e ∙ s))) ∙ reserves_other (enough (line st h) (length vs)) (line st h) (length vs) bs between (apart h ps.1.1.0 u.0) res
  does_other n (Truncate h len) g st' ps u (p, q) = ap (look_up t) q ∙ shortened_other (leb len (line st h).len) len h ps.1.1.0 u.0
  does_other n (Clear h) g st' ps u (p, q) = ap (look_up t) q ∙ put_other st _ (apart h ps.1.1.0 u.0)
  does_other n (Set h i v) g st' ps u (p, q) = ap (look_up t) q ∙ set_other _
  does_other n (Take h) g st' ps u (p, q) = ap (look_up t) q ∙ add_other (put_line st _) _ new ∙ put_other st _ (λ e. u.0 (sym e))
  does_other n (AlignedMut h a) g st' ps u d = stays_other (is_aligned (line st h) a) (with_claim (line st h) a) g st' _ (apart h ps.1.1.0 u.0) (copies_other (line st h) (line st h).capacity a true _ g st' (apart h ps.1.1.0 u.0)) d
  does_other n (Freeze h) g st' ps u (p, q) = ap (look_up t) q ∙ put_other st _ (apart h ps.1.1.0 u.0)
  does_other n (IntoBytes h) g st' ps u (p, q) = ap (look_up t) q ∙ put_other st _ (apart h ps.1.1.0 u.0)
  does_other n (FromBytes h k a) g st' ps u (p, q) = ap (look_up t) q ∙ put_other st _ (apart h ps.1.1.0 u.0)
  does_other n (Share h) g st' ps u (p, q) = ap (look_up t) q ∙ add_other (put_line st _) _ new ∙ put_other st _ (apart h ps.1.1.0 u.0)
  does_other n (Slice h first last a) g st' ps u (p, q) = ap (look_up t) q ∙ sliced_other (ltb (begin first) (finish last (line st h).len)) (line st h) (begin first) (finish last (line st h).len - begin first) (claimed a (line st h))
  does_other n (TryIntoMut h) g st' ps u (p, q) = ap (look_up t) q ∙ unfrozen_other (line st h).backing h ps.1.1.0 u.0
  does_other n (IntoMut h) g st' ps u d = into_other (not (shared_by st (line st h))) (line st h).backing h g st' ps.1.1.0 u.0 d
  does_other n (Aligned h a) g st' ps u d = stays_other (is_aligned (line st h) a) (with_claim (line st h) a) g st' _ (apart h ps.1.1.0 u.0) (copies_other (line st h) (line st h).len a false _ g st' (apart h ps.1.1.0 u.0)) d
  does_other n (EnsureAligned h a) g st' ps u (p, q) = ap (look_up t) q ∙ put_other st _ (apart h ps.1.1.0 u.0)
  does_other n (Read h) g st' ps u (p, q) = ap (look_up t) q
  does_other n (Release h) g st' ps u (m, w, p, q) = ap (look_up t) q ∙ end_other m h.serial (λ e. u.0 (sym e))

-- the serial of a grant is the next one, or none
module _ (st : State) where
  made_serial : (k : Kind) (mutable : Bool) (c claim m n : ℕ) (writes : Option Block → List ℕ) (g : Grant) (st' : State) → Made st k mutable c claim m n writes g st' → g.serial ≡ st.next
  made_serial k mutable c claim m n writes g st' d = ap (λ z. z.serial) d.grant

  stays_serial : (b : Bool) (l : Line) (g : Grant) (st' : State) (Else : Type 0) → (Else → g.serial ≡ 0) → StaysOr b st l g st' Else → g.serial ≡ 0
  stays_serial true l g st' Else f (p, q) = ap (λ z. z.serial) p
  stays_serial false l g st' Else f d = f d

  pub grant_serial : (c : Call) (g : Grant) (st' : State) → Does st c g st' → (g.serial ≡ st.next) ⊎ (g.serial ≡ 0)
  grant_serial (WithCapacity k c a p) g st' d = inl (made_serial k true c a (max a p) 0 _ g st' d)
  grant_serial (Zeroed k mutable n a p) g st' d = inl (made_serial k mutable n a (max a p) n _ g st' d)
  grant_serial (CopyFrom k mutable vs a p) g st' d = inl (made_serial k mutable (length vs) a (max a p) (length vs) _ g st' d)
  grant_serial (EmptyShared k a) g st' (p, q) = inl (ap (λ z. z.serial) p)
  grant_serial (Reserve h n) g st' (bs, res, p) = inr (ap (λ z. z.serial) p)
  grant_serial (Append h vs) g st' (between, bs, res, p, q) = inr (ap (λ z. z.serial) p)
  grant_serial (Truncate h n) g st' (p, q) = inr (ap (λ z. z.serial) p)
  grant_serial (Clear h) g st' (p, q) = inr (ap (λ z. z.serial) p)
  grant_serial (Set h i v) g st' (p, q) = inr (ap (λ z. z.serial) p)
  grant_serial (Take h) g st' (p, q) = inl (ap (λ z. z.serial) p)
  grant_serial (AlignedMut h a) g st' d = inr (stays_serial (is_aligned (line st h) a) _ g st' _ (λ e. ap (λ z. z.serial) e.grant) d)
  grant_serial (Freeze h) g st' (p, q) = inr (ap (λ z. z.serial) p)
  grant_serial (IntoBytes h) g st' (p, q) = inr (ap (λ z. z.serial) p)
  grant_serial (FromBytes h k a) g st' (p, q) = inr (ap (λ z. z.serial) p)
  grant_serial (Share h) g st' (p, q) = inl (ap (λ z. z.serial) p)
  grant_serial (Slice h first last a) g st' (p, q) = inl (ap (λ z. z.serial) p)
  grant_serial (TryIntoMut h) g st' (p, q) = inr (ap (λ z. z.serial) p)
  grant_serial (IntoMut h) g st' d = inr (stays_serial (not (shared_by st (line st h))) _ g st' _ (λ e. ap (λ z. z.serial) e.grant) d)
  grant_serial (Aligned h a) g st' d = inr (stays_serial (is_aligned (line st h) a) _ g st' _ (λ e. ap (λ z. z.serial) e.grant) d)
  grant_serial (EnsureAligned h a) g st' (p, q) = inr (ap (λ z. z.serial) p)
  grant_serial (Read h) g st' (p, q) = inr (ap (λ z. z.serial) p)
  grant_serial (Release h) g st' (m, w, p, q) = inr (ap (λ z. z.serial) p)

-- so another handle's line, row and shown part stay
pub framed : (st : State) (tb : Table) → Inv st tb → LinesKeep st → (n : ℕ) (c : Call) (a : Answer) (st' : State) → Sound c → Answers st n c a st' → (t : ℕ) (l : Line) → look_up t st ≡ Some l → All (λ h. h.serial ≡ t → ⊥) (brings c).handles
    → (look_up t st' ≡ Some l) × (shown st'.meaning.base l st'.bytes ≡ shown st.meaning.base l st.bytes)
framed st tb inv each n c (refused f) st' sound (p, q) t l e u = (ap (look_up t) q ∙ e, λ i. shown (q i).meaning.base l (q i).bytes)
framed st tb inv each n c (granted g) st' sound (p, d) t l e u =
    let old : t ≡ st.next → ⊥ = λ z. never (rising_above serial_of 0 st.next t st.lines inv.order (omega (arith, z))) e in
    let one = (all_find serial_of KeptLine t st.lines l each.0 e).serial in
    let key = find_key serial_of t st.lines l e in
    let new : t ≡ g.serial → ⊥ = λ z. ⊎_elim (λ (k : g.serial ≡ st.next). old (z ∙ k)) (λ (k : g.serial ≡ 0). omega (arith, one, key, z, k)) (grant_serial st c g st' d) in
    let e' : look_up t st' ≡ Some l = does_other st t old n c g st' (passed (checks st n c) p) u d ∙ e in
    let inv' = answered st tb inv each n c (granted g) st' sound (p, d) in
    let r = inv.spelled t l e in
    let r' = inv'.spelled t l e' in
    let f = pin r'.1 (λ z. Fits st'.meaning.base st'.bytes l z) r'.2 r.0 (spell_other tb t g new c u ∙ r.1) in
    (e', sym f.spells ∙ r.2.spells)
