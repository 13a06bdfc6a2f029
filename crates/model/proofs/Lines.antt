-- Every call keeps the numbers of every line.
use Rattle.std.proofs.Common.{◌≡◌, ℕ, ◌+◌, ◌-◌, ◌*◌, ◌%◌, ◌≤◌, max, Bool, true, false, cond, not, ◌&&◌, ◌||◌, eqb, ltb, leb, List, [], ◌∷◌, length, Some, None, Option, sym, refl, ap, ◌∙◌, subst, true≢false, zero-mul, arith, length-append}
use native.Mathlib.Nat.{mod_self}
use Rattle.std.proofs.lemmas.Bool.{or_parts, leb-false, eqb-true, not-false, ltb-false}
use Rattle.allocation.specs.declared.block.Block.{Block}
use Rattle.allocation.specs.Alignments.{IsAlignment, round_up}
use Rattle.allocation.specs.Meaning.{Meaning}
use Rattle.allocation.proofs.Rounding.{round_up_multiple}
use Rattle.model.specs.declared.line.Backing.{Backing}
use Rattle.model.specs.declared.line.Backing.TheVariants.{Empty, Owned, Unbacked}
use Rattle.model.specs.declared.line.Handle.{Handle}
use Rattle.model.specs.declared.line.Kind.{Kind}
use Rattle.model.specs.declared.line.Line.{Line}
use Rattle.model.specs.Book.{State, blank, line, line_limit, look_up, or_blank, serial_limit, serial_of, shared_by}
use Rattle.model.specs.Calls.{Aligned, AlignedMut, Append, Call, Claim, Clear, CopyFrom, EmptyShared, EnsureAligned, Freeze, FromBytes, Given, Grant, Inherited, IntoBytes, IntoMut, OfKind, Read, Release, Reserve, Set, Share, Slice, Take, Truncate, TryIntoMut, WithCapacity, Zeroed}
use Rattle.model.specs.Checks.{begin, checks, claimed, enough, finish, full, is_aligned}
use Rattle.model.specs.Effects.{Copies, Does, Made, Reserves, StaysOr, add_line, appended, copied_into, empty_line, end_line, frozen, made, made_as, put_line, relocated, shared_with, shortened, slice_line, start_in, unbacked_line, unfrozen, with_backing, with_bytes, with_claim, with_len, with_meaning, with_serial}
use Rattle.model.specs.Invariant.{Counted, KeptLine}
use Rattle.model.specs.Keyed.{All}
use Rattle.model.specs.Kinds.{SoundKind}
use Rattle.model.specs.Runs.{Sound, SoundClaim}
use Rattle.model.proofs.Alignments.{alignment_256, alignment_max, alignment_one, far_multiple, max_one, sound_byte, through}
use Rattle.model.proofs.Checks.{Passed, held}
use Rattle.model.proofs.Keyed.{all_find, all_snoc, all_update, all_without, length_update, length_without}

abbrev pub LinesKeep : State → Type 0
LinesKeep st = All KeptLine st.lines × Counted st.next st.lines

pub kept_at : (st : State) → LinesKeep st → (n : ℕ) (l : Line) → look_up n st ≡ Some l → KeptLine l
kept_at st e n l q = all_find serial_of KeptLine n st.lines l e.0 q

kept_blank : KeptLine blank
unfolding blank
kept_blank = record { serial = omega arith; kind = sound_byte; alignment = (0, omega arith, refl); start = refl; align = omega arith; shared = λ q. refl }

pub kept_line : (st : State) → LinesKeep st → (h : Handle) → KeptLine (line st h)
unfolding line or_blank
kept_line st e h = go (look_up h.serial st) refl
  where
    go : (o : Option Line) → look_up h.serial st ≡ o → KeptLine (or_blank o)
    go None q = kept_blank
    go (Some l) q = kept_at st e h.serial l q

-- states
put_keeps : (st : State) (l : Line) → KeptLine l → LinesKeep st → LinesKeep (put_line st l)
unfolding put_line
put_keeps st l k (e, c) =
    (all_update serial_of KeptLine l.serial (λ _. l) st.lines (λ _. k) e, record { begun = c.begun; unspent = c.unspent; few = omega (arith, c.few, length_update serial_of l.serial (λ _. l) st.lines) })

end_keeps : (st : State) (a : Meaning) (s : ℕ) → LinesKeep st → LinesKeep (end_line (with_meaning st a) s)
unfolding end_line with_meaning
end_keeps st a s (e, c) = (all_without serial_of KeptLine s st.lines e, record { begun = c.begun; unspent = c.unspent; few = omega (arith, c.few, length_without serial_of s st.lines) })

bytes_keep : (st : State) (xs : List ℕ) → LinesKeep st → LinesKeep (with_bytes st xs)
unfolding with_bytes
bytes_keep st xs e = e

appended_keeps : (st : State) (l : Line) (vs : List (List ℕ)) → KeptLine l → LinesKeep st → LinesKeep (appended st l vs)
unfolding appended
appended_keeps st l vs k e = put_keeps (with_bytes st _) (with_len l (l.len + length vs)) (record { serial = k.serial; kind = k.kind; alignment = k.alignment; start = k.start; align = k.align; shared = k.shared }) (bytes_keep st _ e)

add_keeps : (st : State) (l : Line) → KeptLine l → full st ≡ false → LinesKeep st → LinesKeep (add_line st l)
unfolding add_line
add_keeps st l k room (e, c) =
    let p = or_parts (leb line_limit (length st.lines)) (leb serial_limit st.next) room in (
      all_snoc KeptLine st.lines l e k,
      record {
        begun = omega (arith, c.begun);
        unspent = omega (arith, leb-false serial_limit st.next p.1);
        few = omega (arith, length-append st.lines (l ∷ []), leb-false line_limit (length st.lines) p.0);
      },
    )

same_keeps : (st : State) (a : Meaning) (xs : List ℕ) → LinesKeep st → LinesKeep (with_bytes (with_meaning st a) xs)
unfolding with_bytes with_meaning
same_keeps st a xs e = e

same_full : (st : State) (a : Meaning) (xs : List ℕ) → full st ≡ false → full (with_bytes (with_meaning st a) xs) ≡ false
unfolding with_bytes with_meaning
same_full st a xs e = e

put_full : (st : State) (l : Line) → full st ≡ false → full (put_line st l) ≡ false
unfolding put_line
put_full st l e = ap (λ n. leb line_limit n || leb serial_limit st.next) (length_update serial_of l.serial (λ _. l) st.lines) ∙ e

-- a start in what was got
start_multiple : (base m : ℕ) (got : Option Block) → 1 ≤ m → start_in base m got % m ≡ 0
start_multiple base m None h = mod_self m
start_multiple base m (Some B) h = round_up_multiple (base + B.place) m h

pub reserves_to : (st : State) → LinesKeep st → (st' : State) (b : Bool) (l : Line) (n : ℕ) (bs : List Block) → KeptLine l → l.mutable ≡ true → Reserves b st l n bs st' → LinesKeep st'
reserves_to st e st' true l n bs k mut (p, q) = subst LinesKeep (sym q) e
reserves_to st e st' false l n bs k mut d =
    subst LinesKeep (sym d.is) (put_keeps (with_bytes (with_meaning st d.meaning) d.bytes) (relocated l d.block (round_up (st.meaning.base + d.block.place) l.claim) _)
    (record { serial = k.serial; kind = k.kind; alignment = k.alignment; start = round_up_multiple (st.meaning.base + d.block.place) l.claim (alignment_one k.alignment); align = k.align; shared = λ q. absurd (true≢false (sym mut ∙ q)) })
    (same_keeps st d.meaning d.bytes e))

-- the same line at another serial or over another backing
moved_keeps : (l l' : Line) → KeptLine l → 1 ≤ l'.serial → l'.kind ≡ l.kind → l'.claim ≡ l.claim → l'.start ≡ l.start → l'.mutable ≡ l.mutable → l'.capacity ≡ l.capacity → KeptLine l'
moved_keeps l l' k s kind claim start mutable capacity = record {
  serial = s;
  kind = subst SoundKind (sym kind) k.kind;
  alignment = subst IsAlignment (sym claim) k.alignment;
  start = (λ i. start i % claim i) ∙ k.start;
  align = subst (λ z. z.align ≤ l'.claim) (sym kind) (subst (λ z. l.kind.align ≤ z) (sym claim) k.align);
  shared = λ q. capacity ∙ k.shared (sym mutable ∙ q);
}

module _ (st : State) (e : LinesKeep st) (st' : State) where
  of : (h : Handle) → KeptLine (line st h)
  of h = kept_line st e h

  made_keeps : (k : Kind) (mutable : Bool) (c a p n : ℕ) (writes : Option Block → List ℕ) (g : Grant) → SoundKind k → IsAlignment a → IsAlignment p → full st ≡ false → k.align ≤ a → Made st k mutable c a (max a p) n writes g st' → LinesKeep st'
  made_keeps k mutable c a p n writes g sk pa pp room h d =
      subst LinesKeep (sym d.is) (add_keeps (with_bytes (with_meaning st d.meaning) (writes d.got)) (made_as mutable (made st k a (max a p) n d.got))
      (record {
        serial = e.1.begun;
        kind = sk;
        alignment = pa;
        start = through (start_in st.meaning.base (max a p) d.got) (max a p) a (start_multiple st.meaning.base (max a p) d.got (max_one a p (alignment_one pa))) (alignment_max a p pa pp);
        align = h;
        shared = λ q. ap (λ b. cond b (made st k a (max a p) n d.got).capacity 0) q;
      })
      (same_full st d.meaning (writes d.got) room) (same_keeps st d.meaning (writes d.got) e))

  copies_keep : (l : Line) (c a : ℕ) (mutable : Bool) (capacity : Option Block → ℕ) (g : Grant) → KeptLine l → IsAlignment a → l.kind.align ≤ a → ((got : Option Block) → mutable ≡ false → capacity got ≡ 0) → Copies st l c a mutable capacity g st' → LinesKeep st'
  unfolding copied_into
  copies_keep l c a mutable capacity g k pa h none d =
      let m = max a 256 in
      let l' = copied_into st.meaning.base l mutable a m (capacity d.got) d.got in
      subst LinesKeep (sym d.is) (put_keeps (with_bytes (with_meaning st d.meaning) _) l'
      (record {
        serial = k.serial;
        kind = k.kind;
        alignment = pa;
        start = through (start_in st.meaning.base m d.got) m a (start_multiple st.meaning.base m d.got (max_one a 256 (alignment_one pa))) (alignment_max a 256 pa alignment_256);
        align = h;
        shared = none d.got;
      })
      (same_keeps st d.meaning _ e))

  stays_keep : (b : Bool) (l : Line) (g : Grant) (C : Type 0) → (b ≡ true → KeptLine l) → (C → LinesKeep st') → StaysOr b st l g st' C → LinesKeep st'
  stays_keep true l g C k c (p, q) = subst LinesKeep (sym q) (put_keeps st l (k refl) e)
  stays_keep false l g C k c d = c d

  -- another claim
  claim_keeps : (l : Line) (a : ℕ) → KeptLine l → IsAlignment a → l.kind.align ≤ a → l.start % a ≡ 0 → KeptLine (with_claim l a)
  claim_keeps l a k p h s = record { serial = k.serial; kind = k.kind; alignment = p; start = s; align = h; shared = k.shared }

  unfrozen_keeps : (l : Line) (b : Backing) → KeptLine l → KeptLine (unfrozen st l b)
  unfrozen_keeps l Unbacked k = record { serial = k.serial; kind = k.kind; alignment = k.alignment; start = alignment_max l.claim 256 k.alignment alignment_256; align = k.align; shared = λ q. refl }
  unfrozen_keeps l (Empty g) k = record { serial = k.serial; kind = k.kind; alignment = k.alignment; start = k.start; align = k.align; shared = λ q. refl }
  unfrozen_keeps l (Owned B) k = record { serial = k.serial; kind = k.kind; alignment = k.alignment; start = k.start; align = k.align; shared = λ q. absurd (true≢false q) }

  len_keeps : (l : Line) (n : ℕ) → KeptLine l → KeptLine (with_len l n)
  len_keeps l n k = moved_keeps l (with_len l n) k k.serial refl refl refl refl refl

  shortened_keeps : (b : Bool) (n : ℕ) (l : Line) → KeptLine l → KeptLine (shortened b n l)
  shortened_keeps true n l k = len_keeps l n k
  shortened_keeps false n l k = k

  claim_alignment : (h : Handle) (a : Claim) → SoundClaim a → IsAlignment (claimed a (line st h))
  claim_alignment h (Given a) s = s
  claim_alignment h Inherited s = (of h).alignment
  claim_alignment h OfKind s = (of h).kind.align

  unbacked_keeps : (k : Kind) (a : ℕ) → SoundKind k → IsAlignment a → k.align ≤ a → KeptLine (unbacked_line st.next k a)
  unbacked_keeps k a sk p h = record { serial = e.1.begun; kind = sk; alignment = p; start = far_multiple a p; align = h; shared = λ q. refl }

  slice_keeps : (c : Bool) (l : Line) (b n a : ℕ) → KeptLine l → IsAlignment a → l.kind.align ≤ a → (c ≡ true → (l.start + b * l.kind.width) % a ≡ 0) → KeptLine (slice_line c st l b n a)
  slice_keeps true l b n a k p h s = record { serial = e.1.begun; kind = k.kind; alignment = p; start = s refl; align = h; shared = λ q. refl }
  slice_keeps false l b n a k p h s = unbacked_keeps l.kind a k.kind p h

  -- a check of the start
  aligned_then : (l : Line) (a : ℕ) → is_aligned l a ≡ true → l.start % a ≡ 0
  aligned_then l a k = eqb-true (l.start % a) 0 k

  pub kept_on : (extent : ℕ) (c : Call) (g : Grant) → Sound c → Passed (checks st extent c) → Does st c g st' → LinesKeep st'
  kept_on extent (WithCapacity k c a p) g s ps d = made_keeps k true c a p 0 (λ got. st.bytes) g s.0 s.1 s.2 ps.1.1.0 (ltb-false a k.align ps.1.1.1.0) d
  kept_on extent (Zeroed k mutable n a p) g s ps d = made_keeps k mutable n a p n _ g s.0 s.1 s.2 ps.1.1.0 (ltb-false a k.align ps.1.1.1.0) d
  kept_on extent (CopyFrom k mutable vs a p) g s ps d = made_keeps k mutable (length vs) a p (length vs) _ g s.0 s.1 s.2 ps.1.1.0 (ltb-false a k.align ps.1.1.1.0) d
  kept_on extent (EmptyShared k a) g s ps (p, q) = subst LinesKeep (sym q) (add_keeps st _ (unbacked_keeps k a s.0 s.1 (ltb-false a k.align ps.1.1.1.0)) ps.1.1.0 e)
  kept_on extent (Reserve h n) g s ps (bs, res, p) = reserves_to st e st' (enough (line st h) n) (line st h) n bs (of h) ((held st h ps.1.1.0).state ∙ not-false h.mutable ps.1.0) res
  kept_on extent (Append h vs) g s ps (between, bs, res, p, q) =
      let f = reserves_to st e between (enough (line st h) (length vs)) (line st h) (length vs) bs (of h) ((held st h ps.1.1.0).state ∙ not-false h.mutable ps.1.0) res in
      subst LinesKeep (sym q) (appended_keeps between (line between h) vs (kept_line between f h) f)
  kept_on extent (Truncate h n) g s ps (p, q) = subst LinesKeep (sym q) (put_keeps st _ (shortened_keeps (leb n (line st h).len) n (line st h) (of h)) e)
  kept_on extent (Clear h) g s ps (p, q) = subst LinesKeep (sym q) (put_keeps st _ (len_keeps (line st h) 0 (of h)) e)
  kept_on extent (Set h i v) g s ps (p, q) = subst LinesKeep (sym q) (bytes_keep st _ e)
  kept_on extent (Take h) g s ps (p, q) =
      let k = of h in
      let l₀ = empty_line h.serial (line st h).kind (line st h).claim in
      subst LinesKeep (sym q) (add_keeps (put_line st l₀) (with_serial (line st h) st.next) (moved_keeps (line st h) (with_serial (line st h) st.next) k e.1.begun refl refl refl refl refl) (put_full st l₀ ps.1.1.1.0)
      (put_keeps st l₀ (record { serial = subst (λ z. 1 ≤ z) (held st h ps.1.1.0).serial k.serial; kind = k.kind; alignment = k.alignment; start = alignment_max (line st h).claim 256 k.alignment alignment_256; align = k.align; shared = λ q. refl }) e))
  kept_on extent (AlignedMut h a) g s ps d =
      let covered = ltb-false a (line st h).kind.align ps.1.1.1.1.0 in
      stays_keep (is_aligned (line st h) a) (with_claim (line st h) a) g _ (λ f. claim_keeps (line st h) a (of h) s covered (aligned_then (line st h) a f)) (copies_keep (line st h) (line st h).capacity a true (λ got. (line st h).capacity) g (of h) s covered (λ got q. absurd (true≢false q))) d
  kept_on extent (Freeze h) g s ps (p, q) =
      let k = of h in
      subst LinesKeep (sym q) (put_keeps st (frozen (line st h)) (record { serial = k.serial; kind = k.kind; alignment = k.alignment; start = k.start; align = k.align; shared = λ q. refl }) e)
  kept_on extent (IntoBytes h) g s ps (p, q) =
      let k = of h in
      subst LinesKeep (sym q) (put_keeps st _ (record { serial = k.serial; kind = sound_byte; alignment = k.alignment; start = k.start; align = alignment_one k.alignment; shared = λ q. ap (λ z. z * (line st h).kind.width) (k.shared q) ∙ zero-mul (line st h).kind.width }) e)
  kept_on extent (FromBytes h b a) g s ps (p, q) =
      subst LinesKeep (sym q) (put_keeps st _ (record { serial = (of h).serial; kind = s.0; alignment = s.1; start = aligned_then (line st h) a (not-false (is_aligned (line st h) a) ps.1.1.1.1.1.0); align = ltb-false a b.align ps.1.1.1.1.0; shared = λ q. refl }) e)
  kept_on extent (Share h) g s ps (p, q) =
      let k = of h in
      let l₁ = with_backing (line st h) (shared_with st.next (line st h).backing) in
      subst LinesKeep (sym q) (add_keeps (put_line st l₁) (with_serial l₁ st.next) (moved_keeps (line st h) (with_serial l₁ st.next) k e.1.begun refl refl refl refl refl) (put_full st l₁ ps.1.1.1.0)
      (put_keeps st l₁ (moved_keeps (line st h) l₁ k k.serial refl refl refl refl refl) e))
  kept_on extent (Slice h b f a) g s ps (p, q) =
      let l = line st h in
      let own = ps.1.1.1.1 in
      subst LinesKeep (sym q) (add_keeps st _ (slice_keeps (ltb (begin b) (finish f l.len)) l (begin b) (finish f l.len - begin b) (claimed a l) (of h) (claim_alignment h a s) (ltb-false (claimed a l) l.kind.align own.1.1.1.1.1.0)
      (λ t. start_fits (ltb (begin b) (finish f l.len)) ((l.start + begin b * l.kind.width) % claimed a l) t own.1.1.1.1.1.1.0)) ps.1.1.1.0 e)
    where
      start_fits : (c : Bool) (x : ℕ) → c ≡ true → (c && not (eqb x 0)) ≡ false → x ≡ 0
      start_fits c x t f = eqb-true x 0 (not-false (eqb x 0) (subst (λ z. (z && not (eqb x 0)) ≡ false) t f))
  kept_on extent (TryIntoMut h) g s ps (p, q) = subst LinesKeep (sym q) (put_keeps st _ (unfrozen_keeps (line st h) (line st h).backing (of h)) e)
  kept_on extent (IntoMut h) g s ps d =
      let k = of h in
      stays_keep (not (shared_by st (line st h))) _ g _ (λ f. unfrozen_keeps (line st h) (line st h).backing k) (copies_keep (line st h) (line st h).len (line st h).claim true _ g k k.alignment k.align (λ got q. absurd (true≢false q))) d
  kept_on extent (Aligned h a) g s ps d =
      let covered = ltb-false a (line st h).kind.align ps.1.1.1.1.0 in
      stays_keep (is_aligned (line st h) a) (with_claim (line st h) a) g _ (λ f. claim_keeps (line st h) a (of h) s covered (aligned_then (line st h) a f)) (copies_keep (line st h) (line st h).len a false (λ got. 0) g (of h) s covered (λ got q. refl)) d
  kept_on extent (EnsureAligned h a) g s ps (p, q) =
      subst LinesKeep (sym q) (put_keeps st (with_claim (line st h) a) (claim_keeps (line st h) a (of h) s (ltb-false a (line st h).kind.align ps.1.1.1.1.0) (aligned_then (line st h) a (not-false (is_aligned (line st h) a) ps.1.1.1.1.1.0))) e)
  kept_on extent (Read h) g s ps (p, q) = subst LinesKeep (sym q) e
  kept_on extent (Release h) g s ps (m, w, p, q) = subst LinesKeep (sym q) (end_keeps st m h.serial e)
