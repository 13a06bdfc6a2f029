-- Every call has an answer, whatever allocator does what its rules grant.
use Rattle.std.proofs.Common.{◌≡◌, ℕ, ◌+◌, ◌-◌, ◌*◌, ◌/◌, ◌≤◌, max, Bool, true, false, cond, not, ◌&&◌, ltb, List, [], ◌∷◌, length, Some, None, Option, sym, refl, ap, ◌∙◌, subst, inr, true≢false, arith}
use Rattle.std.proofs.lemmas.Bool.{not-false, or_parts, ltb-false}
use Rattle.region.specs.Bytes.{overwrite, part}
use Rattle.allocation.specs.declared.block.Block.{Block}
use Rattle.allocation.specs.declared.block.Request.{Request}
use Rattle.allocation.specs.declared.fault.Fault.{Fault}
use Rattle.allocation.specs.Alignments.{greatest_size, round_up}
use Rattle.allocation.specs.Meaning.{Allocates, Among, Grows, Meaning, Valid}
use Rattle.model.specs.declared.line.Kind.{Kind}
use Rattle.model.specs.declared.line.Line.{Line}
use Rattle.model.specs.Book.{State, block_of, line, look_up, shared_by, shown}
use Rattle.model.specs.Calls.{Aligned, AlignedMut, Append, Call, Clear, CopyFrom, EmptyShared, EnsureAligned, Freeze, FromBytes, Grant, IntoBytes, IntoMut, Read, Release, Reserve, Set, Share, Slice, Take, Truncate, TryIntoMut, WithCapacity, Zeroed, done, giving, granted, refused}
use Rattle.model.specs.Checks.{block_checks, checks, enough, growth_granted, is_aligned, refusal, request_for, reserve_checks, room_granted, smaller, takes_new, wanted_bytes, wanted_request}
use Rattle.model.specs.Effects.{Copies, Does, GivesBack, Made, Obtains, Relocates, Reserves, StaysOr, add_line, appended, block_left, capacity_in, copied_into, end_line, list_of, made, made_as, put_line, relocated, unfrozen, with_bytes, with_claim, with_meaning, written_in, zeros_in}
use Rattle.model.specs.Outcomes.{Able, Answered, AnsweredLaw}
use Rattle.model.specs.Patterns.{joined}
use Rattle.model.specs.Pedigree.{Table}
use Rattle.model.specs.Runs.{Sound}
use Rattle.model.proofs.Alignments.{alignment_one, max_one, valid_for}
use Rattle.model.proofs.Checks.{Passed, held, passed}
use Rattle.model.proofs.Getting.{obtained}
use Rattle.model.proofs.Invariant.{Inv}
use Rattle.model.proofs.Lines.{LinesKeep}
use Rattle.model.proofs.Runs.{holds_in, reached_holds}
use Rattle.model.proofs.Shapes.{never}

module _ {B : Type 0} (meaning : B → Meaning) (able : Able meaning) (st : State) (tb : Table) (inv : Inv st tb) (each : LinesKeep st) (a : B) (tie : meaning a ≡ st.meaning) where
  -- what the call does, and the allocator after it
  Outcome : (State → B → Grant → Type 0) → Type 0
  Outcome Doing = (g : Grant) × (st' : State) × (a' : B) × Doing st' a' g × (meaning a' ≡ st'.meaning)

  allocated : (r : Request) → Valid r → 1 ≤ r.size → st.meaning.grants r ≡ true → (b : Block) × (a' : B) × Allocates st.meaning r b (meaning a')
  allocated = subst (λ m. (r : Request) → Valid r → 1 ≤ r.size → m.grants r ≡ true → (b : Block) × (a' : B) × Allocates m r b (meaning a')) tie (able.allocates a)

  grown : (b : Block) (r : Request) → Among b st.meaning.live → Valid r → b.size ≤ r.size → st.meaning.grows b r ≡ true
      → (b' : Block) × (a' : B) × (bytes' : List ℕ) × Grows st.meaning b r b' (meaning a') st.bytes bytes'
  grown b r here valid larger grows =
      subst (λ m. (bytes : List ℕ) → Among b m.live → Valid r → b.size ≤ r.size → m.grows b r ≡ true → length bytes ≡ m.extent → (b' : Block) × (a' : B) × (bytes' : List ℕ) × Grows m b r b' (meaning a') bytes bytes') tie (able.grows a b r) st.bytes here valid larger grows inv.long

  returned_by : (a' : B) (o : Option Block) → ((b : Block) → o ≡ Some b → Among b (meaning a').live) → (a'' : B) × GivesBack (meaning a') o (meaning a'')
  returned_by a' None h = (a', refl)
  returned_by a' (Some b) h = able.frees a' b (h b refl)

  returned_now : (o : Option Block) → ((b : Block) → o ≡ Some b → Among b st.meaning.live) → (a' : B) × GivesBack st.meaning o (meaning a')
  returned_now o = subst (λ m. ((b : Block) → o ≡ Some b → Among b m.live) → (a' : B) × GivesBack m o (meaning a')) tie (returned_by a o)

  -- a block of the size, where one is wanted
  got_by : (c size : ℕ) → 1 ≤ size → size ≤ greatest_size → (ltb 0 c && not (st.meaning.grants (request_for size))) ≡ false → (got : Option Block) × (a' : B) × Obtains (ltb 0 c) st.meaning (request_for size) got (meaning a')
  got_by c size one small = go (ltb 0 c)
    where
      go : (b : Bool) → (b && not (st.meaning.grants (request_for size))) ≡ false → (got : Option Block) × (a' : B) × Obtains b st.meaning (request_for size) got (meaning a')
      go true e = let x = allocated (request_for size) (valid_for size small) one (not-false (st.meaning.grants (request_for size)) e) in (Some x.0, x.1, (x.0, refl, x.2))
      go false e = (None, a, (refl, tie))

  makes : (k : Kind) (mutable : Bool) (c claim m n : ℕ) (writes : Option Block → List ℕ) → 1 ≤ m → Passed (block_checks st.meaning true k.width c m) → Outcome (λ st' a' g. Made st k mutable c claim m n writes g st')
  unfolding Outcome add_line with_bytes with_meaning
  makes k mutable c claim m n writes one ps =
      let x = got_by c (c * k.width + m) (omega arith) (ltb-false greatest_size (c * k.width + m) ps.1.0) ps.1.1.0 in (
        giving st.next (list_of x.0),
        add_line (with_bytes (with_meaning st (meaning x.1)) (writes x.0)) (made_as mutable (made st k claim m n x.0)),
        x.1,
        record { got = x.0; meaning = meaning x.1; gets = x.2; grant = refl; is = refl },
        refl,
      )

  left_live : (s : ℕ) (l : Line) → look_up s st ≡ Some l → (c : Bool) (b : Block) → block_left c l ≡ Some b → Among b st.meaning.live
  left_live s l e true b q = absurd (never refl q)
  left_live s l e false b q = inv.held s l b e q

  copies : (s : ℕ) (l : Line) (c claim : ℕ) (mutable : Bool) (capacity : Option Block → ℕ) → look_up s st ≡ Some l → Passed (block_checks st.meaning true l.kind.width c (max claim 256)) → Outcome (λ st' a' g. Copies st l c claim mutable capacity g st')
  unfolding Outcome put_line with_bytes with_meaning
  copies s l c claim mutable capacity e ps =
      let size = c * l.kind.width + max claim 256 in
      let x = got_by c size (omega arith) (ltb-false greatest_size size ps.1.0) ps.1.1.0 in
      let o = obtained st.meaning (meaning x.1) c size x.0 inv.law x.2 in
      let y = returned_by x.1 (block_left (shared_by st l) l) (λ b q. (o.blocks b).1 (inr (left_live s l e (shared_by st l) b q))) in (
        record { serial = 0; blocks = list_of x.0; copied = true },
        put_line (with_bytes (with_meaning st (meaning y.0)) (written_in st.meaning.base (max claim 256) x.0 (shown st.meaning.base l st.bytes) st.bytes)) (copied_into st.meaning.base l mutable claim (max claim 256) (capacity x.0) x.0),
        y.0,
        record { got = x.0; between = meaning x.1; meaning = meaning y.0; gets = x.2; gives = y.1; grant = refl; is = refl },
        refl,
      )

  -- the line stays, or is copied
  stays : (s : ℕ) (l l' : Line) (c claim : ℕ) (mutable : Bool) (capacity : Option Block → ℕ) → look_up s st ≡ Some l → (b : Bool) → Passed (block_checks st.meaning (not b) l.kind.width c (max claim 256))
      → Outcome (λ st' a' g. StaysOr b st l' g st' (Copies st l c claim mutable capacity g st'))
  unfolding Outcome put_line
  stays s l l' c claim mutable capacity e true ps = (done, put_line st l', a, (refl, refl), tie)
  stays s l l' c claim mutable capacity e false ps = copies s l c claim mutable capacity e ps

  -- where the block is got anew
  relocates_new : (s : ℕ) (l : Line) (more : ℕ) → look_up s st ≡ Some l → (wanted_request l more).size ≤ greatest_size → takes_new st.meaning l more ≡ true → st.meaning.grants (wanted_request l more) ≡ true
      → (b : Block) × (st' : State) × (a' : B) × Relocates st l more (b ∷ []) st' × (meaning a' ≡ st'.meaning)
  unfolding put_line with_bytes with_meaning
  relocates_new s l more e small new grants =
      let x = allocated (wanted_request l more) (valid_for (wanted_request l more).size small) (omega arith) grants in
      let y = returned_by x.1 (block_of l.backing) (λ b q. (x.2.live b).1 (inr (inv.held s l b e q))) in
      let start = round_up (st.meaning.base + x.0.place) l.claim in
      let ys = overwrite (start - st.meaning.base) (shown st.meaning.base l st.bytes) st.bytes in (
        x.0,
        put_line (with_bytes (with_meaning st (meaning y.0)) ys) (relocated l x.0 start (wanted_bytes l more / l.kind.width)),
        y.0,
        record {
          block = x.0;
          meaning = meaning y.0;
          bytes = ys;
          by_new = λ _. record { between = meaning x.1; gets = x.2; gives = y.1; writes = refl };
          by_growth = λ f. absurd (true≢false (sym new ∙ f));
          got = refl;
          is = refl;
        },
        refl,
      )

  -- where it grows
  relocates_grown : (s : ℕ) (l : Line) (more : ℕ) (c : Block) → look_up s st ≡ Some l → (wanted_request l more).size ≤ greatest_size → takes_new st.meaning l more ≡ false → block_of l.backing ≡ Some c → c.size ≤ (wanted_request l more).size → st.meaning.grows c (wanted_request l more) ≡ true
      → (b : Block) × (st' : State) × (a' : B) × Relocates st l more (b ∷ []) st' × (meaning a' ≡ st'.meaning)
  unfolding put_line with_bytes with_meaning
  relocates_grown s l more c e small old was larger grows =
      let x = grown c (wanted_request l more) (inv.held s l c e was) (valid_for (wanted_request l more).size small) larger grows in
      let start = round_up (st.meaning.base + x.0.place) l.claim in
      let ys = overwrite (start - st.meaning.base) (part (x.0.place + (l.start - (st.meaning.base + c.place))) (l.len * l.kind.width) x.2) x.2 in (
        x.0,
        put_line (with_bytes (with_meaning st (meaning x.1)) ys) (relocated l x.0 start (wanted_bytes l more / l.kind.width)),
        x.1,
        record {
          block = x.0;
          meaning = meaning x.1;
          bytes = ys;
          by_new = λ f. absurd (true≢false (sym f ∙ old));
          by_growth = λ _. record { from = c; was = was; between = x.2; grows = x.3; moves = refl };
          got = refl;
          is = refl;
        },
        refl,
      )

  reserves : (s : ℕ) (l : Line) (more : ℕ) (b : Bool) → look_up s st ≡ Some l → enough l more ≡ b → Passed (reserve_checks st.meaning l more) → (bs : List Block) × (st' : State) × (a' : B) × Reserves b st l more bs st' × (meaning a' ≡ st'.meaning)
  reserves s l more true e k ps = ([], st, a, (refl, refl), tie)
  reserves s l more false e k ps = relocates (takes_new st.meaning l more) refl (block_of l.backing) refl
    where
      qs : {x : Bool} → (not (enough l more) && x) ≡ false → x ≡ false
      qs {x} f = subst (λ b. (not b && x) ≡ false) k f

      small : (wanted_request l more).size ≤ greatest_size
      small = ltb-false greatest_size (wanted_request l more).size (qs ps.1.0)

      granted_room : room_granted st.meaning l more ≡ true
      granted_room = not-false (room_granted st.meaning l more) (qs ps.1.1.0)

      found : (b : Block) × (st' : State) × (a' : B) × Relocates st l more (b ∷ []) st' × (meaning a' ≡ st'.meaning) → (bs : List Block) × (st' : State) × (a' : B) × Relocates st l more bs st' × (meaning a' ≡ st'.meaning)
      found x = (x.0 ∷ [], x.1, x.2, x.3, x.4)

      relocates : (new : Bool) → takes_new st.meaning l more ≡ new → (o : Option Block) → block_of l.backing ≡ o → (bs : List Block) × (st' : State) × (a' : B) × Relocates st l more bs st' × (meaning a' ≡ st'.meaning)
      relocates true t o q = found (relocates_new s l more e small t (subst (λ b. cond b (st.meaning.grants (wanted_request l more)) (growth_granted st.meaning (wanted_request l more) (block_of l.backing)) ≡ true) t granted_room))
      relocates false t None q = absurd (true≢false (ap (smaller (wanted_request l more).size) (sym q) ∙ (or_parts st.meaning.copies (smaller (wanted_request l more).size (block_of l.backing)) t).1))
      relocates false t (Some c) q =
          let g : growth_granted st.meaning (wanted_request l more) (block_of l.backing) ≡ true = subst (λ b. cond b (st.meaning.grants (wanted_request l more)) (growth_granted st.meaning (wanted_request l more) (block_of l.backing)) ≡ true) t granted_room in
          let n = ap (smaller (wanted_request l more).size) (sym q) ∙ (or_parts st.meaning.copies (smaller (wanted_request l more).size (block_of l.backing)) t).1 in
          found (relocates_grown s l more c e small t q (ltb-false (wanted_request l more).size c.size n) (ap (growth_granted st.meaning (wanted_request l more)) (sym q) ∙ g))

  -- calls that leave the allocator as it is
  puts : (l : Line) → meaning a ≡ (put_line st l).meaning
  unfolding put_line
  puts l = tie

  adds : (l : Line) → meaning a ≡ (add_line st l).meaning
  unfolding add_line
  adds l = tie

  puts_adds : (l l' : Line) → meaning a ≡ (add_line (put_line st l) l').meaning
  unfolding add_line put_line
  puts_adds l l' = tie

  sets : (xs : List ℕ) → meaning a ≡ (with_bytes st xs).meaning
  unfolding with_bytes
  sets xs = tie

  appends : (a' : B) (st' : State) (l : Line) (vs : List (List ℕ)) → meaning a' ≡ st'.meaning → meaning a' ≡ (appended st' l vs).meaning
  unfolding appended put_line with_bytes
  appends a' st' l vs e = e

  ends : (a' : B) (s : ℕ) → meaning a' ≡ (end_line (with_meaning st (meaning a')) s).meaning
  unfolding end_line with_meaning
  ends a' s = refl

  does : (n : ℕ) (c : Call) → Sound c → Passed (checks st n c) → Outcome (λ st' a' g. Does st c g st')
  unfolding Outcome
  does n (WithCapacity k c a₀ p) s ps = makes k true c a₀ (max a₀ p) 0 (λ got. st.bytes) (max_one a₀ p (alignment_one s.1)) ps.1.1.1.1
  does n (Zeroed k mutable c a₀ p) s ps = makes k mutable c a₀ (max a₀ p) c (λ got. zeros_in got st.bytes) (max_one a₀ p (alignment_one s.1)) ps.1.1.1.1
  does n (CopyFrom k mutable vs a₀ p) s ps = makes k mutable (length vs) a₀ (max a₀ p) (length vs) (λ got. written_in st.meaning.base (max a₀ p) got (joined vs) st.bytes) (max_one a₀ p (alignment_one s.1)) ps.1.1.1.1
  does n (EmptyShared k a₀) s ps = (_, _, a, (refl, refl), adds _)
  does n (Reserve h more) s ps =
      let x = reserves h.serial (line st h) more (enough (line st h) more) (held st h ps.1.1.0).at refl ps.1.1.1.1 in
      (giving 0 x.0, x.1, x.2, (x.0, x.3, refl), x.4)
  does n (Append h vs) s ps =
      let x = reserves h.serial (line st h) (length vs) (enough (line st h) (length vs)) (held st h ps.1.1.0).at refl ps.1.1.1.1 in
      (giving 0 x.0, appended x.1 (line x.1 h) vs, x.2, (x.1, x.0, x.3, refl, refl), appends x.2 x.1 (line x.1 h) vs x.4)
  does n (Truncate h len) s ps = (_, _, a, (refl, refl), puts _)
  does n (Clear h) s ps = (_, _, a, (refl, refl), puts _)
  does n (Set h i v) s ps = (_, _, a, (refl, refl), sets _)
  does n (Take h) s ps = (_, _, a, (refl, refl), puts_adds _ _)
  does n (AlignedMut h a₀) s ps = stays h.serial (line st h) (with_claim (line st h) a₀) (line st h).capacity a₀ true (λ got. (line st h).capacity) (held st h ps.1.1.0).at (is_aligned (line st h) a₀) ps.1.1.1.1.1
  does n (Freeze h) s ps = (_, _, a, (refl, refl), puts _)
  does n (IntoBytes h) s ps = (_, _, a, (refl, refl), puts _)
  does n (FromBytes h k a₀) s ps = (_, _, a, (refl, refl), puts _)
  does n (Share h) s ps = (_, _, a, (refl, refl), puts_adds _ _)
  does n (Slice h first last a₀) s ps = (_, _, a, (refl, refl), adds _)
  does n (TryIntoMut h) s ps = (_, _, a, (refl, refl), puts _)
  does n (IntoMut h) s ps =
      let l = line st h in
      stays h.serial l (unfrozen st l l.backing) l.len l.claim true (capacity_in st.meaning.base (max l.claim 256) l.kind.width) (held st h ps.1.1.0).at (not (shared_by st l))
      (subst (λ b. Passed (block_checks st.meaning b l.kind.width l.len (max l.claim 256))) (twice (shared_by st l)) ps.1.1.1.1)
    where
      twice : (b : Bool) → b ≡ not (not b)
      twice true = refl
      twice false = refl
  does n (Aligned h a₀) s ps = stays h.serial (line st h) (with_claim (line st h) a₀) (line st h).len a₀ false (λ got. 0) (held st h ps.1.1.0).at (is_aligned (line st h) a₀) ps.1.1.1.1.1
  does n (EnsureAligned h a₀) s ps = (_, _, a, (refl, refl), puts _)
  does n (Read h) s ps = (done, st, a, (refl, refl), tie)
  does n (Release h) s ps =
      let k = held st h ps.1.1.0 in
      let x = returned_now (block_left (shared_by st (line st h)) (line st h)) (left_live h.serial (line st h) k.at (shared_by st (line st h))) in
      (done, end_line (with_meaning st (meaning x.0)) h.serial, x.0, (meaning x.0, x.1, refl, refl), ends x.0 h.serial)

  pub answers : (n : ℕ) (c : Call) → Sound c → Answered meaning st n c
  unfolding Outcome
  answers n c s = go (refusal (checks st n c)) refl
    where
      go : (o : Option Fault) → refusal (checks st n c) ≡ o → Answered meaning st n c
      go (Some f) e = (refused f, st, a, (e, refl), tie)
      go None e = let x = does n c s (passed (checks st n c) e) in (granted x.0, x.1, x.2, (e, x.3), x.4)

pub answered_law : {B : Type 0} (meaning : B → Meaning) → AnsweredLaw meaning
answered_law meaning able w r s i a tie n c sound = let f = holds_in w (reached_holds w r) s i in answers meaning able s.state s.table f.0 f.1 a tie n c sound
