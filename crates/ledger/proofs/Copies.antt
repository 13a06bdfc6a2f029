-- From what a copy did to what the definitions say of it: one argument for all calls that may copy.
use Rattle.std.proofs.Common.{◌≡◌, ℕ, ◌+◌, ◌-◌, ◌*◌, ◌≤◌, max, Bool, true, false, not, cond, ltb, List, [], ◌∷◌, ◌++◌, length, set, Some, None, Option, sym, refl, ap, ◌∙◌, subst, inl, inr, mul-le-mul_right, zero-mul, arith}
use Rattle.allocation.specs.Alignments.{IsAlignment, round_up}
use Rattle.allocation.specs.Asked.{asked}
use Rattle.allocation.specs.Meaning.{Meaning}
use Rattle.allocation.specs.declared.block.Block.{Block}
use Rattle.allocation.specs.declared.block.Request.{Request}
use Rattle.allocation.specs.declared.fault.Fault.{Fault}
use Rattle.allocation.proofs.Rounding.{round_up_low, round_up_high}
use Rattle.checks.specs.Groups.{below_kind, size_checks, grant_check}
use Rattle.sizes.specs.Numbers.{Spaced, state_with}
use Rattle.sizes.proofs.Bounds.{spaced_got}
use Rattle.checks.proofs.Joins.{passes, stops, block_as}
use Rattle.model.specs.Book.{State, block_of, line, serial_of, shared_by, shown}
use Rattle.model.specs.Calls.{Aligned, AlignedMut, Call, Grant, done, preferred_alignment}
use Rattle.model.specs.Checks.{Check, refusal, brings, own, checks, block_checks, is_aligned, request_for, uses}
use Rattle.model.specs.Effects.{Copies, Does, GivesBack, Obtains, StaysOr, backing_in, capacity_in, copied_into, list_of, put_line, unfrozen, with_bytes, with_claim, with_meaning, written_in}
use Rattle.model.specs.Invariant.{KeptLine, Sits}
use Rattle.model.specs.Runs.{Sound}
use Rattle.model.specs.declared.line.Handle.{Handle}
use Rattle.model.specs.declared.line.Line.{Line}
use Rattle.model.proofs.Checks.{held}
use Rattle.model.proofs.Getting.{obtained, Obtained}
use Rattle.model.proofs.Keyed.{all_find}
use Rattle.model.proofs.Making.{block_got}
use Rattle.ledger.specs.Copying.{Fitting, PlannedCopy, Copying, Copied, aligning, copy_checks, copy_size}
use Rattle.ledger.specs.Entry.{Admitted}
use Rattle.ledger.specs.Giving.{give_fault}
use Rattle.ledger.specs.Making.{asking}
use Rattle.ledger.specs.Moving.{Copyable}
use Rattle.ledger.specs.Results.{Grants}
use Rattle.ledger.specs.declared.copy_plan.CopyPlan.{CopyPlan}
use Rattle.ledger.specs.declared.spot.Spot.{Spot}
use Rattle.ledger.proofs.Edits.{is_line, serial_is, put_is, put_only, over}
use Rattle.ledger.proofs.Groups.{bringing, known_by, used}
use Rattle.ledger.proofs.LineEdits.{stands}
use Rattle.ledger.proofs.Releases.{taken_back, left_own}

-- a block that is too large
pub copy_unsized : (m : Meaning) (l : Line) (c claim k : ℕ) → k ≡ max claim preferred_alignment → (f : Fault) → refusal (size_checks (c * l.kind.width + k)) ≡ Some f → refusal (copy_checks m l c claim) ≡ Some f
copy_unsized m l c claim k ek f q = stops (size_checks (copy_size l c claim)) (grant_check m c (copy_size l c claim)) f (ap (λ z. refusal (size_checks (c * l.kind.width + z))) (sym ek) ∙ q)

-- a copy that was planned is refused as its block is
pub planned_checks : (st : State) (l : Line) (c claim : ℕ) (plan : CopyPlan) → PlannedCopy st l c claim plan → refusal (copy_checks st.meaning l c claim) ≡ refusal (asking st.meaning c (asked plan.layout))
planned_checks st l c claim plan pl = passes (size_checks (copy_size l c claim)) (grant_check st.meaning c (copy_size l c claim)) pl.passed ∙ ap (λ z. refusal (asking st.meaning c z)) (sym pl.asks)

-- a copy by a plan
module _ (m : Meaning) (n : ℕ) (l : Line) (c : ℕ) (plan : CopyPlan) (v : Copying m n l c plan) where
  pub copy_long : 1 ≤ plan.layout.size
  copy_long = let e : plan.layout.size ≡ c * l.kind.width + plan.m = ap (λ (z : Request). z.size) v.asks in omega (arith, v.one)

  module _ (got : Option Block) (m' : Meaning) (o : Obtains (ltb 0 c) m (asked plan.layout) got m') where
    as_size : Obtains (ltb 0 c) m (request_for (c * l.kind.width + plan.m)) got m'
    as_size = subst (λ (z : Request). Obtains (ltb 0 c) m z got m') v.asks o

    got_as : Obtained m m' c (c * l.kind.width + plan.m) got
    got_as = obtained m m' c (c * l.kind.width + plan.m) got v.lawful as_size

    pub copy_spaced : Spaced plan.base plan.m got
    copy_spaced = subst (λ b. Spaced b plan.m got) (sym v.base) (spaced_got (ltb 0 c) m m' (c * l.kind.width + plan.m) plan.m got (omega (arith, v.ends)) v.one (omega arith) as_size)

    elements : l.len * l.kind.width ≤ c * l.kind.width
    elements = mul-le-mul_right l.kind.width v.room

    pub fitting : Fitting plan.base l n plan.m got
    fitting = go got refl
      where
        go : (g : Option Block) → got ≡ g → Fitting plan.base l n plan.m g
        go None e = tt
        go (Some b) e = old (block_of l.backing) refl
          where
            old : (q : Option Block) → block_of l.backing ≡ q → Copyable plan.base l n (round_up (plan.base + b.place) plan.m - plan.base) q
            old None d = tt
            old (Some x) d =
                let inside = got_as.lawful.within b ((got_as.blocks b).1 (inl e)) in (
                  omega (arith, v.low x d, v.base),
                  omega (arith, v.low x d, v.high x d, v.base, v.long),
                  omega (arith, round_up_high (plan.base + b.place) plan.m v.one, round_up_low (plan.base + b.place) plan.m, got_as.sized b e, inside, got_as.fixed.extent, elements, v.long),
                )

    pub left_goes : (n' : ℕ) (f : Fault) → n' ≡ n → give_fault m' n' plan.left ≡ Some f → ⊥
    left_goes n' f e x = taken_back m' n' plan.left f (e ∙ v.long ∙ sym got_as.fixed.extent) (λ b q. (got_as.blocks b).1 (inr (v.left b q))) x

    -- the block that was got is that of the new line
    pub copies_out : (claim : ℕ) (m'' : Meaning) (bytes bytes' : List ℕ) (new : Line) → GivesBack m' plan.left m'' → bytes' ≡ written_in plan.base plan.m got (shown plan.base l bytes) bytes → new ≡ copied_into plan.base l l.mutable claim plan.m l.capacity got
        → Copied m bytes l c plan (block_of new.backing) m'' bytes' × (new ≡ copied_into plan.base l l.mutable claim plan.m l.capacity (block_of new.backing))
    unfolding copied_into
    copies_out claim m'' bytes bytes' new g w e =
        subst (λ b. Copied m bytes l c plan b m'' bytes' × (new ≡ copied_into plan.base l l.mutable claim plan.m l.capacity b)) (sym (ap (λ (z : Line). block_of z.backing) e ∙ block_got got)) (record { between = m'; gets = o; gives = g; writes = w }, e)

-- where the copy of a shared line stands
pub copy_sits : (m : Meaning) (n : ℕ) (bytes : List ℕ) (l : Line) (c claim : ℕ) (plan : CopyPlan) (got : Option Block) (new : Line) (m' : Meaning) (bytes' : List ℕ) → Copying m n l c plan → Copied m bytes l c plan got m' bytes' → new ≡ copied_into plan.base l l.mutable claim plan.m l.capacity got → l.capacity ≡ 0
    → Sits m.base new (block_of new.backing)
unfolding copied_into block_of
copy_sits m n bytes l c claim plan got new m' bytes' v d is bare = subst (λ b. Sits b new (block_of new.backing)) v.base (subst (λ (z : Line). Sits plan.base z (block_of z.backing)) (sym is) (go got refl))
  where
    w : Obtained m d.between c (c * l.kind.width + plan.m) got
    w = obtained m d.between c (c * l.kind.width + plan.m) got v.lawful (subst (λ (r : Request). Obtains (ltb 0 c) m r got d.between) v.asks d.gets)

    go : (g : Option Block) → got ≡ g → Sits plan.base (copied_into plan.base l l.mutable claim plan.m l.capacity g) (block_of (backing_in g))
    go None e = (omega (arith, w.bare e, v.room), bare)
    go (Some b) e =
        let high = round_up_high (plan.base + b.place) plan.m v.one in
        let none : l.capacity * l.kind.width ≡ 0 = ap (λ z. z * l.kind.width) bare ∙ zero-mul l.kind.width in (
          round_up_low (plan.base + b.place) plan.m,
          omega (arith, high, w.sized b e, mul-le-mul_right l.kind.width v.room),
          omega (arith, high, w.sized b e, none),
        )

pub copy_kind : (base : ℕ) (l new : Line) (claim k : ℕ) (got : Option Block) → new ≡ copied_into base l l.mutable claim k l.capacity got → new.kind ≡ l.kind
unfolding copied_into
copy_kind base l new claim k got is = ap (λ (z : Line). z.kind) is

-- a copy that is made mutable has all the room in its block
pub thawed : (base at : ℕ) (l made new : Line) (claim k : ℕ) (got : Option Block) → at ≡ base → made ≡ copied_into base l l.mutable claim k l.capacity got → new ≡ unfrozen (state_with 0 at) made made.backing → new ≡ copied_into base l true claim k (capacity_in base k l.kind.width got) got
unfolding copied_into
thawed base at l made new claim k got ea em en = en ∙ ap (λ b. unfrozen (state_with 0 b) made made.backing) ea ∙ ap (λ (z : Line). unfrozen (state_with 0 base) z z.backing) em ∙ go got
  where
    go : (o : Option Block) → unfrozen (state_with 0 base) (copied_into base l l.mutable claim k l.capacity o) (backing_in o) ≡ copied_into base l true claim k (capacity_in base k l.kind.width o) o
    go None = refl
    go (Some b) = refl

-- a call that stays or copies
module _ (st : State) (h : Handle) (spot : Spot) (a : Admitted st h spot) where
  abbrev l : Line
  l = spot.line

  -- the line may be copied
  pub copying : (c claim : ℕ) (plan : CopyPlan) → PlannedCopy st l c claim plan → l.len ≤ c → Copying st.meaning (length st.bytes) l c plan
  copying c claim plan pl room =
      let lim = a.ready.limits in
      record {
        lawful = a.ready.lawful;
        long = a.ready.long;
        ends = omega (arith, lim.1, lim.3);
        base = pl.base;
        low = λ b q. (subst (Sits st.meaning.base l) q (stands st h spot a).sits).0;
        high = λ b q. let s = subst (Sits st.meaning.base l) q (stands st h spot a).sits in omega (arith, s.1, a.ready.lawful.within b (a.ready.sure.held h.serial l b a.found q));
        left = λ b q. a.ready.sure.held h.serial l b a.found (left_own (shared_by st l) l b (sym pl.left ∙ q));
        one = subst (λ z. 1 ≤ z) (sym pl.m) (omega arith);
        asks = pl.asks ∙ ap (λ z. request_for (c * l.kind.width + z)) (sym pl.m);
        room = room;
      }

  pub state_is : l.mutable ≡ h.mutable
  state_is = ap (λ (z : Line). z.mutable) (is_line st h spot a) ∙ (held st h (known_by st h a.passed)).state

  -- a shared line has no capacity
  pub bare : h.mutable ≡ false → l.capacity ≡ 0
  bare e = (all_find serial_of KeptLine h.serial st.lines l a.ready.sure.each a.found).shared (state_is ∙ e)

  module _ (call : Call) (before : Line → List Check) (wanted : Line → Bool) (c claim : Line → ℕ) (e : brings call ≡ bringing (h ∷ []) false)
      (o : own st call ≡ before (line st h) ++ block_checks st.meaning (wanted (line st h)) (line st h).kind.width (c (line st h)) (max (claim (line st h)) preferred_alignment)) where
    passing : refusal (checks st (length st.bytes) call) ≡ refusal (before l ++ block_checks st.meaning (wanted l) l.kind.width (c l) (max (claim l) preferred_alignment))
    passing = used st h call e a.passed ∙ ap refusal o ∙ ap (λ (z : Line). refusal (before z ++ block_checks st.meaning (wanted z) z.kind.width (c z) (max (claim z) preferred_alignment))) (sym (is_line st h spot a))

    pub stop_before : (f : Fault) → refusal (before l) ≡ Some f → refusal (checks st (length st.bytes) call) ≡ Some f
    stop_before f q = passing ∙ stops (before l) (block_checks st.meaning (wanted l) l.kind.width (c l) (max (claim l) preferred_alignment)) f q

    behind : refusal (before l) ≡ None → refusal (checks st (length st.bytes) call) ≡ refusal (block_checks st.meaning (wanted l) l.kind.width (c l) (max (claim l) preferred_alignment))
    behind q = passing ∙ passes (before l) (block_checks st.meaning (wanted l) l.kind.width (c l) (max (claim l) preferred_alignment)) q

    asked_for : refusal (before l) ≡ None → wanted l ≡ true → refusal (checks st (length st.bytes) call) ≡ refusal (copy_checks st.meaning l (c l) (claim l))
    asked_for q w = behind q ∙ ap refusal (block_as st.meaning (wanted l) l.kind.width (c l) (max (claim l) preferred_alignment) w)

    pub stop_copy : (f : Fault) → refusal (before l) ≡ None → wanted l ≡ true → refusal (copy_checks st.meaning l (c l) (claim l)) ≡ Some f → refusal (checks st (length st.bytes) call) ≡ Some f
    stop_copy f q w x = asked_for q w ∙ x

    module _ (stay : Line → Bool) (f : Line → Line) (mutable : Bool) (capacity : Line → Option Block → ℕ)
        (does : (g : Grant) (st' : State) → StaysOr (stay (line st h)) st (f (line st h)) g st' (Copies st (line st h) (c (line st h)) (claim (line st h)) mutable (capacity (line st h)) g st') → Does st call g st') where
      pub stayed : (new : Line) (ls : List Line) → refusal (before l) ≡ None → wanted l ≡ false → stay l ≡ true → new ≡ f l → new.serial ≡ l.serial → ls ≡ set st.lines spot.place new → Grants st call 0 (over st ls st.meaning st.bytes)
      stayed new ls q w s en es el =
          let none : refusal (block_checks st.meaning (wanted l) l.kind.width (c l) (max (claim l) preferred_alignment)) ≡ None = ap (λ b. refusal (block_checks st.meaning b l.kind.width (c l) (max (claim l) preferred_alignment))) w in
          let is : over st ls st.meaning st.bytes ≡ put_line st (f (line st h)) = put_only st h spot a new ls (es ∙ serial_is st h spot a) el ∙ ap (put_line st) (en ∙ ap f (is_line st h spot a)) in
          let b : stay (line st h) ≡ true = ap stay (sym (is_line st h spot a)) ∙ s in
          let d : StaysOr (stay (line st h)) st (f (line st h)) done (over st ls st.meaning st.bytes) (Copies st (line st h) (c (line st h)) (claim (line st h)) mutable (capacity (line st h)) done (over st ls st.meaning st.bytes)) =
          subst (λ z. StaysOr z st (f (line st h)) done (over st ls st.meaning st.bytes) (Copies st (line st h) (c (line st h)) (claim (line st h)) mutable (capacity (line st h)) done (over st ls st.meaning st.bytes))) (sym b) (refl, is) in
          (done, refl, (behind q ∙ none, does done (over st ls st.meaning st.bytes) d))

      pub copied : (plan : CopyPlan) (got : Option Block) (made new : Line) (ls : List Line) (m' : Meaning) (xs : List ℕ) → PlannedCopy st l (c l) (claim l) plan → refusal (before l) ≡ None → wanted l ≡ true → stay l ≡ false
          → refusal (asking st.meaning (c l) (asked plan.layout)) ≡ None → Copied st.meaning st.bytes l (c l) plan got m' xs
          → made ≡ copied_into plan.base l l.mutable (claim l) plan.m l.capacity got
          → (made ≡ copied_into st.meaning.base l l.mutable (claim l) (max (claim l) preferred_alignment) l.capacity got → new ≡ copied_into st.meaning.base l mutable (claim l) (max (claim l) preferred_alignment) (capacity l got) got)
          → ls ≡ set st.lines spot.place new → Grants st call 0 (over st ls m' xs)
      unfolding copied_into
      copied plan got made new ls m' xs pl q w s x v em put el =
          let mx : ℕ = max (claim l) preferred_alignment in
          let is_new = put (em ∙ ap (λ b. copied_into b l l.mutable (claim l) plan.m l.capacity got) pl.base ∙ ap (λ z. copied_into st.meaning.base l l.mutable (claim l) z l.capacity got) pl.m) in
          let writes : xs ≡ written_in st.meaning.base mx got (shown st.meaning.base l st.bytes) st.bytes = v.writes ∙ ap (λ b. written_in b plan.m got (shown b l st.bytes) st.bytes) pl.base
          ∙ ap (λ z. written_in st.meaning.base z got (shown st.meaning.base l st.bytes) st.bytes) pl.m in
          let serial : new.serial ≡ h.serial = ap (λ (z : Line). z.serial) is_new ∙ serial_is st h spot a in
          let g : Grant = record { serial = 0; blocks = list_of got; copied = true } in
          let d : Copies st l (c l) (claim l) mutable (capacity l) g (over st ls m' xs) = record {
            got = got;
            between = v.between;
            meaning = m';
            gets = subst (λ (r : Request). Obtains (ltb 0 (c l)) st.meaning r got v.between) pl.asks v.gets;
            gives = subst (λ z. GivesBack v.between z m') pl.left v.gives;
            grant = refl;
            is = put_is st h spot a new ls m' xs serial el ∙ ap (λ z. put_line (with_bytes (with_meaning st m') z) new) writes
                ∙ ap (put_line (with_bytes (with_meaning st m') (written_in st.meaning.base mx got (shown st.meaning.base l st.bytes) st.bytes))) is_new;
          } in
          let d' : Copies st (line st h) (c (line st h)) (claim (line st h)) mutable (capacity (line st h)) g (over st ls m' xs) = subst (λ (z : Line). Copies st z (c z) (claim z) mutable (capacity z) g (over st ls m' xs)) (is_line st h spot a) d in
          let b : stay (line st h) ≡ false = ap stay (sym (is_line st h spot a)) ∙ s in (
            g,
            refl,
            (
              asked_for q w ∙ planned_checks st l (c l) (claim l) plan pl ∙ x,
              does g (over st ls m' xs)
                  (subst (λ z. StaysOr z st (f (line st h)) g (over st ls m' xs) (Copies st (line st h) (c (line st h)) (claim (line st h)) mutable (capacity (line st h)) g (over st ls m' xs))) (sym b) d'),
            ),
          )

  -- another claim, for a mutable handle and a shared one
  module _ (claim : ℕ) where
    brings_aligning : brings (aligning h claim) ≡ bringing (h ∷ []) false
    brings_aligning = go h.mutable refl
      where
        go : (b : Bool) → h.mutable ≡ b → brings (cond b (AlignedMut h claim) (Aligned h claim)) ≡ bringing (h ∷ []) false
        go true q = ap (uses h) q
        go false q = ap (λ z. uses h (not z)) q

    pub sound_aligning : IsAlignment claim → Sound (aligning h claim)
    sound_aligning f = go h.mutable
      where
        go : (b : Bool) → Sound (cond b (AlignedMut h claim) (Aligned h claim))
        go true = f
        go false = f

    room_mutable : h.mutable ≡ true → max (line st h).len (line st h).capacity ≡ (line st h).capacity
    room_mutable e = subst (λ (z : Line). max z.len z.capacity ≡ z.capacity) (is_line st h spot a) (let within = (stands st h spot a).within (state_is ∙ e) in omega (arith, within))

    room_shared : h.mutable ≡ false → max (line st h).len (line st h).capacity ≡ (line st h).len
    room_shared e = subst (λ (z : Line). max z.len z.capacity ≡ z.len) (is_line st h spot a) (omega (arith, bare e))

    own_aligning : own st (aligning h claim) ≡ below_kind (line st h).kind claim ++ block_checks st.meaning (not (is_aligned (line st h) claim)) (line st h).kind.width (max (line st h).len (line st h).capacity) (max claim preferred_alignment)
    own_aligning = go h.mutable refl
      where
        go : (b : Bool) → h.mutable ≡ b
            → own st (cond b (AlignedMut h claim) (Aligned h claim)) ≡ below_kind (line st h).kind claim ++ block_checks st.meaning (not (is_aligned (line st h) claim)) (line st h).kind.width (max (line st h).len (line st h).capacity) (max claim preferred_alignment)
        go true q = ap (λ n. below_kind (line st h).kind claim ++ block_checks st.meaning (not (is_aligned (line st h) claim)) (line st h).kind.width n (max claim preferred_alignment)) (sym (room_mutable q))
        go false q = ap (λ n. below_kind (line st h).kind claim ++ block_checks st.meaning (not (is_aligned (line st h) claim)) (line st h).kind.width n (max claim preferred_alignment)) (sym (room_shared q))

    does_aligning : (g : Grant) (st' : State)
        → StaysOr (is_aligned (line st h) claim) st (with_claim (line st h) claim) g st' (Copies st (line st h) (max (line st h).len (line st h).capacity) claim h.mutable (λ got. (line st h).capacity) g st')
        → Does st (aligning h claim) g st'
    does_aligning g st' = go h.mutable refl
      where
        none : h.mutable ≡ false → (line st h).capacity ≡ 0
        none e = ap (λ (z : Line). z.capacity) (sym (is_line st h spot a)) ∙ bare e

        go : (b : Bool) → h.mutable ≡ b
            → StaysOr (is_aligned (line st h) claim) st (with_claim (line st h) claim) g st' (Copies st (line st h) (max (line st h).len (line st h).capacity) claim b (λ got. (line st h).capacity) g st')
            → Does st (cond b (AlignedMut h claim) (Aligned h claim)) g st'
        go true q d = subst (λ n. StaysOr (is_aligned (line st h) claim) st (with_claim (line st h) claim) g st' (Copies st (line st h) n claim true (λ got. (line st h).capacity) g st')) (room_mutable q) d
        go false q d =
            subst (λ n. StaysOr (is_aligned (line st h) claim) st (with_claim (line st h) claim) g st' (Copies st (line st h) (line st h).len claim false (λ got. n) g st')) (none q)
            (subst (λ n. StaysOr (is_aligned (line st h) claim) st (with_claim (line st h) claim) g st' (Copies st (line st h) n claim false (λ got. (line st h).capacity) g st')) (room_shared q) d)

    pub align_stops : (f : Fault) → refusal (below_kind l.kind claim) ≡ Some f → refusal (checks st (length st.bytes) (aligning h claim)) ≡ Some f
    align_stops = stop_before (aligning h claim) (λ z. below_kind z.kind claim) (λ z. not (is_aligned z claim)) (λ z. max z.len z.capacity) (λ z. claim) brings_aligning own_aligning

    pub align_stops_copy : (f : Fault) (count : ℕ) → count ≡ max l.len l.capacity → refusal (below_kind l.kind claim) ≡ None → is_aligned l claim ≡ false → refusal (copy_checks st.meaning l count claim) ≡ Some f → refusal (checks st (length st.bytes) (aligning h claim)) ≡ Some f
    align_stops_copy f count ec q w x =
        stop_copy (aligning h claim) (λ z. below_kind z.kind claim) (λ z. not (is_aligned z claim)) (λ z. max z.len z.capacity) (λ z. claim) brings_aligning own_aligning f q (ap not w) (ap (λ n. refusal (copy_checks st.meaning l n claim)) (sym ec) ∙ x)

    pub align_stays : (new : Line) (ls : List Line) → refusal (below_kind l.kind claim) ≡ None → is_aligned l claim ≡ true → new ≡ with_claim l claim → ls ≡ set st.lines spot.place new → Grants st (aligning h claim) 0 (over st ls st.meaning st.bytes)
    align_stays new ls q w e el =
        stayed (aligning h claim) (λ z. below_kind z.kind claim) (λ z. not (is_aligned z claim)) (λ z. max z.len z.capacity) (λ z. claim) brings_aligning own_aligning
        (λ z. is_aligned z claim) (λ z. with_claim z claim) h.mutable (λ z got. z.capacity) does_aligning new ls q (ap not w) w e (ap (λ (z : Line). z.serial) e) el

    pub align_copied : (count : ℕ) (plan : CopyPlan) (got : Option Block) (new : Line) (ls : List Line) (m' : Meaning) (xs : List ℕ) → count ≡ max l.len l.capacity → PlannedCopy st l count claim plan → refusal (below_kind l.kind claim) ≡ None → is_aligned l claim ≡ false
        → refusal (asking st.meaning count (asked plan.layout)) ≡ None → Copied st.meaning st.bytes l count plan got m' xs → new ≡ copied_into plan.base l l.mutable claim plan.m l.capacity got → ls ≡ set st.lines spot.place new → Grants st (aligning h claim) 0 (over st ls m' xs)
    align_copied count plan got new ls m' xs ec pl q w x v en el =
        copied (aligning h claim) (λ z. below_kind z.kind claim) (λ z. not (is_aligned z claim)) (λ z. max z.len z.capacity) (λ z. claim) brings_aligning own_aligning
        (λ z. is_aligned z claim) (λ z. with_claim z claim) h.mutable (λ z got. z.capacity) does_aligning
        plan got new new ls m' xs (subst (λ n. PlannedCopy st l n claim plan) ec pl) q (ap not w) w (ap (λ n. refusal (asking st.meaning n (asked plan.layout))) (sym ec) ∙ x) (subst (λ n. Copied st.meaning st.bytes l n plan got m' xs) ec v) en
        (λ e. e ∙ ap (λ b. copied_into st.meaning.base l b claim (max claim preferred_alignment) l.capacity got) state_is) el
