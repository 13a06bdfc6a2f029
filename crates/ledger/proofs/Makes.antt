-- From what a making did to what the definitions say of it: one argument for all makings.
use Rattle.std.proofs.Common.{◌≡◌, ℕ, ◌+◌, ◌*◌, ◌^◌, ◌≤◌, max, Bool, true, ltb, List, [], ◌∷◌, ◌++◌, length, Some, None, Option, sym, refl, ap, ◌∙◌, subst, inl, arith, pow_mono}
use mathlib.Core.Logic.{∥∥₁_elim}
use native.Mathlib.Bridge.{le_prop}
use Rattle.std.specs.List.{flat_map as JoinedBy, AllByRecursion}
use Rattle.allocation.specs.Alignments.{IsAlignment}
use Rattle.allocation.specs.Asked.{asked}
use Rattle.allocation.specs.Meaning.{Meaning}
use Rattle.allocation.specs.declared.block.Block.{Block}
use Rattle.allocation.specs.declared.block.Request.{Request}
use Rattle.allocation.specs.declared.fault.Fault.{Fault}
use Rattle.allocation.proofs.Rounding.{round_up_high}
use Rattle.checks.specs.Groups.{below_kind, grant_check}
use Rattle.sizes.specs.Numbers.{Spaced, state_with}
use Rattle.sizes.proofs.Bounds.{spaced_got}
use Rattle.checks.proofs.Joins.{passes, stops}
use Rattle.model.specs.Book.{State}
use Rattle.model.specs.Calls.{Call, CopyFrom, EmptyShared, Grant, giving}
use Rattle.model.specs.Checks.{Check, refusal, brings, own, checks, request_for}
use Rattle.model.specs.Effects.{add_line, with_bytes, with_meaning, Obtains, Made, Does, made, made_as, list_of, unbacked_line, written_in}
use Rattle.model.specs.Patterns.{joined, Even}
use Rattle.model.specs.declared.line.Kind.{Kind}
use Rattle.model.specs.declared.line.Line.{Line}
use Rattle.model.proofs.Alignments.{alignment_one, max_one, width_one}
use Rattle.model.proofs.Getting.{obtained}
use Rattle.ledger.specs.Entry.{Opened, opening}
use Rattle.ledger.specs.Making.{asking, Fair, plan_checks, Planned, Writable}
use Rattle.ledger.specs.Registered.{Added}
use Rattle.ledger.specs.Results.{Grants}
use Rattle.ledger.specs.declared.plan.Plan.{Plan}
use Rattle.ledger.proofs.Edits.{add_is, over_next}
use Rattle.ledger.proofs.Groups.{bringing, opened}

-- patterns one after another
pub joined_bytes : (ps : List (List ℕ)) → JoinedBy (λ p. p) ps ≡ joined ps
unfolding joined
joined_bytes [] = refl
joined_bytes (p ∷ ps) = ap (λ xs. p ++ xs) (joined_bytes ps)

-- all of one width
pub even_all : (w : ℕ) (ps : List (List ℕ)) → AllByRecursion (λ p. length p ≡ w) ps → Even w ps
unfolding Even
even_all w [] e = tt
even_all w (p ∷ ps) e = (e.0, even_all w ps e.1)

-- alignments are small
pub alignment_high : {a : ℕ} → IsAlignment a → a ≤ 65536
alignment_high {a} (e, h, q) = let k : 2 ^ e ≤ 2 ^ 16 = pow_mono h in omega (arith, q)

-- what the terms of a making give
module _ {k : Kind} {claim preferred : ℕ} (fair : ∥ Fair k claim preferred ∥₁) where
  pub claims_one : 1 ≤ claim
  claims_one = ∥∥₁_elim fair le_prop (λ f. alignment_one f.claims)

  pub wide_terms : 1 ≤ k.width
  wide_terms = ∥∥₁_elim fair le_prop (λ f. width_one f.kind.width)

pub max_high : (a b n : ℕ) → a ≤ n → b ≤ n → max a b ≤ n
max_high a b n h k = omega arith

module _ (st : State) (k : Kind) (c claim preferred : ℕ) (plan : Plan) (pl : Planned st k c claim preferred plan) where
  abbrev size : ℕ
  size = c * k.width + max claim preferred

  -- what the allocator is asked
  pub asks_long : 1 ≤ claim → 1 ≤ plan.layout.size
  asks_long h = let e : plan.layout.size ≡ size = ap (λ (r : Request). r.size) pl.asks in let m : 1 ≤ max claim preferred = max_one claim preferred h in omega arith

  pub gets_size : (got : Option Block) (m' : Meaning) → Obtains (ltb 0 c) st.meaning (asked plan.layout) got m' → Obtains (ltb 0 c) st.meaning (request_for size) got m'
  gets_size got m' o = subst (λ (r : Request). Obtains (ltb 0 c) st.meaning r got m') pl.asks o

  pub spaced : 1 ≤ claim → (got : Option Block) (m' : Meaning) → Obtains (ltb 0 c) st.meaning (asked plan.layout) got m' → Spaced plan.base plan.m got
  spaced h got m' o =
      let l = pl.opened.ready.limits in
      let one : 1 ≤ max claim preferred = max_one claim preferred h in
      let s : Spaced st.meaning.base (max claim preferred) got = spaced_got (ltb 0 c) st.meaning m' size (max claim preferred) got (omega (arith, l.1, l.3)) one (omega arith) (gets_size got m' o) in
      subst (λ b. Spaced b plan.m got) (sym pl.base) (subst (λ n. Spaced st.meaning.base n got) (sym pl.m) s)

  -- n bytes for the elements fit what was got
  pub writable : 1 ≤ claim → (got : Option Block) (m' : Meaning) (n extent : ℕ) → n ≡ c * k.width → extent ≡ length st.bytes → Obtains (ltb 0 c) st.meaning (asked plan.layout) got m' → Writable plan.base plan.m got n extent
  writable h got m' n extent en ee o = go got refl (spaced h got m' o)
    where
      go : (g : Option Block) → got ≡ g → Spaced plan.base plan.m g → Writable plan.base plan.m g n extent
      go None e s = tt
      go (Some b) e s =
          let w = obtained st.meaning m' c size got pl.opened.ready.lawful (gets_size got m' o) in
          let inside = w.lawful.within b ((w.blocks b).1 (inl e)) in
          omega (arith, round_up_high (plan.base + b.place) plan.m s.0, w.sized b e, inside, w.fixed.extent, pl.base, pl.m, pl.opened.ready.long)

  module _ (call : Call) (e : brings call ≡ bringing [] true) (o : own st call ≡ plan_checks k c claim (max claim preferred) ++ grant_check st.meaning c size) where
    passing : refusal (checks st (length st.bytes) call) ≡ refusal (asking st.meaning c (asked plan.layout))
    passing = opened st call e pl.opened.passed ∙ ap refusal o ∙ passes (plan_checks k c claim (max claim preferred)) (grant_check st.meaning c size) pl.passed ∙ ap (λ (r : Request). refusal (asking st.meaning c r)) (sym pl.asks)

    pub ungranted : (f : Fault) → refusal (asking st.meaning c (asked plan.layout)) ≡ Some f → refusal (checks st (length st.bytes) call) ≡ Some f
    ungranted f q = passing ∙ q

    pub makes : (mutable : Bool) (n : ℕ) (writes : Option Block → List ℕ) → ((g : Grant) (st' : State) → Made st k mutable c claim (max claim preferred) n writes g st' → Does st call g st')
        → (got : Option Block) (m' : Meaning) (new : Line) (nx : ℕ) (ls : List Line) (xs : List ℕ) → refusal (asking st.meaning c (asked plan.layout)) ≡ None → Obtains (ltb 0 c) st.meaning (asked plan.layout) got m'
        → new ≡ made_as mutable (made (state_with plan.serial plan.base) k claim plan.m n got) → Added st.next st.lines new nx ls → xs ≡ writes got
        → Grants st call plan.serial (over_next st nx ls m' xs)
    makes mutable n writes does got m' new nx ls xs free gets el en ex =
        let s : plan.serial ≡ st.next = pl.opened.free.is_next in
        let is_new : new ≡ made_as mutable (made st k claim (max claim preferred) n got) = el
        ∙ ap (λ z. made_as mutable (made (state_with z plan.base) k claim plan.m n got)) s
        ∙ ap (λ z. made_as mutable (made (state_with st.next z) k claim plan.m n got)) pl.base
        ∙ ap (λ z. made_as mutable (made st k claim z n got)) pl.m in
        let is : over_next st nx ls m' xs ≡ add_line (with_bytes (with_meaning st m') (writes got)) (made_as mutable (made st k claim (max claim preferred) n got)) =
        add_is st new nx ls m' xs en ∙ ap (λ z. add_line (with_bytes (with_meaning st m') z) new) ex ∙ ap (add_line (with_bytes (with_meaning st m') (writes got))) is_new in (
          giving plan.serial (list_of got),
          refl,
          (
            passing ∙ free,
            does (giving plan.serial (list_of got)) (over_next st nx ls m' xs) (record {
              got = got;
              meaning = m';
              gets = gets_size got m' gets;
              grant = ap (λ z. giving z (list_of got)) s;
              is = is;
            }),
          ),
        )

pub unplanned : (st : State) (k : Kind) (c claim m : ℕ) (call : Call) (f : Fault) (rest : List Check) → brings call ≡ bringing [] true → own st call ≡ plan_checks k c claim m ++ rest → refusal (opening st ++ plan_checks k c claim m) ≡ Some f → refusal (checks st (length st.bytes) call) ≡ Some f
unplanned st k c claim m call f rest e o q = go (refusal (opening st)) refl
  where
    all : refusal (checks st (length st.bytes) call) ≡ refusal (opening st ++ (plan_checks k c claim m ++ rest))
    all = ap (λ b. refusal (Rattle.ledger.proofs.Groups.behind st b (own st call))) e ∙ ap (λ cs. refusal (opening st ++ cs)) o

    go : (r : Option Fault) → refusal (opening st) ≡ r → refusal (checks st (length st.bytes) call) ≡ Some f
    go None r = all ∙ passes (opening st) (plan_checks k c claim m ++ rest) r ∙ stops (plan_checks k c claim m) rest f (sym (passes (opening st) (plan_checks k c claim m) r) ∙ q)
    go (Some x) r = all ∙ stops (opening st) (plan_checks k c claim m ++ rest) x r ∙ sym (stops (opening st) (plan_checks k c claim m) x r) ∙ q

-- a making from values: as many patterns as elements
module _ (st : State) (k : Kind) (mutable : Bool) (n claim preferred : ℕ) (vs : List (List ℕ)) (e : length vs ≡ n) where
  abbrev call : Call
  call = CopyFrom k mutable vs claim preferred

  own_copy : own st call ≡ plan_checks k n claim (max claim preferred) ++ grant_check st.meaning n (n * k.width + max claim preferred)
  own_copy = ap (λ z. plan_checks k z claim (max claim preferred) ++ grant_check st.meaning z (z * k.width + max claim preferred)) e

  pub copy_unplanned : (f : Fault) → refusal (opening st ++ plan_checks k n claim (max claim preferred)) ≡ Some f → refusal (checks st (length st.bytes) call) ≡ Some f
  copy_unplanned f q = unplanned st k n claim (max claim preferred) call f (grant_check st.meaning n (n * k.width + max claim preferred)) refl own_copy q

  module _ (plan : Plan) (pl : Planned st k n claim preferred plan) where
    pub copy_ungranted : (f : Fault) → refusal (asking st.meaning n (asked plan.layout)) ≡ Some f → refusal (checks st (length st.bytes) call) ≡ Some f
    copy_ungranted f q = ungranted st k n claim preferred plan pl call refl own_copy f q

    pub copy_made : (got : Option Block) (m' : Meaning) (new : Line) (nx : ℕ) (ls : List Line) (xs : List ℕ) → refusal (asking st.meaning n (asked plan.layout)) ≡ None → Obtains (ltb 0 n) st.meaning (asked plan.layout) got m'
        → new ≡ made_as mutable (made (state_with plan.serial plan.base) k claim plan.m n got) → Added st.next st.lines new nx ls → xs ≡ written_in plan.base plan.m got (joined vs) st.bytes
        → Grants st call plan.serial (over_next st nx ls m' xs)
    copy_made got m' new nx ls xs free gets el en ex =
        makes st k n claim preferred plan pl call refl own_copy mutable n (λ got. written_in st.meaning.base (max claim preferred) got (joined vs) st.bytes)
        (λ g st' d. subst (λ z. Made st k mutable z claim (max claim preferred) z (λ got. written_in st.meaning.base (max claim preferred) got (joined vs) st.bytes) g st') (sym e) d)
        got m' new nx ls xs free gets el en
        (ex ∙ ap (λ b. written_in b plan.m got (joined vs) st.bytes) pl.base ∙ ap (λ m. written_in st.meaning.base m got (joined vs) st.bytes) pl.m)

-- a shared handle without a backing
pub empty_made : (st : State) (k : Kind) (claim serial : ℕ) → Opened st serial → (nx : ℕ) (ls : List Line) (new : Line) → refusal (below_kind k claim) ≡ None → new ≡ unbacked_line serial k claim → Added st.next st.lines new nx ls → Grants st (EmptyShared k claim) serial (over_next st nx ls st.meaning st.bytes)
unfolding with_bytes with_meaning
empty_made st k claim serial o nx ls new b e q = (
  giving serial [],
  refl,
  (opened st (EmptyShared k claim) refl o.passed ∙ b, (ap (λ z. giving z []) o.free.is_next, add_is st new nx ls st.meaning st.bytes q ∙ ap (add_line st) (e ∙ ap (λ z. unbacked_line z k claim) o.free.is_next))),
)
