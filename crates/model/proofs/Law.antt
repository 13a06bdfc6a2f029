-- The law over runs, part by part.
use Rattle.std.proofs.Common.{◌≡◌, ℕ, ◌+◌, ◌-◌, ◌*◌, ◌%◌, ◌^◌, ◌<◌, ◌≤◌, max, Bool, true, false, cond, not, ◌&&◌, ◌||◌, eqb, ltb, leb, List, [], ◌∷◌, length, Some, None, Option, sym, refl, ap, ◌∙◌, subst, inl, inr, ⊎_elim, zero-mul, arith}
use native.Mathlib.Nat.{mul-mod_left}
use Rattle.std.proofs.lemmas.Bool.{le-ltb, lt-leb, cases_lt, eq-eqb, not-true, and_parts, ltb-false}
use Rattle.region.specs.Bytes.{equal, part}
use Rattle.region.proofs.Parts.{part_none}
use Rattle.region.proofs.Writes.{equal_decides}
use Rattle.allocation.specs.declared.block.Block.{Block}
use Rattle.allocation.specs.declared.fault.Fault.{Fault}
use Rattle.allocation.specs.declared.fault.Fault.TheVariants.{Alone}
use Rattle.allocation.specs.declared.fault.Refusal.TheVariants.{BackingShared, NoHandleLeft, PartialElement, RegionDiffers, UnknownHandle}
use Rattle.allocation.specs.Alignments.{greatest_size}
use Rattle.allocation.specs.Meaning.{Among}
use Rattle.allocation.specs.Refusals.{number, refusal_of}
use Rattle.model.specs.declared.line.Handle.{Handle}
use Rattle.model.specs.declared.line.Line.{Line}
use Rattle.model.specs.Book.{State, block_of, known, line, line_limit, look_up, serial_limit, serial_of, shared_by, shown}
use Rattle.model.specs.Calls.{read, try_into_mut, with_capacity_in}
use Rattle.model.specs.Checks.{checks, full, refusal, request_for}
use Rattle.model.specs.Keyed.{find}
use Rattle.model.specs.Laws.{AloneLaw, BlocksLaw, FrameLaw, FreshLaw, GrantLaw, HasOther, Kept, LinesLaw, PartsLaw, PlaceLaw, RoomLaw, RowsLaw, SharingLaw, Shows, StoreLaw, WritesLaw, asked_bytes}
use Rattle.model.specs.Patterns.{Even, joined}
use Rattle.model.specs.Pedigree.{Row, Table}
use Rattle.model.specs.Reads.{fails, place_on, same, says}
use Rattle.model.specs.Runs.{Store}
use Rattle.model.proofs.Alignments.{valid_for}
use Rattle.model.proofs.Checks.{Held, Passed, Stopped, held, passed, past, stopped, unrefused}
use Rattle.model.proofs.Empties.{one_numbers}
use Rattle.model.proofs.Faults.{faults_law}
use Rattle.model.proofs.Fitting.{shown_is, shown_none, sits_off, sits_on}
use Rattle.model.proofs.Frame.{framed}
use Rattle.model.proofs.Fresh.{clear_of}
use Rattle.model.proofs.Invariant.{Fits, Inv}
use Rattle.model.proofs.Keeps.{fit, inside, no_other, some_other}
use Rattle.model.proofs.Keyed.{find_cons, rising_high}
use Rattle.model.proofs.Lines.{kept_at}
use Rattle.model.proofs.Patterns.{joined_one_to_one, length_joined}
use Rattle.model.proofs.Runs.{Holds, InvOf, holds_in, inv_at, reached_holds}
use Rattle.model.proofs.Shapes.{never}
use Rattle.model.proofs.Writes.{does_stays}

-- a part lies in the region
pub placed : (st : State) (tb : Table) → Inv st tb → (h : Handle) (l : Line) {r : Row} → l.kind ≡ h.kind → look_up h.serial st ≡ Some l → Fits st.meaning.base st.bytes l r → (o : Option Block) → block_of l.backing ≡ o
    → (place_on (block_of l.backing) st.meaning.base l + l.len * h.kind.width ≤ length st.bytes) × (shown st.meaning.base l st.bytes ≡ part (place_on (block_of l.backing) st.meaning.base l) (l.len * h.kind.width) st.bytes)
placed st tb inv h l k e f None b =
    let z = sits_off st.meaning.base l b f.sits in
    let none : l.len * h.kind.width ≡ 0 = ap (λ n. n * h.kind.width) z.0 ∙ zero-mul h.kind.width in
    let place : place_on (block_of l.backing) st.meaning.base l ≡ 0 = ap (λ o. place_on o st.meaning.base l) b in
    (omega (arith, none, place), shown_none st.meaning.base l st.bytes b ∙ sym (ap (λ n. part (place_on (block_of l.backing) st.meaning.base l) n st.bytes) none ∙ part_none _ st.bytes))
placed st tb inv h l k e f (Some B) b =
    let z = sits_on st.meaning.base l B b f.sits in
    let place : place_on (block_of l.backing) st.meaning.base l ≡ l.start - st.meaning.base = ap (λ o. place_on o st.meaning.base l) b in
    let wide : l.len * h.kind.width ≡ l.len * l.kind.width = ap (λ z. l.len * z.width) (sym k) in
    (omega (arith, place, wide, z.0, z.1, inside st tb inv h.serial l e B b), shown_is st.meaning.base l st.bytes B b ∙ (λ i. part (sym place i) (sym wide i) st.bytes))

-- what a shown part is
record Seen (h : Handle) (r : Row) (xs : List ℕ) : Type 0 where
  spelled : xs ≡ joined r.list
  even : Even h.kind.width r.list
  wide : 1 ≤ h.kind.width

seen : (s : Store) → InvOf s → (extent : ℕ) (h : Handle) (r : Row) (xs : List ℕ) → Shows s extent h r xs → Seen h r xs
seen s inv extent h r xs w =
    let k = held s.state h (passed (checks s.state extent (read h)) w.granted).1.1.0 in
    let f = fit s.state s.table inv h.serial (line s.state h) r k.at w.row in
    record {
      spelled = w.bytes ∙ sym f.spells;
      even = subst (λ z. Even z.width r.list) k.kind f.even;
      wide = subst (λ z. 1 ≤ z.width) k.kind f.wide;
    }

whole : (w : ℕ) (ps : List (List ℕ)) (xs : List ℕ) → 1 ≤ w → Even w ps → xs ≡ joined ps → not (eqb (length xs % w) 0) ≡ false
whole w ps xs h e q =
    let z : length xs ≡ length ps * w = ap length q ∙ length_joined w ps e in
    let m : length xs % w ≡ 0 = ap (λ n. n % w) z ∙ mul-mod_left (length ps) w in
    rw (eq-eqb (length xs % w) 0 m) refl

pub parts_law : PartsLaw
parts_law w v rw' rv s t i j m n g h p q xs ys x y kind =
    let a = seen s (inv_at w rw' s i) m g p xs x in
    let b = seen t (inv_at v rv t j) n h q ys y in
    let eb : Even g.kind.width q.list = subst (λ z. Even z.width q.list) (sym kind) b.even in
    let lists : xs ≡ ys → p.list ≡ q.list = λ e. joined_one_to_one g.kind.width p.list q.list a.wide a.even eb (sym a.spelled ∙ e ∙ b.spelled) in
    let parts : p.list ≡ q.list → xs ≡ ys = λ e. a.spelled ∙ ap joined e ∙ sym b.spelled in
    let u = whole g.kind.width p.list xs a.wide a.even a.spelled in
    let o = whole g.kind.width q.list ys a.wide eb b.spelled in
    let verdict : same g.kind xs ys ≡ says (equal xs ys) = λ k. cond (u k || o k) (fails (Alone PartialElement)) (says (equal xs ys)) in
    let decides = equal_decides xs ys in
    (a.spelled, b.spelled, (lists, parts), verdict, (λ e. lists (decides.0 (let z : equal xs ys ≡ true = cc in z)), λ e. verdict ∙ ap says (decides.1 (parts e))))

rows_law : RowsLaw
rows_law w r s i n =
    let inv = inv_at w r s i in
    ((λ (l, e). let t = inv.spelled n l e in (t.0, t.1), λ (x, e). inv.live n x e), λ l x e q. let f = fit s.state s.table inv n l x e q in record { kind = f.kind; len = f.len; block = f.block })

lines_law : LinesLaw
lines_law w r s i = (holds.1.1.few, λ n l e. kept n l e)
  where
    holds : Holds s
    holds = holds_in w (reached_holds w r) s i

    kept : (n : ℕ) (l : Line) → look_up n s.state ≡ Some l → Kept s.state.meaning.base l
    kept n l e =
        let k = kept_at s.state holds.1 n l e in
        let f = (holds.0.spelled n l e).2 in
        let base = s.state.meaning.base in
        record {
          serial_low = k.serial;
          serial_high = omega (arith, rising_high serial_of 0 s.state.next n s.state.lines l holds.0.order e, holds.1.1.unspent);
          kind = k.kind;
          alignment = k.alignment;
          start = k.start;
          claim = k.align;
          low = λ B b. (sits_on base l B b f.sits).0;
          high = λ B b. (sits_on base l B b f.sits).1;
          room = λ B b. (sits_on base l B b f.sits).2;
          bare = λ b. sits_off base l b f.sits;
          ample = f.within;
          shared = k.shared;
        }

alone_law : AloneLaw
alone_law w r s i m n k l d e f one =
    let h = holds_in w (reached_holds w r) s i in
    ⊎_elim (λ (b, x, y). h.0.alone m n k l b d e f x y) (λ (x, y). h.2.alone m n k l d e f x y) (one_numbers k.backing l.backing one)

blocks_law : BlocksLaw
blocks_law w r s i B =
    let inv = inv_at w r s i in (
      λ a. let u = inv.used B a in let t = inv.spelled u.0 u.1 u.2 in (u.0, t.0, t.1, t.2.block ∙ u.3),
      λ (n, x, e, b). let l = inv.live n x e in
          let f = fit s.state s.table inv n l.0 x l.1 e in
          inv.held n l.0 B l.1 (sym f.block ∙ b),
    )

room_law : RoomLaw
room_law w r s i none_live n k c f st' sound why (e, q) = ⊎_elim (λ (a : st.meaning.room < size). a) (λ a. absurd (granted_then a)) (cases_lt st.meaning.room size)
  where
    st : State
    st = s.state

    size : ℕ
    size = c * k.width + max k.align 256

    inv : InvOf s
    inv = inv_at w r s i

    vacant : (B : Block) → Among B st.meaning.live → ⊥
    vacant B a = let u = inv.used B a in never (none_live u.0) u.2

    not_granted_number : {f' : Fault} → f' ≡ f → number (refusal_of f') ≡ 9
    not_granted_number p = ap (λ z. number (refusal_of z)) p ∙ ap number why

    -- the layout was within the limit, and the rule said no
    stops : Stopped f (checks st n (with_capacity_in k c)) → (size ≤ greatest_size) × (st.meaning.grants (request_for size) ≡ false)
    stops (inl p) = absurd (omega (arith, not_granted_number p.1))
    stops (inr (_, inl p)) = absurd (omega (arith, not_granted_number p.1))
    stops (inr (_, inr (_, inl p))) = absurd (omega (arith, not_granted_number p.1))
    stops (inr (_, inr (_, inr (_, inl p)))) = absurd (omega (arith, not_granted_number p.1))
    stops (inr (_, inr (_, inr (_, inr (_, inl p))))) = absurd (omega (arith, not_granted_number p.1))
    stops (inr (_, inr (_, inr (_, inr (_, inr (_, inl p)))))) = absurd (omega (arith, not_granted_number p.1))
    stops (inr (_, inr (_, inr (_, inr (_, inr (_, inr (small, inl p))))))) = (ltb-false greatest_size size small, not-true (st.meaning.grants (request_for size)) (and_parts (ltb 0 c) (not (st.meaning.grants (request_for size))) p.0).1)
    stops (inr (_, inr (_, inr (_, inr (_, inr (_, inr (_, inr (_, x)))))))) = absurd x

    refuses : (size ≤ greatest_size) × (st.meaning.grants (request_for size) ≡ false)
    refuses = stops (stopped f (checks st n (with_capacity_in k c)) e)

    granted_then : size ≤ st.meaning.room → ⊥
    granted_then a = mathlib.Core.Bool.true≢false (sym (inv.law.first vacant (request_for size) (valid_for size refuses.0) (omega arith) (omega arith)) ∙ refuses.1)

frame_law : FrameLaw
frame_law w r s i n c a st' sound q t l e u = let f = holds_in w (reached_holds w r) s i in framed s.state s.table f.0 f.1 n c a st' sound q t l e u

writes_law : WritesLaw
writes_law w r s i n c g st' sound (e, d) j off own = does_stays j s.state s.table (inv_at w r s i) n c g st' sound (passed (checks s.state n c) e) d off own

place_law : PlaceLaw
place_law w r s i n h ok =
    let inv = inv_at w r s i in
    let k = held s.state h (passed (checks s.state n (read h)) ok).1.1.0 in
    let f = (inv.spelled h.serial (line s.state h) k.at).2 in
    placed s.state s.table inv h (line s.state h) k.kind k.at f (block_of (line s.state h).backing) refl

fresh_law : FreshLaw
fresh_law w r s i mark n c g st' (e, d) b d' x y = clear_of s.state (inv_at w r s i).law mark c g st' d b d' x y

sharing_law : SharingLaw
sharing_law w r s i n h ok shared = (λ e. other (shared_by st l) refl (sym only ∙ e), λ o. only ∙ refuses (shared_by st l) refl o)
  where
    st : State
    st = s.state

    inv : InvOf s
    inv = inv_at w r s i

    ps : Passed (checks st n (read h))
    ps = passed (checks st n (read h)) ok

    l : Line
    l = line st h

    k : Held st h
    k = held st h ps.1.1.0

    -- only the last check is left
    only : refusal (checks st n (try_into_mut h)) ≡ refusal ((shared_by st l, Alone BackingShared) ∷ [])
    only = past ((not (eqb n st.meaning.extent), Alone RegionDiffers) ∷ (not (not h.mutable), Alone UnknownHandle) ∷ (not (known st h), Alone UnknownHandle) ∷ (false && full st, Alone NoHandleLeft) ∷ [])
        ((shared_by st l, Alone BackingShared) ∷ []) (ps.0, (ap (λ b. not (not b)) shared, (ps.1.1.0, (refl, tt))))

    other : (b : Bool) → shared_by st l ≡ b → cond b (Some (Alone BackingShared)) None ≡ Some (Alone BackingShared) → HasOther st l
    other true q e = some_other st l.serial l refl inv.order q
    other false q e = absurd (never refl e)

    refuses : (b : Bool) → shared_by st l ≡ b → HasOther st l → cond b (Some (Alone BackingShared)) None ≡ Some (Alone BackingShared)
    refuses true q o = refl
    refuses false q o = absurd (mathlib.Core.Bool.true≢false (sym o.4 ∙ no_other st l q o.0 o.1 o.2 o.3))

nothing_live : (ls : List Line) → ((t : ℕ) → find serial_of t ls ≡ None) → ls ≡ []
nothing_live [] e = refl
nothing_live (l ∷ ls) e = absurd (never (e l.serial) (find_cons serial_of l ls))

grant_law : GrantLaw
grant_law w r s i none_live n k c sound long left room small =
    unrefused (checks st n (with_capacity_in k c))
    (ap not (eq-eqb n st.meaning.extent long), (refl, (not_full, (le-ltb k.align k.align (omega arith), (lt-leb (2 ^ 64) size (omega arith), (le-ltb greatest_size size small, (yields (ltb 0 c), tt)))))))
  where
    st : State
    st = s.state

    size : ℕ
    size = asked_bytes k c

    inv : InvOf s
    inv = inv_at w r s i

    vacant : (B : Block) → Among B st.meaning.live → ⊥
    vacant B a = let u = inv.used B a in never (none_live u.0) u.2

    not_full : full st ≡ false
    not_full = (λ j. leb line_limit (length (nothing_live st.lines none_live j)) || leb serial_limit st.next) ∙ lt-leb serial_limit st.next left

    grants : st.meaning.grants (request_for size) ≡ true
    grants = inv.law.first vacant (request_for size) (valid_for size small) (omega arith) (omega arith)

    yields : (b : Bool) → (b && not (st.meaning.grants (request_for size))) ≡ false
    yields true = ap not grants
    yields false = refl

pub store_law : StoreLaw
store_law = (rows_law, lines_law, alone_law, parts_law, place_law, frame_law, writes_law, blocks_law, fresh_law, sharing_law, faults_law, room_law, grant_law)
