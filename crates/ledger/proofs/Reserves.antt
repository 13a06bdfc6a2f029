-- From what reserving did to what the definitions say of it.
use Rattle.std.proofs.Common.{◌≡◌, ℕ, ◌+◌, ◌-◌, ◌*◌, ◌/◌, ◌^◌, ◌<◌, ◌≤◌, true, false, cond, not, List, [], ◌∷◌, ◌++◌, length, set, Some, None, Option, sym, refl, ap, ◌∙◌, subst, mul-le-mul_right, arith}
use Rattle.std.proofs.lemmas.Bool.{leb-true}
use Rattle.allocation.specs.Alignments.{round_up}
use Rattle.allocation.specs.Meaning.{Meaning}
use Rattle.allocation.specs.declared.block.Block.{Block}
use Rattle.allocation.specs.declared.block.Request.{Request}
use Rattle.allocation.specs.declared.fault.Fault.{Fault}
use Rattle.checks.specs.Groups.{growth_checks, room_check}
use Rattle.checks.proofs.Joins.{passes, stops, reserve_enough, reserve_grows}
use Rattle.model.specs.Book.{State, line, look_up, block_of}
use Rattle.model.specs.Calls.{Reserve, giving}
use Rattle.model.specs.Checks.{refusal, checks, enough, not_granted, reserve_checks, wanted_bytes, wanted_request, uses}
use Rattle.model.specs.Effects.{Reserves, Relocates, put_line, with_bytes, with_meaning, relocated}
use Rattle.model.specs.Invariant.{Sits, Stands}
use Rattle.model.specs.declared.line.Handle.{Handle}
use Rattle.model.specs.declared.line.Line.{Line}
use Rattle.model.proofs.Checks.{held}
use Rattle.model.proofs.KeepsSure.{well_inv}
use Rattle.model.proofs.Reserving.{reserved}
use Rattle.ledger.specs.Entry.{Admitted, Ready}
use Rattle.ledger.specs.Moving.{Movable, Moved, moving_granted, Roomy}
use Rattle.ledger.specs.Results.{Grants}
use Rattle.ledger.specs.declared.spot.Spot.{Spot}
use Rattle.ledger.proofs.Edits.{at_put, found_put, is_line, serial_is, put_is, over}
use Rattle.ledger.proofs.Groups.{used, known_by}
use Rattle.ledger.proofs.Ties.{ready_after, well}

sits_room : (base : ℕ) (l : Line) (o : Option Block) → Sits base l o → ((b : Block) → o ≡ Some b → b.size ≤ 2 ^ 32) → l.capacity * l.kind.width ≤ 2 ^ 32
sits_room base l None s h = let z : l.capacity * l.kind.width ≡ 0 * l.kind.width = ap (λ n. n * l.kind.width) s.1 in omega (arith, z)
sits_room base l (Some b) s h = omega (arith, s.0, s.2, h b refl)

sits_at : (base : ℕ) (l : Line) (o : Option Block) (b : Block) → o ≡ Some b → Sits base l o → (base + b.place ≤ l.start) × (l.start + l.len * l.kind.width ≤ base + (b.place + b.size))
sits_at base l o b e s = let t = subst (Sits base l) e s in (t.0, t.1)

module _ (st : State) (h : Handle) (spot : Spot) (a : Admitted st h spot) (more : ℕ) (em : h.mutable ≡ true) where
  abbrev l : Line
  l = spot.line

  pub mutable : l.mutable ≡ true
  mutable = ap (λ (z : Line). z.mutable) (is_line st h spot a) ∙ (held st h (known_by st h a.passed)).state ∙ em

  pub kind_is : l.kind ≡ h.kind
  kind_is = ap (λ (z : Line). z.kind) (is_line st h spot a) ∙ (held st h (known_by st h a.passed)).kind

  stands : Stands st.meaning.base l
  stands = a.ready.sure.stands h.serial l a.found

  pub wide : 1 ≤ l.kind.width
  wide = stands.wide

  small : (b : Block) → block_of l.backing ≡ Some b → b.size ≤ 2 ^ 32
  small b q = omega (arith, a.ready.lawful.within b (a.ready.sure.held h.serial l b a.found q), a.ready.limits.3)

  pub twice : 2 * (l.capacity * l.kind.width) < 2 ^ 64
  twice = omega (arith, sits_room st.meaning.base l (block_of l.backing) stands.sits small)

  pub movable : (r : Request) → r ≡ wanted_request l more → Movable st.meaning (length st.bytes) l r
  movable r e =
      let x = mul-le-mul_right l.kind.width (let z : l.len ≤ l.len + more = omega arith in z) in
      let lim = a.ready.limits in
      let s : r.size ≡ wanted_bytes l more + l.claim = ap (λ (z : Request). z.size) e in
      record {
        lawful = a.ready.lawful;
        long = a.ready.long;
        ends = omega (arith, lim.1, lim.3);
        held = λ b q. a.ready.sure.held h.serial l b a.found q;
        low = λ b q. (sits_at st.meaning.base l (block_of l.backing) b q stands.sits).0;
        high = λ b q. (sits_at st.meaning.base l (block_of l.backing) b q stands.sits).1;
        claim_low = stands.claims;
        room = omega (arith, x);
      }

  -- past the checks that all calls have
  passing : refusal (checks st (length st.bytes) (Reserve h more)) ≡ refusal (reserve_checks st.meaning l more)
  passing = used st h (Reserve h more) (ap (uses h) em) a.passed ∙ ap (λ (z : Line). refusal (reserve_checks st.meaning z more)) (sym (is_line st h spot a))

  growing : enough l more ≡ false → refusal (checks st (length st.bytes) (Reserve h more)) ≡ refusal (growth_checks l more ++ room_check st.meaning l more)
  growing f = passing ∙ ap refusal (reserve_grows st.meaning l more f)

  pub stop_growth : (f : Fault) → enough l more ≡ false → refusal (growth_checks l more) ≡ Some f → refusal (checks st (length st.bytes) (Reserve h more)) ≡ Some f
  stop_growth f n x = growing n ∙ stops (growth_checks l more) (room_check st.meaning l more) f x

  pub stop_room : (r : Request) → r ≡ wanted_request l more → enough l more ≡ false → refusal (growth_checks l more) ≡ None → moving_granted st.meaning r (block_of l.backing) ≡ false → refusal (checks st (length st.bytes) (Reserve h more)) ≡ Some (not_granted r)
  stop_room r e n x y =
      let y' : moving_granted st.meaning (wanted_request l more) (block_of l.backing) ≡ false = subst (λ z. moving_granted st.meaning z (block_of l.backing) ≡ false) e y in
      growing n ∙ passes (growth_checks l more) (room_check st.meaning l more) x ∙ ap (λ b. cond (not b) (Some (not_granted (wanted_request l more))) None) y' ∙ ap (λ z. Some (not_granted z)) (sym e)

  pub roomy_already : enough l more ≡ true → Roomy st h more spot st
  roomy_already f =
      let r : Reserves (enough l more) st l more [] st = rw f (refl, refl) in
      record {
        ready = a.ready;
        still = a.ready;
        grants = (giving 0 [], refl, (passing ∙ reserve_enough st.meaning l more f, ([], subst (λ (z : Line). Reserves (enough z more) st z more [] st) (is_line st h spot a) r, refl)));
        here = a.here;
        found = a.found;
        room = omega (arith, leb-true more (l.capacity - l.len) f, stands.within mutable);
        kind = kind_is;
      }

  module _ (bytes base start : ℕ) (r : Request) (b : Block) (m' : Meaning) (xs : List ℕ) (new : Line) (ls : List Line)
      (n : enough l more ≡ false) (x : refusal (growth_checks l more) ≡ None) (er : r ≡ wanted_request l more) (v : Moved st.meaning st.bytes l r b m' xs)
      (ew : bytes ≡ wanted_bytes l more) (eb : base ≡ st.meaning.base) (es : start ≡ round_up (base + b.place) l.claim) (el : new ≡ relocated l b start (bytes / l.kind.width)) (en : ls ≡ set st.lines spot.place new) where
    is_new : new ≡ relocated l b (round_up (st.meaning.base + b.place) l.claim) (wanted_bytes l more / l.kind.width)
    is_new = el ∙ ap (λ z. relocated l b start (z / l.kind.width)) ew ∙ ap (λ z. relocated l b z (wanted_bytes l more / l.kind.width)) (es ∙ ap (λ z. round_up (z + b.place) l.claim) eb)

    new_serial : new.serial ≡ h.serial
    new_serial = ap (λ (z : Line). z.serial) is_new ∙ serial_is st h spot a

    after_state : State
    after_state = over st ls m' xs

    pub moved_grants : Grants st (Reserve h more) 0 (over st ls m' xs)
    moved_grants =
        let v' : Moved st.meaning st.bytes l (wanted_request l more) b m' xs = subst (λ z. Moved st.meaning st.bytes l z b m' xs) er v in
        let d : Relocates st l more (b ∷ []) (over st ls m' xs) = record {
          block = b;
          meaning = m';
          bytes = xs;
          by_new = v'.by_new;
          by_growth = v'.by_growth;
          got = refl;
          is = put_is st h spot a new ls m' xs new_serial en ∙ ap (put_line (with_bytes (with_meaning st m') xs)) is_new;
        } in
        let q : Reserves (enough l more) st l more (b ∷ []) (over st ls m' xs) = rw n d in
        let ok : refusal (room_check st.meaning l more) ≡ None = ap (λ z. cond (not z) (Some (not_granted (wanted_request l more))) None) v'.granted in
        (giving 0 (b ∷ []), refl, (growing n ∙ passes (growth_checks l more) (room_check st.meaning l more) x ∙ ok, (b ∷ [], subst (λ (z : Line). Reserves (enough z more) st z more (b ∷ []) (over st ls m' xs)) (is_line st h spot a) q, refl)))

    pub roomy_moved : Roomy st h more (record { place = spot.place; line = new }) (over st ls m' xs)
    roomy_moved =
        let still : Ready (over st ls m' xs) = ready_after st a.ready (Reserve h more) 0 (over st ls m' xs) tt moved_grants in
        let found : look_up h.serial (over st ls m' xs) ≡ Some new = found_put st.next h.serial spot.place st.lines new ls still.sure.order a.here new_serial en in
        let g = moved_grants.2.1 in
        let k = well st a.ready in
        let hd = held st h (known_by st h a.passed) in
        let y = reserved st k.0 (well_inv st k) h.serial (line st h) hd.at more (enough (line st h) more) g.0 (over st ls m' xs) (hd.state ∙ em) hd.serial refl g.1 in
        let i : y.line ≡ new = (let z : Some y.line ≡ Some new = sym y.at ∙ found in cc) in
        record {
          ready = a.ready;
          still = still;
          grants = moved_grants;
          here = at_put st.lines h.serial spot.place new ls a.here new_serial en;
          found = found;
          room = subst (λ (z : Line). z.len + more ≤ z.capacity) i y.room;
          kind = ap (λ (z : Line). z.kind) (sym i) ∙ y.kind ∙ hd.kind;
        }
