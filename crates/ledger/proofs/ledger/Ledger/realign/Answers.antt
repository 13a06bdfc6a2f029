use Rattle.std.proofs.Common.{◌≡◌, ℕ, length, Some, sym, refl, ◌∙◌, subst, arith}
use Rattle.std.proofs.lemmas.Result.{err_from_is_err_and}
use Rattle.allocation.specs.Asked.{bytes_of}
use Rattle.allocation.specs.declared.fault.Fault.{Fault}
use Rattle.book.specs.Held.{lines_of}
use Rattle.model.specs.Book.{State}
use Rattle.model.specs.Checks.{refusal, checks}
use Rattle.model.specs.declared.line.Handle.{Handle}
use Rattle.model.specs.declared.line.Line.{Line}
use Rattle.ledger.specs.Copying.{aligning}
use Rattle.ledger.specs.Results.{Grants}
use Rattle.ledger.specs.View.{state}
use Rattle.ledger.proofs.Copies as link
use Rattle.ledger.proofs.Edits.{over}
use Rattle.ledger.proofs.Slices.{fair}
use Rattle.ledger.proofs.Ties.{after}
use Rattle.ledger.proofs.ledger.Ledger.realign.Given as given
use Rattle.ledger.proofs.ledger.Ledger.realign.Goals as goal
use Rattle.ledger.proofs.ledger.Ledger.realign.Goals.{After-put, After-put-2}

-- a refusal at a claim in bytes
stops : (st : State) (h : Handle) (a b : ℕ) (f : Fault) → a ≡ b → refusal (checks st (length st.bytes) (aligning h a)) ≡ Some f → refusal (checks st (length st.bytes) (aligning h b)) ≡ Some f
stops st h a b f e q = subst (λ z. refusal (checks st (length st.bytes) (aligning h z)) ≡ Some f) e q

pub returns-in_err-fits_kind : goal.returns-in_err-fits_kind
returns-in_err-fits_kind g c =
    let st : State = state g.B.Allocator.meaning c.args.self.now c.args.region.now in
    let p = err_from_is_err_and c.from_residual-in_err-fits_kind.result c.from_residual-in_err-fits_kind.ensures.1 in
    rw (p.1, p.2) (stops st c.args.h _ _ _ c.as_usize-claim.ensures (link.align_stops st c.args.h c.in_ok-spot.spot c.in_ok-spot.ensures c.as_usize-claim.result _ c.in_err-fits_kind.ensures), refl)

pub returns-in_err-plan : goal.returns-in_err-plan
returns-in_err-plan g c =
    let st : State = state g.B.Allocator.meaning c.args.self.now c.args.region.now in
    let l : Line = c.in_ok-spot.spot.line in
    let p = err_from_is_err_and c.from_residual-in_err-plan.result c.from_residual-in_err-plan.ensures.1 in
    let b = link.copy_unsized st.meaning l c.max-count.result c.as_usize-claim.result _ refl _ c.in_err-plan.ensures in
    rw (p.1, p.2) (stops st c.args.h _ _ _ c.as_usize-claim.ensures (link.align_stops_copy st c.args.h c.in_ok-spot.spot c.in_ok-spot.ensures c.as_usize-claim.result _ c.max-count.result c.max-count.ensures c.in_ok-fits_kind.ensures (sym c.if-is_aligned.ensures) b), refl)

pub copy_out-requires : goal.copy_out-requires
copy_out-requires g c =
    let st : State = state g.B.Allocator.meaning c.args.self.now c.args.region.now in
    record { copying = link.copying st c.args.h c.in_ok-spot.spot c.in_ok-spot.ensures c.max-count.result c.as_usize-claim.result c.in_ok-plan.plan c.in_ok-plan.ensures (omega (arith, c.max-count.ensures)) }

pub returns-in_err-line : goal.returns-in_err-line
returns-in_err-line g c =
    let st : State = state g.B.Allocator.meaning c.args.self.now c.args.region.now in
    let l : Line = c.in_ok-spot.spot.line in
    let p = err_from_is_err_and c.from_residual-in_err-line.result c.from_residual-in_err-line.ensures.1 in
    let b = c.in_err-line.ensures in
    let q = link.planned_checks st l c.max-count.result c.as_usize-claim.result c.in_ok-plan.plan c.in_ok-plan.ensures ∙ b.0 in
    rw (p.1, p.2) (
      stops st c.args.h _ _ _ c.as_usize-claim.ensures (link.align_stops_copy st c.args.h c.in_ok-spot.spot c.in_ok-spot.ensures c.as_usize-claim.result _ c.max-count.result c.max-count.ensures c.in_ok-fits_kind.ensures (sym c.if-is_aligned.ensures) q),
      λ i. record { number = st.number; next = st.next; lines = st.lines; meaning = b.1 i; bytes = b.2 i },
    )

-- the line stays where it is
stays : (g : given.Over) (c : After-put g) → let st : State = state g.B.Allocator.meaning c.args.self.now c.args.region.now in Grants st (aligning c.args.h (bytes_of c.args.claim)) 0 (over st (lines_of c.put.new.self) st.meaning st.bytes)
stays g c =
    let st : State = state g.B.Allocator.meaning c.args.self.now c.args.region.now in
    subst (λ z. Grants st (aligning c.args.h z) 0 (over st (lines_of c.put.new.self) st.meaning st.bytes)) c.as_usize-claim.ensures
    (link.align_stays st c.args.h c.in_ok-spot.spot c.in_ok-spot.ensures c.as_usize-claim.result c.with_claim.result (lines_of c.put.new.self) c.in_ok-fits_kind.ensures (sym c.if-is_aligned.ensures) c.with_claim.ensures c.put.ensures)

-- it is copied
copies : (g : given.Over) (c : After-put-2 g) → let st : State = state g.B.Allocator.meaning c.args.self.now c.args.region.now in Grants st (aligning c.args.h (bytes_of c.args.claim)) 0 (over st (lines_of c.put-2.new.self) (g.B.Allocator.meaning c.copy_out.new.allocator) c.copy_out.new.region)
copies g c =
    let st : State = state g.B.Allocator.meaning c.args.self.now c.args.region.now in
    subst (λ z. Grants st (aligning c.args.h z) 0 (over st (lines_of c.put-2.new.self) (g.B.Allocator.meaning c.copy_out.new.allocator) c.copy_out.new.region)) c.as_usize-claim.ensures
    (link.align_copied st c.args.h c.in_ok-spot.spot c.in_ok-spot.ensures c.as_usize-claim.result c.max-count.result c.in_ok-plan.plan _ c.in_ok-line.line (lines_of c.put-2.new.self) _ c.copy_out.new.region c.max-count.ensures
    c.in_ok-plan.ensures c.in_ok-fits_kind.ensures (sym c.if-is_aligned.ensures) c.in_ok-line.ensures.0 c.in_ok-line.ensures.1 c.in_ok-line.ensures.2 c.put-2.ensures)

pub returns-then-is_aligned : goal.returns-then-is_aligned
returns-then-is_aligned g c = stays g (goal.at.returns-then-is_aligned g c).After-put

pub returns : goal.returns
returns g c = copies g (goal.at.returns g c).After-put-2

pub invariant_of-self : goal.invariant_of-self
invariant_of-self g c =
    let st : State = state g.B.Allocator.meaning c.args.self.now c.args.region.now in
    after st c.in_ok-spot.ensures.ready (aligning c.args.h (bytes_of c.args.claim)) 0 _ (link.sound_aligning st c.args.h c.in_ok-spot.spot c.in_ok-spot.ensures (bytes_of c.args.claim) (fair c.args.claim)) (stays g (goal.at.invariant_of-self g c).After-put)

pub invariant_of-self-2 : goal.invariant_of-self-2
invariant_of-self-2 g c =
    let st : State = state g.B.Allocator.meaning c.args.self.now c.args.region.now in
    after st c.in_ok-spot.ensures.ready (aligning c.args.h (bytes_of c.args.claim)) 0 _ (link.sound_aligning st c.args.h c.in_ok-spot.spot c.in_ok-spot.ensures (bytes_of c.args.claim) (fair c.args.claim)) (copies g (goal.at.invariant_of-self-2 g c).After-put-2)
