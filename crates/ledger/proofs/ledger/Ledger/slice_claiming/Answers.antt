use Rattle.std.proofs.Common.{not, refl, ap}
use Rattle.std.proofs.lemmas.Result.{err_from_is_err_and}
use Rattle.book.specs.Held.{lines_of}
use Rattle.model.specs.Book.{State}
use Rattle.model.specs.Calls.{Slice}
use Rattle.model.specs.Checks.{makes_from}
use Rattle.ledger.specs.Claims.{claim_of}
use Rattle.ledger.specs.Results.{Grants}
use Rattle.ledger.specs.View.{state}
use Rattle.ledger.proofs.Edits.{over_next}
use Rattle.ledger.proofs.Slices as link
use Rattle.ledger.proofs.Ties.{after}
use Rattle.ledger.proofs.ledger.Ledger.slice_claiming.Given as given
use Rattle.ledger.proofs.ledger.Ledger.slice_claiming.Goals as goal
use Rattle.ledger.proofs.ledger.Ledger.slice_claiming.Goals.{After-add}

pub slices-requires : goal.slices-requires
slices-requires g c =
    let st : State = state g.B.Allocator.meaning c.args.self.now c.args.region.now in
    link.ends_low st c.args.h.handle c.in_ok-spot.spot c.in_ok-spot.ensures

pub returns-in_err-range : goal.returns-in_err-range
returns-in_err-range g c =
    let st : State = state g.B.Allocator.meaning c.args.self.now c.args.region.now in
    let p = err_from_is_err_and c.from_residual-in_err-range.result c.from_residual-in_err-range.ensures.1 in
    rw (p.1, p.2) (link.slice_refused st c.args.h.handle c.in_ok-spot.spot c.in_ok-spot.ensures c.args.first c.args.last (claim_of c.args.claim) c.of-claim.result c.of-claim.ensures (ap (λ b. makes_from c.args.h.handle (not b)) c.args.h.shared) c.in_ok-serial.ensures.0 _ c.in_err-range.ensures, refl)

-- what the call did
granted : (g : given.Over) (c : After-add g) → let st : State = state g.B.Allocator.meaning c.args.self.now c.args.region.now in Grants st (Slice c.args.h.handle c.args.first c.args.last (claim_of c.args.claim)) c.in_ok-serial.serial (over_next st c.add.new.self.next (lines_of c.add.new.self.book) st.meaning st.bytes)
granted g c =
    let st : State = state g.B.Allocator.meaning c.args.self.now c.args.region.now in
    link.sliced st c.args.h.handle c.in_ok-spot.spot c.in_ok-spot.ensures c.args.first c.args.last (claim_of c.args.claim) c.of-claim.result c.of-claim.ensures (ap (λ b. makes_from c.args.h.handle (not b)) c.args.h.shared) c.in_ok-serial.ensures.0 c.in_ok-serial.serial c.in_ok-range.range.begin c.in_ok-range.range.end c.in_ok-serial.ensures.1 c.slice_line.result c.add.new.self.next (lines_of c.add.new.self.book) c.in_ok-range.ensures.3 c.in_ok-range.ensures.0 c.in_ok-range.ensures.1 c.slice_line.ensures c.add.ensures

pub returns : goal.returns
returns g c = granted g (goal.at.returns g c).After-add

pub invariant_of-self : goal.invariant_of-self
invariant_of-self g c =
    let st : State = state g.B.Allocator.meaning c.args.self.now c.args.region.now in
    after st c.in_ok-spot.ensures.ready (Slice c.args.h.handle c.args.first c.args.last (claim_of c.args.claim)) c.in_ok-serial.serial _ (link.fair_claim c.args.claim) (granted g (goal.at.invariant_of-self g c).After-add)
