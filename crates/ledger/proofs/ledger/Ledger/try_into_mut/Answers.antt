use Rattle.std.proofs.Common.{sym, refl, ◌∙◌}
use Rattle.std.proofs.lemmas.Result.{err_from_is_err_and}
use Rattle.book.specs.Held.{lines_of}
use Rattle.model.specs.Book.{State, shared_by}
use Rattle.model.specs.Calls.{TryIntoMut}
use Rattle.ledger.specs.Results.{Grants}
use Rattle.ledger.specs.View.{state}
use Rattle.ledger.proofs.Changes.{puts, refused, unsharing}
use Rattle.ledger.proofs.Edits.{over}
use Rattle.ledger.proofs.LineEdits as link
use Rattle.ledger.proofs.Ties.{after}
use Rattle.ledger.proofs.ledger.Ledger.try_into_mut.Given as given
use Rattle.ledger.proofs.ledger.Ledger.try_into_mut.Goals as goal
use Rattle.ledger.proofs.ledger.Ledger.try_into_mut.Goals.{After-put}

pub returns-in_err-unshared : goal.returns-in_err-unshared
unfolding shared_by
returns-in_err-unshared g c =
    let st : State = state g.B.Allocator.meaning c.args.self.now c.args.region.now in
    let p = err_from_is_err_and c.from_residual-in_err-unshared.result c.from_residual-in_err-unshared.ensures.1 in
    rw (p.1, p.2) (refused (unsharing st c.args.h.handle c.args.h.shared) c.in_ok-spot.spot c.in_ok-spot.ensures _ (rw (sym c.shares.ensures) c.in_err-unshared.ensures), refl)

-- what the call did
granted : (g : given.Over) (c : After-put g) → let st : State = state g.B.Allocator.meaning c.args.self.now c.args.region.now in Grants st (TryIntoMut c.args.h.handle) 0 (over st (lines_of c.put.new.self) st.meaning st.bytes)
unfolding shared_by
granted g c =
    let st : State = state g.B.Allocator.meaning c.args.self.now c.args.region.now in
    puts (unsharing st c.args.h.handle c.args.h.shared) c.in_ok-spot.spot c.in_ok-spot.ensures c.unfrozen.result (lines_of c.put.new.self) (rw (sym c.shares.ensures) c.in_ok-unshared.ensures.0, c.unfrozen.ensures ∙ link.unfrozen_base st c.base.result c.in_ok-spot.spot.line c.in_ok-spot.spot.line.backing c.base.ensures) c.put.ensures

pub returns : goal.returns
returns g c = granted g (goal.at.returns g c).After-put

pub invariant_of-self : goal.invariant_of-self
invariant_of-self g c =
    let st : State = state g.B.Allocator.meaning c.args.self.now c.args.region.now in
    after st c.in_ok-spot.ensures.ready (TryIntoMut c.args.h.handle) 0 _ tt (granted g (goal.at.invariant_of-self g c).After-put)
