use Rattle.book.specs.Held.{lines_of}
use Rattle.model.specs.Book.{State}
use Rattle.model.specs.Calls.{Release}
use Rattle.ledger.specs.Results.{Grants}
use Rattle.ledger.specs.View.{state}
use Rattle.ledger.proofs.Edits.{over}
use Rattle.ledger.proofs.Releases.{goes_back, released}
use Rattle.ledger.proofs.Ties.{after}
use Rattle.ledger.proofs.ledger.Ledger.release.Given as given
use Rattle.ledger.proofs.ledger.Ledger.release.Goals as goal
use Rattle.ledger.proofs.ledger.Ledger.release.Goals.{After-end}

pub returns-in_err-give_back : goal.returns-in_err-give_back
returns-in_err-give_back g c =
    let st : State = state g.B.Allocator.meaning c.args.self.now c.args.region.now in
    let a = c.in_ok-spot.ensures in
    absurd (goes_back st c.args.h c.in_ok-spot.spot a c.shares-shared.result c.block_left.result _ c.block_left.ensures c.in_err-give_back.ensures.0)

-- what the call did
granted : (g : given.Over) (c : After-end g) → let st : State = state g.B.Allocator.meaning c.args.self.now c.args.region.now in Grants st (Release c.args.h) 0 (over st (lines_of c.end.new.self) (g.B.Allocator.meaning c.give_back.new.allocator) c.args.region.now)
granted g c =
    let st : State = state g.B.Allocator.meaning c.args.self.now c.args.region.now in
    let a = c.in_ok-spot.ensures in
    released st c.args.h c.in_ok-spot.spot a c.shares-shared.result c.block_left.result _ _ c.shares-shared.ensures c.block_left.ensures c.in_ok-give_back.ensures c.end.ensures

pub returns : goal.returns
returns g c = granted g (goal.at.returns g c).After-end

pub invariant_of-self-2 : goal.invariant_of-self-2
invariant_of-self-2 g c =
    let st : State = state g.B.Allocator.meaning c.args.self.now c.args.region.now in
    let a = c.in_ok-spot.ensures in
    after st a.ready (Release c.args.h) 0 _ tt (granted g (goal.at.invariant_of-self-2 g c).After-end)
