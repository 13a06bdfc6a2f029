use Rattle.std.proofs.Common.{◌≡◌, ◌+◌, sym, subst}
use Rattle.book.specs.Held.{lines_of}
use Rattle.model.specs.Book.{State}
use Rattle.model.specs.Effects.{add_line, put_line}
use Rattle.model.specs.Invariant.{Sure, plain_of}
use Rattle.ledger.specs.Changes.{Beside, OpenedBeside}
use Rattle.ledger.specs.View.{state}
use Rattle.ledger.proofs.Edits.{over_next}
use Rattle.ledger.proofs.Hands.{put_and_added}
use Rattle.ledger.proofs.ledger.Ledger.open_beside.Given as given
use Rattle.ledger.proofs.ledger.Ledger.open_beside.Goals as goal
use Rattle.ledger.proofs.ledger.Ledger.open_beside.Goals.{After-add}

beside : (g : given.Over) (c : After-add g) → Beside (state g.B.Allocator.meaning c.args.self.now c.args.region.now) c.args.h c.in_ok-spot.spot c.in_ok-serial.serial
beside g c = record { known = c.in_ok-spot.ensures; room = c.in_ok-serial.ensures.0; free = c.in_ok-serial.ensures.1 }

-- what the change keeps
kept : (g : given.Over) (c : After-add g) → let st : State = state g.B.Allocator.meaning c.args.self.now c.args.region.now in (c.change.result.0.serial ≡ c.args.h.serial) × ∥ Sure (st.next + 1) (add_line (put_line st c.change.result.0) c.change.result.1).lines (plain_of st.meaning) ∥₁
kept g c = c.requires.keeps c.in_ok-spot.spot c.in_ok-serial.serial (beside g c) c.change.result.0 c.change.result.1 c.change.ensures

-- the first line has come in its place, and the second behind the others
put : (g : given.Over) (c : After-add g) → let st : State = state g.B.Allocator.meaning c.args.self.now c.args.region.now in over_next st c.add.new.self.next (lines_of c.add.new.self.book) st.meaning st.bytes ≡ add_line (put_line st c.change.result.0) c.change.result.1
put g c =
    let st : State = state g.B.Allocator.meaning c.args.self.now c.args.region.now in
    put_and_added st c.args.h c.in_ok-spot.spot c.in_ok-spot.ensures c.change.result.0 c.change.result.1 (lines_of c.put.new.self) c.add.new.self.next (lines_of c.add.new.self.book) (kept g c).0 c.put.ensures c.add.ensures

pub invariant_of-self-clause-sure : goal.invariant_of-self-clause-sure
invariant_of-self-clause-sure g c =
    let st : State = state g.B.Allocator.meaning c.args.self.now c.args.region.now in
    let d = (goal.at.invariant_of-self-clause-sure g c).After-add in
    subst (λ n. ∥ Sure n (lines_of d.add.new.self.book) (plain_of st.meaning) ∥₁) (sym d.add.ensures.0) (subst (λ (z : State). ∥ Sure (st.next + 1) z.lines (plain_of st.meaning) ∥₁) (sym (put g d)) (kept g d).1)

pub returns : goal.returns
unfolding OpenedBeside
returns g c =
    let d = (goal.at.returns g c).After-add in
    (d.in_ok-spot.spot, beside g d, (d.change.result.0, (d.change.result.1, d.change.ensures, put g d)))
