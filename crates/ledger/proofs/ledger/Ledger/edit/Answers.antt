use Rattle.std.proofs.Common.{◌≡◌, sym, subst}
use Rattle.book.specs.Held.{lines_of}
use Rattle.model.specs.Book.{State}
use Rattle.model.specs.Effects.{put_line}
use Rattle.model.specs.Invariant.{Sure, plain_of}
use Rattle.ledger.specs.Changes.{Changed}
use Rattle.ledger.specs.View.{state}
use Rattle.ledger.proofs.Edits.{over, put_only}
use Rattle.ledger.proofs.ledger.Ledger.edit.Given as given
use Rattle.ledger.proofs.ledger.Ledger.edit.Goals as goal
use Rattle.ledger.proofs.ledger.Ledger.edit.Goals.{After-put}

-- what the change keeps
kept : (g : given.Over) (c : After-put g) → let st : State = state g.B.Allocator.meaning c.args.self.now c.args.region.now in (c.in_ok-new.new.serial ≡ c.args.h.serial) × ∥ Sure st.next (put_line st c.in_ok-new.new).lines (plain_of st.meaning) ∥₁
kept g c = c.requires.keeps c.in_ok-spot.spot c.in_ok-spot.ensures c.in_ok-new.new c.in_ok-new.ensures

-- the line has come in its place
put : (g : given.Over) (c : After-put g) → let st : State = state g.B.Allocator.meaning c.args.self.now c.args.region.now in over st (lines_of c.put.new.self) st.meaning st.bytes ≡ put_line st c.in_ok-new.new
put g c =
    let st : State = state g.B.Allocator.meaning c.args.self.now c.args.region.now in
    put_only st c.args.h c.in_ok-spot.spot c.in_ok-spot.ensures c.in_ok-new.new (lines_of c.put.new.self) (kept g c).0 c.put.ensures

pub invariant_of-self-clause-sure : goal.invariant_of-self-clause-sure
invariant_of-self-clause-sure g c =
    let st : State = state g.B.Allocator.meaning c.args.self.now c.args.region.now in
    let d = (goal.at.invariant_of-self-clause-sure g c).After-put in
    subst (λ (z : State). ∥ Sure st.next z.lines (plain_of st.meaning) ∥₁) (sym (put g d)) (kept g d).1

pub returns : goal.returns
unfolding Changed
returns g c =
    let d = (goal.at.returns g c).After-put in
    (d.in_ok-spot.spot, d.in_ok-spot.ensures, (d.in_ok-new.new, d.in_ok-new.ensures, put g d))
