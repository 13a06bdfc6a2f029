use Rattle.std.proofs.Common.{rules, ◌≡◌, Some, sym, ap, ◌∙◌, arith}
use Rattle.book.specs.Held.{At, lines_of}
use Rattle.book.proofs.Lookups.{found_at}
use Rattle.model.specs.Book.{State, known, look_up}
use Rattle.model.specs.declared.line.Line.{Line}
use Rattle.ledger.specs.View.{state}
use Rattle.ledger.proofs.Groups.{strange, enters, known_line}
use Rattle.ledger.proofs.ledger.Ledger.admits.Given as given
use Rattle.ledger.proofs.ledger.Ledger.admits.Goals as goal
use Rattle.ledger.proofs.ledger.Ledger.admits.Goals.{After-knows}

-- the place that was found is that of the handle's line
there : (g : given.Over) (c : After-knows g) → At (lines_of c.args.self.now.register.book) c.in_ok-place.place c.args.h.serial
there g c = search rules

found : (g : given.Over) (c : After-knows g) → look_up c.args.h.serial (state g.B.Allocator.meaning c.args.self.now c.args.region.now) ≡ Some c.line-line.result
found g c =
    let st : State = state g.B.Allocator.meaning c.args.self.now c.args.region.now in
    found_at 0 st.next st.lines c.in_ok-place.place c.args.h.serial c.in_ok-knows_region.ensures.1.sure.order (there g c) ∙ ap {B = Rattle.std.specs.declared.option.Option.Option Line} Some (sym c.line-line.ensures)

-- whether it is known is what `knows` says
known_is : (g : given.Over) (c : After-knows g) → known (state g.B.Allocator.meaning c.args.self.now c.args.region.now) c.args.h ≡ c.knows.result
known_is g c = known_line (state g.B.Allocator.meaning c.args.self.now c.args.region.now) c.args.h c.line-line.result (found g c) ∙ sym c.knows.ensures

pub returns-then-not-knows : goal.returns-then-not-knows
returns-then-not-knows g c =
    let st : State = state g.B.Allocator.meaning c.args.self.now c.args.region.now in
    let e = strange st c.args.h c.in_ok-knows_region.ensures.0 (known_is g (goal.at.returns-then-not-knows g c).After-knows ∙ c.if-not-knows.true) in
    search rules

pub returns : goal.returns
returns g c =
    let st : State = state g.B.Allocator.meaning c.args.self.now c.args.region.now in
    let d = (goal.at.returns g c).After-knows in
    record {
      ready = c.in_ok-knows_region.ensures.1;
      passed = enters st c.args.h c.in_ok-knows_region.ensures.0 (known_is g d ∙ c.if-not-knows.false);
      here = there g d;
      found = found g d;
      low = omega arith;
    }
