use mathlib.Core.Logic.{∥∥₁_map}
use Rattle.std.proofs.Common.{true, refl}
use Rattle.book.specs.Held.{lines_of}
use Rattle.model.specs.Book.{State}
use Rattle.model.specs.Calls.{Call, WithCapacity}
use Rattle.ledger.specs.Results.{Grants}
use Rattle.ledger.specs.View.{state}
use Rattle.ledger.proofs.Edits.{over_next}
use Rattle.ledger.proofs.Makes.{asks_long, claims_one, makes, spaced, wide_terms}
use Rattle.ledger.proofs.Ties.{after_typed}
use Rattle.ledger.proofs.ledger.Ledger.with_capacity.Given as given
use Rattle.ledger.proofs.ledger.Ledger.with_capacity.Goals as goal
use Rattle.ledger.proofs.ledger.Ledger.with_capacity.Goals.{After-add}

pub obtain-requires-clause-some : goal.obtain-requires-clause-some
obtain-requires-clause-some g c =
    let st : State = state g.B.Allocator.meaning c.args.self.now c.args.region.now in
    asks_long st c.args.terms.kind c.args.capacity c.args.terms.claim c.args.terms.preferred c.in_ok-plan.plan c.in_ok-plan.ensures (claims_one c.args.terms.fair)

pub invariant_of-seat : goal.invariant_of-seat
invariant_of-seat g c =
    let st : State = state g.B.Allocator.meaning c.args.self.now c.args.region.now in
    record { spaced = spaced st c.args.terms.kind c.args.capacity c.args.terms.claim c.args.terms.preferred c.in_ok-plan.plan c.in_ok-plan.ensures (claims_one c.args.terms.fair) c.in_ok-got.got (g.B.Allocator.meaning c.obtain.new.allocator) c.in_ok-got.ensures.1 }

pub planned_line-requires : goal.planned_line-requires
planned_line-requires g c = wide_terms c.args.terms.fair

-- what the call did
granted : (g : given.Over) (c : After-add g) → let st : State = state g.B.Allocator.meaning c.args.self.now c.args.region.now in let st' : State = over_next st c.add.new.self.next (lines_of c.add.new.self.book) (g.B.Allocator.meaning c.obtain.new.allocator) c.args.region.now in let call : Call = WithCapacity c.args.terms.kind c.args.capacity c.args.terms.claim c.args.terms.preferred in Grants st call c.in_ok-plan.plan.serial st'
granted g c =
    let st : State = state g.B.Allocator.meaning c.args.self.now c.args.region.now in
    let pl = c.in_ok-plan.ensures in
    let got = c.in_ok-got.ensures in
    let call : Call = WithCapacity c.args.terms.kind c.args.capacity c.args.terms.claim c.args.terms.preferred in
    makes st c.args.terms.kind c.args.capacity c.args.terms.claim c.args.terms.preferred c.in_ok-plan.plan pl call refl refl
    true 0 (λ got. c.args.region.now) (λ g st' d. d) c.in_ok-got.got (g.B.Allocator.meaning c.obtain.new.allocator) c.planned_line.result c.add.new.self.next (lines_of c.add.new.self.book) c.args.region.now got.0 got.1 c.planned_line.ensures c.add.ensures refl

pub returns : goal.returns
returns g c = granted g (goal.at.returns g c).After-add

pub invariant_of-self-2 : goal.invariant_of-self-2
invariant_of-self-2 g c =
    let st : State = state g.B.Allocator.meaning c.args.self.now c.args.region.now in
    let pl = c.in_ok-plan.ensures in
    let call : Call = WithCapacity c.args.terms.kind c.args.capacity c.args.terms.claim c.args.terms.preferred in
    after_typed st pl.opened.ready call c.in_ok-plan.plan.serial _ (∥∥₁_map c.args.terms.fair (λ f. (f.kind, f.claims, f.prefers))) (granted g (goal.at.invariant_of-self-2 g c).After-add)
