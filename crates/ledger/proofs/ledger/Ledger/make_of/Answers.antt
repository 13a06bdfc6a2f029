use mathlib.Core.Logic.{∥∥₁_map}
use Rattle.std.proofs.Common.{ℕ, ◌*◌, List, length, sym, refl, ap, ◌∙◌, subst}
use Rattle.book.specs.Held.{lines_of}
use Rattle.model.specs.Book.{State}
use Rattle.model.specs.Calls.{Call, CopyFrom}
use Rattle.model.specs.Effects.{written_in}
use Rattle.model.specs.Patterns.{Even}
use Rattle.ledger.specs.Results.{Grants}
use Rattle.ledger.specs.View.{state}
use Rattle.ledger.proofs.Edits.{over_next}
use Rattle.ledger.proofs.Makes.{asks_long, claims_one, copy_made, spaced, writable, joined_bytes, even_all, wide_terms}
use Rattle.ledger.proofs.Ties.{after_typed}
use Rattle.ledger.proofs.ledger.Ledger.make_of.Given as given
use Rattle.ledger.proofs.ledger.Ledger.make_of.Goals as goal
use Rattle.ledger.proofs.ledger.Ledger.make_of.Goals.{After-add}

pub obtain-requires-clause-some : goal.obtain-requires-clause-some
obtain-requires-clause-some g c =
    let st : State = state g.B.Allocator.meaning c.args.self.now c.args.region.now in
    asks_long st c.args.terms.kind c.count-n.result c.args.terms.claim c.args.terms.preferred c.in_ok-plan.plan c.in_ok-plan.ensures (claims_one c.args.terms.fair)

pub invariant_of-seat : goal.invariant_of-seat
invariant_of-seat g c =
    let st : State = state g.B.Allocator.meaning c.args.self.now c.args.region.now in
    record { spaced = spaced st c.args.terms.kind c.count-n.result c.args.terms.claim c.args.terms.preferred c.in_ok-plan.plan c.in_ok-plan.ensures (claims_one c.args.terms.fair) c.in_ok-got.got (g.B.Allocator.meaning c.obtain.new.allocator) c.in_ok-got.ensures.1 }

pub write_in-requires : goal.write_in-requires
write_in-requires g c =
    let st : State = state g.B.Allocator.meaning c.args.self.now c.args.region.now in
    let n : ℕ = length (g.V.Values.patterns c.args.values.now) in
    writable st c.args.terms.kind c.count-n.result c.args.terms.claim c.args.terms.preferred c.in_ok-plan.plan c.in_ok-plan.ensures (claims_one c.args.terms.fair) c.in_ok-got.got (g.B.Allocator.meaning c.obtain.new.allocator)
    (n * g.V.Values.width) (length c.args.region.now) (ap (λ (w : ℕ). n * w) (sym c.requires.wide) ∙ ap (λ (z : ℕ). z * c.args.terms.kind.width) (sym c.count-n.ensures)) refl c.in_ok-got.ensures.1

pub planned_line-line-requires : goal.planned_line-line-requires
planned_line-line-requires g c = wide_terms c.args.terms.fair

-- what the call did
granted : (g : given.Over) (c : After-add g) → let st : State = state g.B.Allocator.meaning c.args.self.now c.args.region.now in let vs : List (List ℕ) = g.V.Values.patterns c.args.values.now in let st' : State = over_next st c.add.new.self.next (lines_of c.add.new.self.book) (g.B.Allocator.meaning c.obtain.new.allocator) c.write_in.new.region in let call : Call = CopyFrom c.args.terms.kind c.args.mutable vs c.args.terms.claim c.args.terms.preferred in Grants st call c.in_ok-plan.plan.serial st'
granted g c =
    let st : State = state g.B.Allocator.meaning c.args.self.now c.args.region.now in
    let vs : List (List ℕ) = g.V.Values.patterns c.args.values.now in
    let pl = c.in_ok-plan.ensures in
    let got = c.in_ok-got.ensures in
    let bytes = c.write_in.ensures ∙ ap (λ bs. written_in c.in_ok-plan.plan.base c.in_ok-plan.plan.m c.in_ok-got.got bs c.args.region.now) (sym (g.met.V.Values.joins c.args.values.now) ∙ joined_bytes vs) in
    copy_made st c.args.terms.kind c.args.mutable c.count-n.result c.args.terms.claim c.args.terms.preferred vs (sym c.count-n.ensures) c.in_ok-plan.plan pl c.in_ok-got.got (g.B.Allocator.meaning c.obtain.new.allocator)
    c.planned_line-line.result c.add.new.self.next (lines_of c.add.new.self.book) c.write_in.new.region got.0 got.1 c.planned_line-line.ensures c.add.ensures bytes

pub returns : goal.returns
returns g c = granted g (goal.at.returns g c).After-add

pub invariant_of-self-2 : goal.invariant_of-self-2
invariant_of-self-2 g c =
    let st : State = state g.B.Allocator.meaning c.args.self.now c.args.region.now in
    let vs : List (List ℕ) = g.V.Values.patterns c.args.values.now in
    let pl = c.in_ok-plan.ensures in
    let call : Call = CopyFrom c.args.terms.kind c.args.mutable vs c.args.terms.claim c.args.terms.preferred in
    let even : Even c.args.terms.kind.width vs = subst (λ (w : ℕ). Even w vs) (sym c.requires.wide) (even_all g.V.Values.width vs (g.met.V.Values.wide c.args.values.now)) in
    after_typed st pl.opened.ready call c.in_ok-plan.plan.serial _ (∥∥₁_map c.args.terms.fair (λ f. (f.kind, f.claims, f.prefers, even))) (granted g (goal.at.invariant_of-self-2 g c).After-add)
