use Rattle.std.proofs.Common.{ℕ, ◌+◌, ◌-◌, ◌*◌, List, length, sym, refl, ap, ◌∙◌, subst}
use Rattle.std.proofs.lemmas.Result.{err_from_is_err_and}
use Rattle.region.specs.Bytes.{overwrite}
use Rattle.book.specs.Held.{lines_of}
use Rattle.model.specs.Book.{State}
use Rattle.model.specs.Calls.{Append}
use Rattle.model.specs.Patterns.{Even}
use Rattle.ledger.specs.Moving.{Behind}
use Rattle.ledger.specs.Results.{Grants}
use Rattle.ledger.specs.View.{state}
use Rattle.ledger.proofs.Edits.{over}
use Rattle.ledger.proofs.Appends as link
use Rattle.ledger.proofs.Makes.{joined_bytes, even_all}
use Rattle.ledger.proofs.Ties.{after}
use Rattle.ledger.proofs.ledger.Ledger.append.Given as given
use Rattle.ledger.proofs.ledger.Ledger.append.Goals as goal
use Rattle.ledger.proofs.ledger.Ledger.append.Goals.{After-put}

pub returns-in_err-spot : goal.returns-in_err-spot
returns-in_err-spot g c =
    let st : State = state g.B.Allocator.meaning c.args.self.now c.args.region.now in
    let mid : State = state g.B.Allocator.meaning c.make_room.new.self c.make_room.new.region in
    let vs : List (List ℕ) = g.V.Values.patterns c.args.values.now in
    let p = err_from_is_err_and c.from_residual.result c.from_residual.ensures.1 in
    rw (p.1, p.2) (link.append_refused st c.args.h.handle c.count-count.result vs _ mid (sym c.count-count.ensures) c.in_err-spot.ensures)

pub write_behind-requires : goal.write_behind-requires
write_behind-requires g c =
    let st : State = state g.B.Allocator.meaning c.args.self.now c.args.region.now in
    let mid : State = state g.B.Allocator.meaning c.make_room.new.self c.make_room.new.region in
    record { inside = subst (λ (n : ℕ). Behind c.base.result c.in_ok-spot.spot.line n (length c.make_room.new.region)) c.count-count.ensures (link.behind st c.args.h.handle c.count-count.result c.in_ok-spot.spot mid c.in_ok-spot.ensures c.base.result (length c.make_room.new.region) c.base.ensures refl); wide = link.same_width st c.args.h.handle c.count-count.result c.in_ok-spot.spot mid c.in_ok-spot.ensures g.V.Values.width c.requires.wide }

pub overflow_add-spot : goal.overflow_add-spot
overflow_add-spot g c =
    let st : State = state g.B.Allocator.meaning c.args.self.now c.args.region.now in
    let mid : State = state g.B.Allocator.meaning c.make_room.new.self c.make_room.new.region in
    record { fits = link.count_fits st c.args.h.handle c.count-count.result c.in_ok-spot.spot mid c.in_ok-spot.ensures }

-- what the call did
granted : (g : given.Over) (c : After-put g) → let st : State = state g.B.Allocator.meaning c.args.self.now c.args.region.now in let mid : State = state g.B.Allocator.meaning c.make_room.new.self c.make_room.new.region in let vs : List (List ℕ) = g.V.Values.patterns c.args.values.now in Grants st (Append c.args.h.handle vs) 0 (over mid (lines_of c.put.new.self) mid.meaning c.write_behind.new.region)
granted g c =
    let st : State = state g.B.Allocator.meaning c.args.self.now c.args.region.now in
    let mid : State = state g.B.Allocator.meaning c.make_room.new.self c.make_room.new.region in
    let vs : List (List ℕ) = g.V.Values.patterns c.args.values.now in
    link.appends st c.args.h.handle c.count-count.result c.in_ok-spot.spot mid c.in_ok-spot.ensures vs c.base.result c.write_behind.new.region c.with_len.result (lines_of c.put.new.self) (sym c.count-count.ensures) c.base.ensures
    (c.write_behind.ensures ∙ ap (λ bs. overwrite (c.in_ok-spot.spot.line.start - c.base.result + c.in_ok-spot.spot.line.len * c.in_ok-spot.spot.line.kind.width) bs c.make_room.new.region) (sym (g.met.V.Values.joins c.args.values.now) ∙ joined_bytes vs)) c.with_len.ensures c.put.ensures

pub returns : goal.returns
returns g c = granted g (goal.at.returns g c).After-put

pub invariant_of-self : goal.invariant_of-self
invariant_of-self g c =
    let st : State = state g.B.Allocator.meaning c.args.self.now c.args.region.now in
    let vs : List (List ℕ) = g.V.Values.patterns c.args.values.now in
    let even : Even c.args.h.handle.kind.width vs = subst (λ (w : ℕ). Even w vs) (sym c.requires.wide) (even_all g.V.Values.width vs (g.met.V.Values.wide c.args.values.now)) in
    after st c.in_ok-spot.ensures.ready (Append c.args.h.handle vs) 0 _ even (granted g (goal.at.invariant_of-self g c).After-put)
