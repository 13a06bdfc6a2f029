use Rattle.std.proofs.Common.{length, refl, ap, arith}
use Rattle.std.proofs.lemmas.Result.{err_from_is_err_and}
use Rattle.checks.specs.Groups.{index_check}
use Rattle.model.specs.Book.{State}
use Rattle.model.specs.Calls.{Set}
use Rattle.model.specs.Checks.{uses}
use Rattle.ledger.specs.View.{state}
use Rattle.ledger.proofs.LineEdits as link
use Rattle.ledger.proofs.ledger.Ledger.set.Goals as goal

pub returns-in_err-index_within : goal.returns-in_err-index_within
returns-in_err-index_within g c =
    let st : State = state g.B.Allocator.meaning c.args.self.now c.args.region.now in
    let p = err_from_is_err_and c.from_residual-in_err-index_within.result c.from_residual-in_err-index_within.ensures.1 in
    rw (p.1, p.2) (link.edit_refused st c.args.h.handle c.in_ok-spot.spot c.in_ok-spot.ensures (Set c.args.h.handle c.args.i (g.K.Element.pattern c.args.value.now)) (λ l. index_check l c.args.i) (ap (uses c.args.h.handle) c.args.h.mutable) refl _ c.in_err-index_within.ensures, refl)

pub element_place-place-requires : goal.element_place-place-requires
element_place-place-requires g c =
    let st : State = state g.B.Allocator.meaning c.args.self.now c.args.region.now in
    let f = link.element_fits st c.args.h.handle c.in_ok-spot.spot c.in_ok-spot.ensures c.args.i c.base.result (length c.args.region.now) c.in_ok-index_within.ensures.1 c.base.ensures refl in
    (f.0, f.1)

pub write_one-requires : goal.write_one-requires
write_one-requires g c =
    let st : State = state g.B.Allocator.meaning c.args.self.now c.args.region.now in
    let f = link.element_fits st c.args.h.handle c.in_ok-spot.spot c.in_ok-spot.ensures c.args.i c.base.result (length c.args.region.now) c.in_ok-index_within.ensures.1 c.base.ensures refl in
    omega (arith, f.2, c.element_place-place.ensures, link.line_width st c.args.h.handle c.in_ok-spot.spot c.in_ok-spot.ensures g.K.Element.width c.requires.wide)

pub returns : goal.returns
returns g c =
    let st : State = state g.B.Allocator.meaning c.args.self.now c.args.region.now in
    link.set_done st c.args.h.handle c.in_ok-spot.spot c.in_ok-spot.ensures c.args.h.mutable c.args.i c.base.result c.element_place-place.result (g.K.Element.pattern c.args.value.now) c.write_one.new.region c.in_ok-index_within.ensures.0 c.base.ensures c.element_place-place.ensures c.write_one.ensures
