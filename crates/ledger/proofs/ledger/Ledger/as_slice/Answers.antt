use Rattle.std.proofs.Common.{refl, ◌∙◌}
use Rattle.model.specs.Book.{State}
use Rattle.model.specs.Calls.{Read}
use Rattle.ledger.specs.View.{state}
use Rattle.ledger.proofs.Groups.{granted_reading, used}
use Rattle.ledger.proofs.LineEdits as edits
use Rattle.ledger.proofs.Shows.{shown_at, shown_inside, shown_part}
use Rattle.ledger.proofs.ledger.Ledger.as_slice.Goals as goal

pub invariant_of-placed : goal.invariant_of-placed
invariant_of-placed g c =
    let st : State = state g.B.Allocator.meaning c.args.self.now c.args.region.now in
    edits.places st c.args.h c.in_ok-spot.spot c.in_ok-spot.ensures c.base.result c.base.ensures

pub shown_in-requires : goal.shown_in-requires
shown_in-requires g c =
    let st : State = state g.B.Allocator.meaning c.args.self.now c.args.region.now in
    ((edits.bytes_fit st c.args.h c.in_ok-spot.spot c.in_ok-spot.ensures).0, shown_inside st c.args.h c.in_ok-spot.spot c.in_ok-spot.ensures c.base.result c.base.ensures)

pub returns : goal.returns
returns g c =
    let st : State = state g.B.Allocator.meaning c.args.self.now c.args.region.now in
    let a = c.in_ok-spot.ensures in
    let read = used st c.args.h (Read c.args.h) refl a.passed in
    let bytes = c.shown_in.ensures ∙ shown_part st c.args.h c.in_ok-spot.spot a c.base.result c.base.ensures in
    let there = c.shown_in.ensures ∙ shown_at st c.args.h c.in_ok-spot.spot a c.base.result c.base.ensures in
    record { outcome = (read, bytes); place = (granted_reading st c.args.h read, bytes, there) }
