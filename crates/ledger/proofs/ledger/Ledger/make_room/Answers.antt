use Rattle.std.proofs.Common.{Some, Option, sym, refl, ap, ◌∙◌}
use Rattle.std.proofs.lemmas.Result.{err_from_is_err_and}
use Rattle.allocation.specs.Alignments.{round_up}
use Rattle.allocation.specs.Asked.{asked}
use Rattle.book.specs.Held.{lines_of}
use Rattle.model.specs.Book.{State}
use Rattle.model.specs.Calls.{Reserve}
use Rattle.ledger.specs.View.{state}
use Rattle.ledger.proofs.Edits.{over}
use Rattle.ledger.proofs.Reserves as link
use Rattle.ledger.proofs.Ties.{after}
use Rattle.ledger.proofs.ledger.Ledger.make_room.Goals as goal

pub returns-then-has_room : goal.returns-then-has_room
returns-then-has_room g c =
    let st : State = state g.B.Allocator.meaning c.args.self.now c.args.region.now in
    link.roomy_already st c.args.h.handle c.in_ok-spot.spot c.in_ok-spot.ensures c.args.more c.args.h.mutable (sym c.if-has_room.ensures)

pub room_for-requires : goal.room_for-requires
room_for-requires g c =
    let st : State = state g.B.Allocator.meaning c.args.self.now c.args.region.now in
    (link.wide st c.args.h.handle c.in_ok-spot.spot c.in_ok-spot.ensures c.args.more c.args.h.mutable, link.twice st c.args.h.handle c.in_ok-spot.spot c.in_ok-spot.ensures c.args.more c.args.h.mutable)

pub returns-in_err-room : goal.returns-in_err-room
returns-in_err-room g c =
    let st : State = state g.B.Allocator.meaning c.args.self.now c.args.region.now in
    let p = err_from_is_err_and c.from_residual-in_err-room.result c.from_residual-in_err-room.ensures.1 in
    rw (p.1, p.2) (link.stop_growth st c.args.h.handle c.in_ok-spot.spot c.in_ok-spot.ensures c.args.more c.args.h.mutable _ (sym c.if-has_room.ensures) c.in_err-room.ensures, refl)

pub relocate-requires : goal.relocate-requires
relocate-requires g c =
    let st : State = state g.B.Allocator.meaning c.args.self.now c.args.region.now in
    record { movable = link.movable st c.args.h.handle c.in_ok-spot.spot c.in_ok-spot.ensures c.args.more c.args.h.mutable (asked c.in_ok-room.room.layout) c.in_ok-room.ensures.1 }

pub returns-in_err-block : goal.returns-in_err-block
returns-in_err-block g c =
    let st : State = state g.B.Allocator.meaning c.args.self.now c.args.region.now in
    let p = err_from_is_err_and c.from_residual-in_err-block.result c.from_residual-in_err-block.ensures.1 in
    let b = c.in_err-block.ensures in
    rw (p.1, p.2) (
      link.stop_room st c.args.h.handle c.in_ok-spot.spot c.in_ok-spot.ensures c.args.more c.args.h.mutable (asked c.in_ok-room.room.layout) c.in_ok-room.ensures.1 (sym c.if-has_room.ensures) c.in_ok-room.ensures.2 b.0 ∙ ap {B = Option Rattle.allocation.specs.declared.fault.Fault.Fault} Some (sym b.1),
      λ i. record { number = st.number; next = st.next; lines = st.lines; meaning = b.2 i; bytes = b.3 i },
    )

pub returns : goal.returns
unfolding round_up
returns g c =
    let st : State = state g.B.Allocator.meaning c.args.self.now c.args.region.now in
    link.roomy_moved st c.args.h.handle c.in_ok-spot.spot c.in_ok-spot.ensures c.args.more c.args.h.mutable c.in_ok-room.room.bytes c.base-base.result c.next_multiple_of-start.result (asked c.in_ok-room.room.layout) c.in_ok-block.block (g.B.Allocator.meaning c.relocate.new.allocator) c.relocate.new.region c.relocated-line.result (lines_of c.put.new.self)
    (sym c.if-has_room.ensures) c.in_ok-room.ensures.2 c.in_ok-room.ensures.1 c.in_ok-block.ensures c.in_ok-room.ensures.0 c.base-base.ensures c.next_multiple_of-start.ensures.value c.relocated-line.ensures c.put.ensures

pub invariant_of-self-2 : goal.invariant_of-self-2
unfolding round_up
invariant_of-self-2 g c =
    let st : State = state g.B.Allocator.meaning c.args.self.now c.args.region.now in
    after st c.in_ok-spot.ensures.ready (Reserve c.args.h.handle c.args.more) 0 (over st (lines_of c.put.new.self) (g.B.Allocator.meaning c.relocate.new.allocator) c.relocate.new.region) tt
    (link.moved_grants st c.args.h.handle c.in_ok-spot.spot c.in_ok-spot.ensures c.args.more c.args.h.mutable c.in_ok-room.room.bytes c.base-base.result c.next_multiple_of-start.result (asked c.in_ok-room.room.layout) c.in_ok-block.block (g.B.Allocator.meaning c.relocate.new.allocator) c.relocate.new.region c.relocated-line.result (lines_of c.put.new.self)
    (sym c.if-has_room.ensures) c.in_ok-room.ensures.2 c.in_ok-room.ensures.1 c.in_ok-block.ensures c.in_ok-room.ensures.0 c.base-base.ensures c.next_multiple_of-start.ensures.value c.relocated-line.ensures c.put.ensures)
