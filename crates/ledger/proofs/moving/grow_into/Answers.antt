use Rattle.std.proofs.Common.{◌-◌, length, Some, refl, ap, arith}
use Rattle.std.proofs.lemmas.Result.{err_from_is_err_and}
use Rattle.allocation.specs.Asked.{asked}
use Rattle.allocation.specs.Meaning.{Meaning}
use Rattle.sizes.proofs.Bounds.{start_low}
use Rattle.ledger.proofs.Movings.{grown_within, spaced_in, place_fits, grow_granted, grow_refused, offset_fits, grown_by}
use Rattle.ledger.proofs.moving.grow_into.Goals as goal

pub returns-in_err-grow : goal.returns-in_err-grow
returns-in_err-grow g c =
    let m : Meaning = g.B.Allocator.meaning c.args.allocator.now in
    let p = err_from_is_err_and c.from_residual.result c.from_residual.ensures.1 in
    let b = c.in_err-grow.ensures.outcome in
    let r = grow_refused m (length c.args.region.now) c.args.line (asked c.args.layout) c.requires.movable c.args.block c.requires.on c.requires.larger _ b.0 in
    rw (p.1, p.2) (r.0, r.1, b.2, b.3)

pub invariant_of-seat : goal.invariant_of-seat
invariant_of-seat g c =
    let m : Meaning = g.B.Allocator.meaning c.args.allocator.now in
    let x = c.in_ok-grow.ensures.outcome.1 in
    record { spaced = spaced_in m (length c.args.region.now) c.args.line (asked c.args.layout) c.requires.movable c.grow.new.self.block c.base-base.result x.size (grown_within m c.args.block (asked c.args.layout) c.grow.new.self.block _ _ _ x) c.base-base.ensures }

pub overflow_sub-place : goal.overflow_sub-place
overflow_sub-place g c = omega (arith, start_low c.base-base.result c.args.line.claim c.grow.new.self.block (Some c.grow.new.self.block) c.start.result refl c.start.ensures)

pub grown_place-from-requires : goal.grown_place-from-requires
grown_place-from-requires g c =
    let m : Meaning = g.B.Allocator.meaning c.args.allocator.now in
    let x = c.in_ok-grow.ensures.outcome.1 in
    let o = offset_fits m (length c.args.region.now) c.args.line (asked c.args.layout) c.requires.movable c.args.block c.requires.on c.requires.larger c.grow.new.self.block c.base-base.result x.size (grown_within m c.args.block (asked c.args.layout) c.grow.new.self.block _ _ _ x) c.base-base.ensures in
    (o.0, o.1)

pub move_within-requires : goal.move_within-requires
move_within-requires g c =
    let m : Meaning = g.B.Allocator.meaning c.args.allocator.now in
    let x = c.in_ok-grow.ensures.outcome.1 in
    let w = grown_within m c.args.block (asked c.args.layout) c.grow.new.self.block _ _ _ x in
    let o = offset_fits m (length c.args.region.now) c.args.line (asked c.args.layout) c.requires.movable c.args.block c.requires.on c.requires.larger c.grow.new.self.block c.base-base.result x.size w c.base-base.ensures in
    let b = place_fits m (length c.args.region.now) c.args.line (asked c.args.layout) c.requires.movable c.grow.new.self.block c.base-base.result _ x.size w c.base-base.ensures (ap (λ z. z - c.base-base.result) c.start.ensures) in
    record { source = omega (arith, o.2, x.outside.long, c.grown_place-from.ensures); target = omega (arith, b, x.outside.long) }

pub returns : goal.returns
returns g c =
    let m : Meaning = g.B.Allocator.meaning c.args.allocator.now in
    let x = c.in_ok-grow.ensures.outcome in (
      grow_granted m (length c.args.region.now) c.args.line (asked c.args.layout) c.requires.movable c.args.block c.requires.on c.requires.larger x.0,
      grown_by m (length c.args.region.now) c.args.line (asked c.args.layout) c.requires.movable c.args.block c.requires.on c.requires.larger c.grow.new.self.block c.base-base.result _ c.grown_place-from.result _ _ c.grow.new.region _
          c.base-base.ensures (ap (λ z. z - c.base-base.result) c.start.ensures) c.grown_place-from.ensures x.1 c.move_within.ensures,
    )
