use Rattle.std.proofs.Common.{length, refl}
use Rattle.allocation.specs.Asked.{asked}
use Rattle.allocation.specs.Meaning.{Meaning}
use Rattle.ledger.proofs.Movings.{taken_within, copyable, old_goes}
use Rattle.ledger.proofs.moving.take_new.Goals as goal

pub copy_in-requires : goal.copy_in-requires
copy_in-requires g c =
    let m : Meaning = g.B.Allocator.meaning c.args.allocator.now in
    let x = c.in_ok-allocation.ensures.outcome.1 in
    copyable m (length c.args.region.now) c.args.line (asked c.args.layout) c.requires c.in_ok-allocation.allocation.block c.base-base.result _ x.size (taken_within m (asked c.args.layout) c.in_ok-allocation.allocation.block _ x) c.base-base.ensures refl

pub returns-in_err-give_back : goal.returns-in_err-give_back
returns-in_err-give_back g c =
    let m : Meaning = g.B.Allocator.meaning c.args.allocator.now in
    absurd (old_goes m (length c.args.region.now) c.args.line (asked c.args.layout) c.requires (length c.copy_in.new.region) c.in_ok-allocation.allocation.block (g.B.Allocator.meaning c.allocate.new.allocator) c.block.result _
    c.copy_in.auto.region c.in_ok-allocation.ensures.outcome.1 c.block.ensures c.in_err-give_back.ensures.0)
