use Rattle.std.proofs.Common.{sym, rules}
use Rattle.allocation.specs.Asked.{asked}
use Rattle.lone_block.specs.Laws.{grown}
use Rattle.lone_block.proofs.lone.ops.LoneBlockAllocator.grow.Goals as goal

pub returns : goal.returns
returns c =
    let a = c.args.self.now in
    record { outcome = (search rules, grown a.base a.extent a.long a.live c.args.block (asked c.args.layout) c.at-grown.result c.args.region.now c.at-grown.ensures (sym c.if-not-is_live.ensures) (sym c.if-not-has_room.ensures)) }
