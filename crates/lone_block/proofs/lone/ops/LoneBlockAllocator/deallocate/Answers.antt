use Rattle.std.proofs.Common.{sym, rules}
use Rattle.lone_block.specs.Laws.{freed}
use Rattle.lone_block.proofs.lone.ops.LoneBlockAllocator.deallocate.Goals as goal

pub returns : goal.returns
returns c =
    let a = c.args.self.now in
    record { outcome = (search rules, freed a.base a.extent a.long a.live c.args.block (sym c.if-not-is_live.ensures)) }
