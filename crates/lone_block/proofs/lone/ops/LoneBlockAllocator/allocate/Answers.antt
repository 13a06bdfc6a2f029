use Rattle.std.proofs.Common.{sym, rules}
use Rattle.allocation.specs.Asked.{asked}
use Rattle.lone_block.specs.Laws.{allocated}
use Rattle.lone_block.proofs.lone.ops.LoneBlockAllocator.allocate.Goals as goal

pub returns : goal.returns
returns c =
    let a = c.args.self.now in
    record { outcome = (search rules, allocated a.base a.extent a.long a.live (asked c.args.layout) c.candidate-block.result c.candidate-block.ensures (sym c.if-not-would_grant.ensures)) }
