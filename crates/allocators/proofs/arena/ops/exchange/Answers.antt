use Rattle.std.proofs.Common.{arith}
use Rattle.allocators.specs.Blocks.{without_length}
use Rattle.allocators.proofs.arena.ops.exchange.Goals as goal

pub push-requires : goal.push-requires
push-requires c =
    let less = without_length c.args.live.now.items c.args.block c.requires in
    rw c.take_out.ensures.taken (omega (arith, c.take_out.ensures.few))
