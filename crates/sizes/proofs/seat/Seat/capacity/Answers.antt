use Rattle.sizes.proofs.Bounds.{start_high, start_low}
use Rattle.sizes.proofs.seat.Seat.capacity.Goals as goal

pub overflow_sub-offset : goal.overflow_sub-offset
overflow_sub-offset c = start_low c.args.self.base c.args.self.m c.in-Some.block c.args.self.got c.start.result c.in-Some.is c.start.ensures

pub overflow_sub-result : goal.overflow_sub-result
overflow_sub-result c = start_high c.args.self.base c.args.self.m c.in-Some.block c.args.self.got c.start.result c.in-Some.is c.start.ensures c.args.self.spaced
