use Rattle.std.proofs.Common.{arith}
use Rattle.sizes.proofs.Bounds.{start_low}
use Rattle.sizes.proofs.seat.Seat.place.Goals as goal

pub overflow_sub-result : goal.overflow_sub-result
overflow_sub-result c = omega (arith, start_low c.args.self.base c.args.self.m c.in-Some.field-0 c.args.self.got c.start.result c.in-Some.is c.start.ensures)
