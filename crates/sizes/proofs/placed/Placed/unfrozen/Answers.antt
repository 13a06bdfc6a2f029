use Rattle.std.proofs.Common.{Some, rules, arith}
use Rattle.model.specs.Book.{block_of}
use Rattle.model.specs.Invariant.{Sits}
use Rattle.sizes.proofs.placed.Placed.unfrozen.Goals as goal

pub overflow_add-offset : goal.overflow_add-offset
unfolding block_of
overflow_add-offset c = let s : Sits c.args.self.base c.args.self.line (Some c.in-Owned.block) = rw c.in-Owned.is at c.args.self.sits in search (s, rules)

pub overflow_sub-offset : goal.overflow_sub-offset
unfolding block_of
overflow_sub-offset c = let s : Sits c.args.self.base c.args.self.line (Some c.in-Owned.block) = rw c.in-Owned.is at c.args.self.sits in s.0

pub overflow_sub-block : goal.overflow_sub-block
unfolding block_of
overflow_sub-block c = let s : Sits c.args.self.base c.args.self.line (Some c.in-Owned.block) = rw c.in-Owned.is at c.args.self.sits in omega (arith, s.0, s.1)
