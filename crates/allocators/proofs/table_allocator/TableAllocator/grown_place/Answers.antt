use Rattle.std.proofs.Common.{sym}
use Rattle.allocators.specs.Blocks.{may_grow_within}
use Rattle.allocators.proofs.table_allocator.TableAllocator.grown_place.Goals as goal

pub stays-requires : goal.stays-requires
stays-requires g c =
    let a = c.args.self.now.arena in
    may_grow_within a.base a.extent a.live.items c.args.block c.from-new.result a.kept (sym c.if-not-may_grow.ensures)
