use Rattle.std.proofs.Common.{◌<◌, length, arith}
use Rattle.std.proofs.lemmas.Bool.Decides.{nat_tests}
use Rattle.allocation.specs.Asked.{asked}
use Rattle.allocators.specs.Grants.{grants_found}
use Rattle.allocators.proofs.table_allocator.TableAllocator.place_for.Goals as goal

pub returns : goal.returns
returns g c =
    let a = c.args.self.now.arena in
    let free : length a.live.items < 64 = grind (arith, nat_tests) in
    grants_found a.base a.extent a.live.items (g.P.Placement.placing.start a.live.items) (asked c.args.layout)
    c.lowest_place.result c.start-start.result c.from.result c.start-start.ensures.at c.from.ensures free c.lowest_place.ensures
