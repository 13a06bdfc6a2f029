use Rattle.std.proofs.Common.{◌≡◌, leb, [], ◌∷◌, ◌++◌, arith}
use Rattle.std.proofs.lemmas.Bool.{and_parts}
use Rattle.allocation.specs.Asked.{asked}
use Rattle.allocation.specs.Faults.{block_at, is_among}
use Rattle.allocators.specs.Tables.{without}
use Rattle.allocators.specs.Laws.{regrown_free, regrown_within, sound_regrown, grows_by}
use Rattle.allocators.proofs.table_allocator.TableAllocatorAllocator.grow.Goals as goal

pub carry-requires : goal.carry-requires
carry-requires g c =
    let a = c.args.self.now.arena in
    let p = c.in_ok-place.place in
    let r = asked c.args.layout in
    let done = c.in_ok-place.ensures in
    let free = regrown_free a.base a.extent a.live.items a.kept g.P.Placement.placing g.met.P.Placement.fair c.args.block r p done.2 done.3 in
    let w = regrown_within a.base a.extent a.live.items a.kept c.args.block r p done.2 free in
    record { source = omega arith; target = omega arith }

pub exchange-requires : goal.exchange-requires
exchange-requires g c =
    (and_parts (is_among c.args.block c.args.self.now.arena.live.items) (leb c.args.block.size c.args.layout.size) c.in_ok-place.ensures.2).0

pub invariant_of-self : goal.invariant_of-self
invariant_of-self g c =
    let a = c.args.self.now.arena in
    let p = c.in_ok-place.place in
    let r = asked c.args.layout in
    let done = c.in_ok-place.ensures in
    let free = regrown_free a.base a.extent a.live.items a.kept g.P.Placement.placing g.met.P.Placement.fair c.args.block r p done.2 done.3 in
    let e : c.exchange.new.live.items ≡ without a.live.items c.args.block ++ block_at p r ∷ [] = rw c.at.ensures at c.exchange.ensures in
    let kept = sound_regrown a.base a.extent a.live.items a.kept c.args.block (block_at p r) free c.exchange.new.live.items e in
    record { low = a.low; long = a.long; short = a.short; kept = kept }

pub returns : goal.returns
returns g c =
    let a = c.args.self.now.arena in
    let p = c.in_ok-place.place in
    let r = asked c.args.layout in
    let done = c.in_ok-place.ensures in
    let free = regrown_free a.base a.extent a.live.items a.kept g.P.Placement.placing g.met.P.Placement.fair c.args.block r p done.2 done.3 in
    let e : c.exchange.new.live.items ≡ without a.live.items c.args.block ++ block_at p r ∷ [] = rw c.at.ensures at c.exchange.ensures in
    record {
      outcome = (
        done.0,
        grows_by g.P.Placement.placing g.met.P.Placement.fair a.base a.extent a.long a.live.items a.kept c.exchange.new.live.items c.args.block r p c.args.region.now c.carry.new.region done.2 free done.1 e c.carry.ensures,
      );
      regrown = done.3;
      carried = c.carry.ensures;
    }
