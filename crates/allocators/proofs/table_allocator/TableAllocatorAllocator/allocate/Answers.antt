use Rattle.std.proofs.Common.{◌≡◌, [], ◌∷◌, ◌++◌}
use Rattle.allocation.specs.Asked.{asked}
use Rattle.allocation.specs.Faults.{block_at}
use Rattle.allocators.specs.Laws.{allocates, sound_added}
use Rattle.allocators.proofs.table_allocator.TableAllocatorAllocator.allocate.Goals as goal

pub invariant_of-self : goal.invariant_of-self
invariant_of-self g c =
    let a = c.args.self.now.arena in
    let p = c.in_ok-place.place in
    let e : c.push.new.self.items ≡ a.live.items ++ block_at p (asked c.args.layout) ∷ [] = rw c.at.ensures at c.push.ensures.items in
    let kept = sound_added a.base a.extent a.live.items a.kept (asked c.args.layout) p c.in_ok-place.ensures.2.fitting c.push.new.self.items e in
    record { low = a.low; long = a.long; short = a.short; kept = kept }

pub returns : goal.returns
returns g c =
    let a = c.args.self.now.arena in
    let p = c.in_ok-place.place in
    let done = c.in_ok-place.ensures in
    let e : c.push.new.self.items ≡ a.live.items ++ block_at p (asked c.args.layout) ∷ [] = rw c.at.ensures at c.push.ensures.items in
    record {
      outcome = (done.0, allocates g.P.Placement.placing g.met.P.Placement.fair a.base a.extent a.long a.live.items a.kept c.push.new.self.items (asked c.args.layout) p done.2.fitting e);
      lowest = done.2;
    }
