use Rattle.std.proofs.Common.{◌≡◌, true, sym, ap, ◌∙◌, rules}
use Rattle.allocators.specs.Fitting.{sound}
use Rattle.allocators.specs.Blocks.{sound_without, without_none}
use Rattle.allocators.specs.Laws.{frees}
use Rattle.allocators.specs.Placings.{meaning_by}
use Rattle.allocators.proofs.table_allocator.TableAllocatorAllocator.deallocate.Goals as goal

pub invariant_of-self : goal.invariant_of-self
invariant_of-self g c =
    let a = c.args.self.now.arena in
    let kept : sound a.base a.extent c.take_out.new.live.items ≡ true = rw c.take_out.ensures.taken (sound_without a.base a.extent a.live.items c.args.block a.kept) in
    record { low = a.low; long = a.long; short = a.short; kept = kept }

-- A block that is not there leaves the blocks as they were.
pub returns-then-not-take_out : goal.returns-then-not-take_out
returns-then-not-take_out g c =
    let a = c.args.self.now.arena in
    let stayed : c.take_out.new.live.items ≡ a.live.items = c.take_out.ensures.taken ∙ without_none a.live.items c.args.block (sym c.if-not-take_out.ensures.found) in
    record { outcome = (search rules, ap (meaning_by g.P.Placement.placing a.base a.extent) stayed) }

pub returns : goal.returns
returns g c =
    let a = c.args.self.now.arena in
    record {
      outcome = (search rules, frees g.P.Placement.placing g.met.P.Placement.fair a.base a.extent a.long a.live.items a.kept c.take_out.new.live.items c.args.block c.take_out.ensures.taken);
    }
