use Rattle.std.proofs.Common.{◌≡◌, ◌≤◌, true, arith}
use Rattle.allocators.specs.Fitting.{sound, highest_end}
use Rattle.allocators.specs.Blocks.{sound_at, sound_among}
use Rattle.allocators.specs.Grants.{highest_within}
use Rattle.allocators.proofs.arena.Arena.highest_end.Goals as goal

pub highest-requires : goal.highest-requires
highest-requires c =
    let a = c.args.self.now in
    let live = c.as_slice.result.now in
    let ok : sound a.base a.extent live ≡ true = rw c.as_slice.ensures.value a.kept in
    λ k d l. let h = sound_at a.base a.extent live k d ok l in omega arith

pub returns-clause-within : goal.returns-clause-within
returns-clause-within c =
    let a = c.args.self.now in
    let live = c.as_slice.result.now in
    let ok : sound a.base a.extent live ≡ true = rw c.as_slice.ensures.value a.kept in
    let low : highest_end live ≤ a.extent = highest_within a.extent live (λ b h. (sound_among a.base a.extent live ok b h).within) in
    omega (arith, c.highest.ensures)
