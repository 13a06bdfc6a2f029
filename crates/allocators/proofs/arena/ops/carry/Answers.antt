use Rattle.std.proofs.Common.{ℕ, sym, ap, ◌∙◌}
use Rattle.region.specs.Bytes.{part, overwrite}
use Rattle.region.proofs.Copies.{overwrite_itself}
use Rattle.allocators.proofs.arena.ops.carry.Goals as goal

pub returns-else-place-block : goal.returns-else-place-block
returns-else-place-block c =
    let xs = c.args.region.now in
    let b = c.args.block in
    sym (ap (λ (p : ℕ). overwrite p (part b.place b.size xs) xs) c.if-place-block.false ∙ overwrite_itself b.place b.size xs c.requires.source)
