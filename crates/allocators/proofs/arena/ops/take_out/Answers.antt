use Rattle.std.proofs.Common.{sym, ◌∙◌}
use Rattle.allocators.specs.Blocks.{found_among, missing_among, without_found, without_missing}
use Rattle.allocators.proofs.arena.ops.take_out.Goals as goal

pub returns-in_default-clause-found : goal.returns-in_default-clause-found
returns-in_default-clause-found c =
    sym (missing_among c.args.live.now.items c.args.block (sym (rw c.as_slice.ensures.value at c.in_default.ensures)))

pub returns-in_default-clause-taken : goal.returns-in_default-clause-taken
returns-in_default-clause-taken c =
    sym (without_missing c.args.live.now.items c.args.block (sym (rw c.as_slice.ensures.value at c.in_default.ensures)))

pub returns-clause-found : goal.returns-clause-found
returns-clause-found c =
    sym (found_among c.args.live.now.items c.in-Some.i c.args.block (sym (rw c.as_slice.ensures.value at c.in-Some.ensures)))

pub returns-clause-taken : goal.returns-clause-taken
returns-clause-taken c =
    let xs = c.args.live.now.items in
    c.remove.ensures.items ∙ sym (without_found xs c.args.block c.in-Some.i (sym (rw c.as_slice.ensures.value at c.in-Some.ensures)))
