use Rattle.std.proofs.Common.{◌≡◌, Some, None, sym, ◌∙◌}
use Rattle.region.proofs.Writes.{overwrite_none}
use Rattle.model.specs.Book.{shown, shown_on, block_of}
use Rattle.ledger.proofs.moving.copy_shown.Goals as goal

pub returns-in-Some : goal.returns-in-Some
unfolding shown shown_on
returns-in-Some c =
    let o : block_of c.args.line.backing ≡ Some c.in-Some.field-0 = sym c.block.ensures ∙ c.in-Some.is in
    rw o c.move_within.ensures

pub returns-in_default : goal.returns-in_default
unfolding shown shown_on
returns-in_default c =
    let o : block_of c.args.line.backing ≡ None = sym c.block.ensures ∙ c.in_default.is in
    rw o (sym (overwrite_none c.args.place c.args.region.now))
