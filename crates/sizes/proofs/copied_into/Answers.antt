use Rattle.model.specs.Effects.{copied_into}
use Rattle.sizes.proofs.copied_into.Goals as goal

pub returns : goal.returns
unfolding copied_into
returns c = rw (c.new.ensures, c.start.ensures)
