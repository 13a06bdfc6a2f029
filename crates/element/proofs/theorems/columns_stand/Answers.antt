use Rattle.element.proofs.Behind.{wide}
use Rattle.element.proofs.Whole.{columns}
use Rattle.element.proofs.theorems.columns_stand.Goals as goal

pub returns : goal.returns
returns g c = columns g.K.Element.width g.K.Element.pattern g.met.K.Element.faithful (wide g.met.K.Element.shaped)
