use Rattle.model.proofs.Answering.{answered_law}
use Rattle.model.proofs.theorems.answered_law.Goals as goal

pub returns : goal.returns
returns g c = answered_law
