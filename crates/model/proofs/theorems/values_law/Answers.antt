use Rattle.model.proofs.Values.{values_law}
use Rattle.model.proofs.theorems.values_law.Goals as goal

pub returns : goal.returns
returns g c = values_law
