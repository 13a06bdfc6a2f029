use Rattle.model.proofs.Settled.{settled_law}
use Rattle.model.proofs.theorems.settled_law.Goals as goal

pub returns : goal.returns
returns c = settled_law
