use Rattle.model.proofs.Law.{store_law}
use Rattle.model.proofs.theorems.store_law.Goals as goal

pub returns : goal.returns
returns c = store_law
