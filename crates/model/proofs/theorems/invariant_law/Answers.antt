use Rattle.model.proofs.KeepsSure.{invariant_law}
use Rattle.model.proofs.theorems.invariant_law.Goals as goal

pub returns : goal.returns
returns c = invariant_law
