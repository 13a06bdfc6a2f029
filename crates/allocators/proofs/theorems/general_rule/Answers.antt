use Rattle.allocators.proofs.InWords.{general_holds}
use Rattle.allocators.proofs.theorems.general_rule.Goals as goal

pub returns : goal.returns
returns c = general_holds
