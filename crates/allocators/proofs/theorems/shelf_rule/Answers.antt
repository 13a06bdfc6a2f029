use Rattle.allocators.proofs.InWords.{shelf_holds}
use Rattle.allocators.proofs.theorems.shelf_rule.Goals as goal

pub returns : goal.returns
returns c = shelf_holds
