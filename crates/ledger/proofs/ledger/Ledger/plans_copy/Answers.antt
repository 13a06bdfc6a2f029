use Rattle.std.proofs.Common.{rules}
use Rattle.model.specs.Book.{shared_by}
use Rattle.ledger.proofs.ledger.Ledger.plans_copy.Goals as goal

pub returns : goal.returns
unfolding shared_by
returns g c = search rules
