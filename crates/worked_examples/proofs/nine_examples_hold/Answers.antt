use Rattle.worked_examples.proofs.Worked.{all_nine}
use Rattle.worked_examples.proofs.nine_examples_hold.Goals as goal

pub returns : goal.returns
returns c = all_nine
