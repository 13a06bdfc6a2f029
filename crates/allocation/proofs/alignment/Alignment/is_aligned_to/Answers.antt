use Rattle.allocation.proofs.Rounding.{pow_divides}
use Rattle.allocation.proofs.alignment.Alignment.is_aligned_to.Goals as goal

pub returns : goal.returns
returns c = pow_divides c.args.self.exponent c.args.other.exponent
