-- What `same` answers, as a verdict of the definitions.
use Rattle.std.specs.Prelude.{Bool, Ok, Err, Result}
use Rattle.allocation.specs.declared.fault.Fault.{Fault}
use Rattle.model.specs.Reads.{Verdict, fails, says}

abbrev pub verdict : Result Bool Fault → Verdict
verdict (Ok b) = says b
verdict (Err f) = fails f
