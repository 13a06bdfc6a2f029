use Rattle.std.proofs.Common.{subst}
use Rattle.element.specs.Patterns.{Bytes}
use Rattle.element.specs.Digits.{bytes_held}
use Rattle.element.proofs.theorems.put_bytes.Goals as goal

pub returns : goal.returns
returns g c = subst Bytes c.put.ensures (bytes_held c.put.new.out c.type_inv.out)
