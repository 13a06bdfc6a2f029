use Rattle.buffer.proofs.Typed.{parts_agree}
use Rattle.buffer.proofs.comparing.values_law.Goals as goal

pub returns : goal.returns
returns g c = parts_agree g.K.Element g.met.K.Element.shaped g.met.K.Element.faithful
