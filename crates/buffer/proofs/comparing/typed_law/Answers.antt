use Rattle.buffer.proofs.Typed.{typed_law}
use Rattle.buffer.proofs.comparing.typed_law.Goals as goal

pub returns : goal.returns
returns g c = typed_law g.K.Element g.met.K.Element.shaped g.met.K.Element.faithful
