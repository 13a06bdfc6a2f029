use Rattle.std.proofs.Common.{w64, SFits, rules}
use Rattle.element.specs.Digits.{signed_put}
use Rattle.element.proofs.integers.I64Element.put.Goals as goal

pub returns : goal.returns
returns c =
    let fits : SFits w64 c.args.self.now = search rules in
    signed_put c.args.self.now c.cast_unsigned.result _ fits c.cast_unsigned.ensures c.put.ensures
