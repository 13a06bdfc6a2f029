use Rattle.std.proofs.Common.{w64, SFits, rules}
use Rattle.element.specs.Digits.{signed_get}
use Rattle.element.proofs.integers.I64Element.get.Goals as goal

pub returns : goal.returns
returns c =
    let fits : SFits w64 c.cast_signed.result = search rules in
    signed_get c.cast_signed.result c.get.result c.args.bytes.now (record { fits = c.get.type_inv }) fits c.cast_signed.ensures c.get.ensures
