use Rattle.std.proofs.Common.{◌∙◌, arith, sym}
use Rattle.std.proofs.lemmas.List.{length-take-le}
use Rattle.element.proofs.Behind.{at_most_16}
use Rattle.element.proofs.theorems.patterns_are_bytes.Goals as goal

pub slice_bounds-out-end : goal.slice_bounds-out-end
slice_bounds-out-end g c = omega (arith, c.width.ensures, at_most_16 g.met.K.Element.shaped)

pub slice_bounds-put_bytes-end : goal.slice_bounds-put_bytes-end
slice_bounds-put_bytes-end g c = sym (length-take-le c.width.result _ (omega (arith, c.width.ensures, at_most_16 g.met.K.Element.shaped)))

pub put_bytes-requires : goal.put_bytes-requires
put_bytes-requires g c = length-take-le c.width.result _ (omega (arith, c.width.ensures, at_most_16 g.met.K.Element.shaped)) ∙ c.width.ensures
