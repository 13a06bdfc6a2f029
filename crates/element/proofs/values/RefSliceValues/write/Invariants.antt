use Rattle.std.proofs.Common.{◌≡◌, take}
use Rattle.std.specs.List.{flat_map}
use Rattle.region.specs.Bytes.{overwrite}
use Rattle.element.proofs.values.RefSliceValues.write.Given as goal

abbrev pub invariant-loop-i : goal.invariant-loop-i
invariant-loop-i g l = l.region ≡ overwrite l.place (flat_map g.K.Element.pattern (take l.i l.value-items)) l.initial.region
