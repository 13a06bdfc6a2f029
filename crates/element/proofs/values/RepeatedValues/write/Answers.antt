use Rattle.std.proofs.Common.{sym, ◌∙◌, arith}
use Rattle.std.proofs.lemmas.List.{length-replicate, replicate_more}
use Rattle.region.proofs.Writes.{overwrite_none}
use Rattle.element.proofs.Behind.{write_more}
use Rattle.element.proofs.values.RepeatedValues.write.Goals as goal

pub loop-i-init : goal.loop-i-init
loop-i-init g c = sym (overwrite_none c.args.place c.args.region.now)

pub loop-i-preserved : goal.loop-i-preserved
loop-i-preserved g c =
    let k = g.K.Element in
    let i = c.loop-i.i in
    let x = c.args.self.now.value.now in
    c.write_one.ensures ∙ write_more k.width k.pattern g.met.K.Element.faithful.long _ x _ c.args.place i _ _ _ (length-replicate i x) (replicate_more i x) c.width-width.ensures (omega (arith, c.requires)) c.loop-i.invariant
