use Rattle.std.proofs.Common.{◌≡◌, ◌+◌, ◌*◌, [], ◌∷◌, ◌++◌, take, sym, ap, ◌∙◌, arith, rules}
use Rattle.std.proofs.lemmas.List.{length-take-le, take_more}
use Rattle.region.specs.Bytes.{overwrite}
use Rattle.region.proofs.Writes.{overwrite_lent, overwrite_none}
use Rattle.element.proofs.Behind.{write_more}
use Rattle.element.proofs.values.RefSliceValues.write.Goals as goal

pub loop-i-init : goal.loop-i-init
loop-i-init g c = sym (overwrite_none c.args.place c.args.region.now)

pub loop-i-preserved : goal.loop-i-preserved
loop-i-preserved g c =
    let k = g.K.Element in
    let i = c.loop-i.i in
    let xs = c.args.self.now.now in
    let x = c.value-item.result in
    let r = c.loop-i.region in
    let from = c.args.place + i * c.width-width.result in
    let more : take i xs ++ x ∷ [] ≡ take (i + 1) xs = ap (λ y. take i xs ++ y ∷ []) c.value-item.is ∙ sym (take_more xs i x c.loop-i-test.true) in
    overwrite_lent from _ c.put.new.out r (search rules) ∙ ap (λ bs. overwrite from bs r) c.put.ensures ∙ write_more k.width k.pattern g.met.K.Element.faithful.long _ x _ c.args.place i _ _ r (length-take-le i xs (omega (arith, c.loop-i-test.true))) more c.width-width.ensures (omega (arith, c.requires)) c.loop-i.invariant
