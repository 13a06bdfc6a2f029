use Rattle.std.proofs.Common.{◌≡◌, ◌+◌, ◌-◌, ◌*◌, ◌<◌, length, take, drop, ap, ◌∙◌, arith}
use Rattle.region.specs.Bytes.{part}
use Rattle.element.proofs.Behind.{wide, ends_inside, ends_outside}
use Rattle.element.proofs.writing.read_at.Goals as goal

pub returns-then-index-bytes : goal.returns-then-index-bytes
returns-then-index-bytes g c =
    let w = c.width-width.result in
    let positive : 0 < w = omega (arith, c.width-width.ensures, wide g.met.K.Element.shaped) in
    rw (← c.width-width.ensures) (ends_outside c.args.index (length c.args.bytes.now) w positive c.if-index-bytes.true)

pub returns : goal.returns
unfolding part
returns g c =
    let bs = c.args.bytes.now in
    let i = c.args.index in
    let w = c.width-width.result in
    let positive : 0 < w = omega (arith, c.width-width.ensures, wide g.met.K.Element.shaped) in
    let inside = ends_inside i (length bs) w positive c.if-index-bytes.false in
    let count : i * w + w - i * w ≡ w = omega arith in
    rw (← c.width-width.ensures) (inside, c.get.ensures ∙ ap (λ n. take n (drop (i * w) bs)) count)
