use Rattle.std.proofs.Common.{◌≡◌, ◌+◌, ◌-◌, length, take, drop, replicate, ap, ◌∙◌, arith, rules}
use Rattle.std.proofs.lemmas.List.Edits.{length-between}
use Rattle.region.specs.Bytes.{overwrite}
use Rattle.region.proofs.Writes.{overwrite_lent}
use Rattle.region.proofs.zero_within.Goals as goal

pub returns : goal.returns
returns c =
    let r = c.args.region.now in
    let place = c.args.place in
    let len : length (take (place + c.args.n - place) (drop place r)) ≡ c.args.n = length-between r place (place + c.args.n) c.requires ∙ omega arith in
    let zeros : c.zero.new.bytes ≡ replicate c.args.n 0 = c.zero.ensures ∙ ap (λ n. replicate n 0) len in
    overwrite_lent place _ _ r (search rules) ∙ ap (λ bs. overwrite place bs r) zeros
