use Rattle.std.proofs.Common.{drop, ap, ◌∙◌, arith}
use lib.Seq.{paste}
use Rattle.std.proofs.lemmas.List.{length-drop}
use Rattle.region.specs.Bytes.{part}
use Rattle.region.proofs.Writes.{overwrite_paste}
use Rattle.region.proofs.move_within.Goals as goal

pub returns : goal.returns
unfolding part
returns c =
    let r = c.args.region.now in
    let from = c.args.from in
    c.copy_within.ensures.after ∙ ap (λ n. paste r c.args.to (drop from r) n) (omega arith) ∙ overwrite_paste c.args.to c.args.n (drop from r) r (simp length-drop (omega arith))
