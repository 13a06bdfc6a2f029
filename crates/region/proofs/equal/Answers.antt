use Rattle.std.proofs.Common.{rules}
use Rattle.std.proofs.lemmas.Bool.Decides.{Decides-eqb}
use Rattle.std.proofs.lemmas.Slice.Eq.{slice_eq-Decides}
use Rattle.region.proofs.Writes.{equal_decides}
use Rattle.region.proofs.equal.Goals as goal

pub returns : goal.returns
returns c =
    let a = c.args.a.now in
    let b = c.args.b.now in
    let r = slice_eq-Decides Decides-eqb a b c.eq.result c.eq.ensures in
    let d = equal_decides a b in
    search rules
