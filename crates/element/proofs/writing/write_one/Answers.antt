use Rattle.std.proofs.Common.{ap, ◌∙◌, rules}
use Rattle.region.specs.Bytes.{overwrite}
use Rattle.region.proofs.Writes.{overwrite_lent}
use Rattle.element.proofs.writing.write_one.Goals as goal

pub returns : goal.returns
returns g c =
    let r = c.args.region.now in
    overwrite_lent c.args.place _ c.put.new.out r (search rules) ∙ ap (λ bs. overwrite c.args.place bs r) c.put.ensures
