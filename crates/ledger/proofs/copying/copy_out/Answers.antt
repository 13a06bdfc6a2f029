use Rattle.std.proofs.Common.{length}
use Rattle.allocation.specs.Meaning.{Meaning}
use Rattle.ledger.proofs.Copies as link
use Rattle.ledger.proofs.copying.copy_out.Goals as goal

pub copy_in-requires : goal.copy_in-requires
copy_in-requires g c =
    let m : Meaning = g.B.Allocator.meaning c.args.allocator.now in
    link.fitting m (length c.args.region.now) c.args.line c.args.count c.args.plan c.requires.copying c.in_ok-got.got _ c.in_ok-got.ensures.1

pub returns-in_err-give_back : goal.returns-in_err-give_back
returns-in_err-give_back g c =
    let m : Meaning = g.B.Allocator.meaning c.args.allocator.now in
    absurd (link.left_goes m (length c.args.region.now) c.args.line c.args.count c.args.plan c.requires.copying c.in_ok-got.got _ c.in_ok-got.ensures.1 (length c.copy_in.new.region) _ c.copy_in.auto.region c.in_err-give_back.ensures.0)

pub returns : goal.returns
returns g c =
    let m : Meaning = g.B.Allocator.meaning c.args.allocator.now in
    let d = link.copies_out m (length c.args.region.now) c.args.line c.args.count c.args.plan c.requires.copying c.in_ok-got.got _ c.in_ok-got.ensures.1 c.args.claim _ c.args.region.now _ c.copied_into.result c.in_ok-give_back.ensures c.copy_in.ensures c.copied_into.ensures in
    (c.in_ok-got.ensures.0, d.0, d.1)
