use Rattle.std.proofs.Common.{sym, ◌∙◌}
use Rattle.ledger.proofs.Ties.{fresh, served}
use Rattle.ledger.proofs.ledger.Ledger.new.Goals as goal

pub invariant_of-result : goal.invariant_of-result
invariant_of-result g c =
    let ok = served (g.B.Allocator.meaning c.args.allocator) (sym c.serves.ensures ∙ c.if-not-serves.false) in
    fresh (g.B.Allocator.meaning c.args.allocator) _ _ ok.0 ok.1 c.new.ensures
