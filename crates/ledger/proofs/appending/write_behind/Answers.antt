use Rattle.std.proofs.Common.{sym, ◌∙◌}
use Rattle.region.proofs.Writes.{overwrite_none}
use Rattle.ledger.proofs.Appends.{joined_none}
use Rattle.ledger.proofs.appending.write_behind.Goals as goal

pub returns-then-count-eq0 : goal.returns-then-count-eq0
returns-then-count-eq0 g c =
    let vs = g.V.Values.patterns c.args.values.now in
    rw (sym (g.met.V.Values.joins c.args.values.now) ∙ joined_none vs (sym c.count.ensures ∙ c.if-count-eq0.true)) (sym (overwrite_none _ c.args.region.now))
