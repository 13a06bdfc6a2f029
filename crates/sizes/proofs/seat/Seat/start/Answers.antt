use Rattle.std.proofs.Common.{sym, ap, ◌∙◌}
use Rattle.allocation.specs.Alignments.{round_up}
use Rattle.model.specs.Effects.{start_in}
use Rattle.sizes.proofs.seat.Seat.start.Goals as goal

pub returns-in-Some : goal.returns-in-Some
unfolding round_up
returns-in-Some c = c.next_multiple_of.ensures.value ∙ ap (start_in c.args.self.base c.args.self.m) (sym c.in-Some.is)
