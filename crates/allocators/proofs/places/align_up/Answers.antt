use Rattle.std.proofs.Common.{◌≡◌, ◌+◌, ◌-◌, arith}
use Rattle.allocation.specs.Alignments.{round_up}
use Rattle.allocation.proofs.Rounding.{round_up_first}
use Rattle.allocators.proofs.places.align_up.Goals as goal

pub returns : goal.returns
unfolding round_up
returns c =
    let base = c.args.base in
    let r = c.next_multiple_of.result in
    let found = c.next_multiple_of.ensures in
    let there : base + (r - base) ≡ r = omega (arith, found.lower_bound) in
    record {
      above = omega (arith, found.lower_bound);
      near = omega (arith, found.upper_bound);
      aligned = rw there found.multiple;
      first = λ q le multiple. let least = round_up_first (base + c.args.from) c.args.align (base + q) (omega arith) (omega arith) multiple in omega (arith, found.value);
    }
