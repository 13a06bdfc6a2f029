use Rattle.std.proofs.Common.{◌-◌, ◌^◌, leb, sym, ap, ◌∙◌, ⊎_elim}
use Rattle.std.proofs.lemmas.Bool.{cases_lt, le-leb, lt-leb}
use Rattle.allocation.specs.Alignments.{greatest_size}
use Rattle.allocation.proofs.Rounding.{size_within, size_beyond}
use Rattle.allocation.proofs.layout.is_valid.Goals as goal

pub returns : goal.returns
returns c =
    let size = c.args.size in
    let e = c.args.align.exponent in
    let small = c.args.align.small in
    ap (λ m. leb size (greatest_size - (m - 1))) c.as_usize.ensures ∙ ⊎_elim (λ h. lt-leb size _ h ∙ sym (lt-leb _ greatest_size (size_beyond size e small h)))
    (λ h. le-leb size _ h ∙ sym (le-leb _ greatest_size (size_within size e small h)))
    (cases_lt (greatest_size - (2 ^ e - 1)) size)
