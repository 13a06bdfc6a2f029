use Rattle.std.proofs.Common.{◌≡◌, ℕ, ◌^◌, ◌<◌, ◌≤◌, ap, ◌∙◌, arith}
use Rattle.std.proofs.lemmas.Result.{err_from_is_err_and}
use Rattle.std.proofs.lemmas.Bool.{le-ltb, lt-ltb}
use Rattle.allocation.specs.Alignments.{greatest_size, round_up}
use Rattle.allocation.proofs.Rounding.{round_up_low, round_up_high}
use Rattle.checks.proofs.layout_of.Goals as goal

-- every size is a multiple of one byte
at_one : (n e : ℕ) → e ≡ 0 → round_up n (2 ^ e) ≡ n
at_one n e z = ap (λ k. round_up n (2 ^ k)) z ∙ (let h : round_up n 1 ≡ n = omega (arith, round_up_low n 1, round_up_high n 1 (omega arith)) in h)

pub returns-in_err-from_size_align : goal.returns-in_err-from_size_align
returns-in_err-from_size_align c =
    let p = err_from_is_err_and c.from_residual.result c.from_residual.ensures.1 in
    let k = c.in_err-from_size_align.ensures in
    let beyond : greatest_size < c.args.size = omega (arith, k.0, at_one c.args.size c.none.result.exponent c.none.ensures) in
    rw (p.1, p.2) (rw (lt-ltb greatest_size c.args.size beyond, k.1))

pub returns : goal.returns
returns c =
    let k = c.in_ok-from_size_align.ensures in
    let within : c.args.size ≤ greatest_size = omega (arith, k.0, at_one c.args.size c.none.result.exponent c.none.ensures) in
    let one : 2 ^ c.in_ok-from_size_align.field-0.align.exponent ≡ 1 = ap (λ a. 2 ^ a.exponent) k.2 ∙ ap (λ e. 2 ^ e) c.none.ensures in
    (λ j. record { size = k.1 j; align = one j }, rw (le-ltb greatest_size c.args.size within))
