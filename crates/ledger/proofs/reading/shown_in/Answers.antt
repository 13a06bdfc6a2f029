use Rattle.std.proofs.Common.{◌≡◌, ℕ, ◌+◌, ◌-◌, ◌*◌, List, take, drop, ap, ◌∙◌, arith}
use Rattle.region.specs.Bytes.{part}
use Rattle.ledger.proofs.reading.shown_in.Goals as goal

sized : (f n : ℕ) → f + n - f ≡ n
sized f n = omega arith

pub returns : goal.returns
unfolding part
returns c =
    let n : ℕ = c.args.placed.line.len * c.args.placed.line.kind.width in
    let xs : List ℕ = c.args.region.now in
    ap (λ (k : ℕ). take k (drop c.shown_place-from.result xs)) (sized c.shown_place-from.result n) ∙ ap (λ (z : ℕ). take n (drop z xs)) c.shown_place-from.ensures
