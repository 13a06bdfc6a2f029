use Rattle.std.specs.Prelude.{ℕ}
use Rattle.pair_kind.specs.declared.Pair.{Pair}

unfoldable pub pair : ℕ → ℕ → Pair
pair a b = record { first = a; second = b }
