-- The register of the live handles after a new one.
use Rattle.std.specs.Prelude.{◌≡◌, ℕ, ◌+◌, List, [], ◌∷◌, ◌++◌}
use Rattle.model.specs.declared.line.Line.{Line}

-- a line is behind the others, and its serial is spent
abbrev pub Added : ℕ → List Line → Line → ℕ → List Line → Type 0
Added next ls new next' ls' = (next' ≡ next + 1) × (ls' ≡ ls ++ (new ∷ []))
