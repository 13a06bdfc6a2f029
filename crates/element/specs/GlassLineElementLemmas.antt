use Rattle.std.specs.Prelude.{ℕ, List, ◌++◌, ℤ}
use Rattle.element.specs.Patterns.{digits, complement}
use Rattle.element.specs.declared.glass_line.GlassLine.{GlassLine}

-- the two numbers behind the catalogue
abbrev pub behind : ℕ × ℤ → List ℕ
behind p = digits 4 p.0 ++ digits 8 (complement p.1)

unfoldable pub line : ℕ → ℕ × ℤ → GlassLine
line a p = record { catalogue = a; glass = p.0; thickness = p.1 }
