-- The glass line as 16 bytes: the catalogue, the glass, the thickness.
use Rattle.std.specs.Prelude.{ℕ, List, ◌++◌}
use Rattle.element.specs.Patterns.{digits, complement}
use Rattle.element.specs.declared.glass_line.GlassLine.{GlassLine}

abbrev pub glass_pattern : GlassLine → List ℕ
glass_pattern g = digits 4 g.catalogue ++ (digits 4 g.glass ++ digits 8 (complement g.thickness))
