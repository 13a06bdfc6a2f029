-- A layout of the code as plain numbers.
use Rattle.std.specs.Prelude.{ℕ, ◌^◌}
use Rattle.allocation.specs.declared.alignment.Alignment.{Alignment}
use Rattle.allocation.specs.declared.block.Request.{Request}
use Rattle.allocation.specs.declared.layout.Layout.{Layout}

-- an alignment in bytes
abbrev pub bytes_of : Alignment → ℕ
bytes_of a = 2 ^ a.exponent

-- what a layout asks for
abbrev pub asked : Layout → Request
asked l = record { size = l.size; align = bytes_of l.align }
