-- Which element kinds there may be.
use Rattle.std.specs.Prelude.{◌≡◌, ℕ, ◌^◌, ◌≤◌, Bool, ◌&&◌, ◌==◌}
use Rattle.allocation.specs.Alignments.{IsAlignment}
use Rattle.model.specs.declared.line.Kind.{Kind}

-- 1, 2, 4, 8 or 16 bytes
abbrev pub IsWidth : ℕ → Type 0
IsWidth w = (e : ℕ) × (e ≤ 4) × (w ≡ 2 ^ e)

-- a kind that elements may have: its alignment is a power of two, not above its width
pub record SoundKind (k : Kind) : Type 0 where
  pub width : IsWidth k.width
  pub align : IsAlignment k.align
  pub within : k.align ≤ k.width

-- the kind of bytes
abbrev pub byte : Kind
byte = record { width = 1; align = 1 }

-- is this the kind of bytes?
abbrev pub is_byte : Kind → Bool
is_byte k = k.width == 1 && k.align == 1
