-- Typed handles as handles of the definitions, and kinds and alignments as their numbers.
use Rattle.std.specs.Prelude.{ℕ, ◌^◌, Bool, true, false, Some, None, Option}
use Rattle.allocation.specs.declared.alignment.Alignment.{Alignment}
use Rattle.element.specs.declared.Element.{Ghosts as Element}
use Rattle.model.specs.declared.line.Handle.{Handle}
use Rattle.model.specs.declared.line.Kind.{Kind}
use Rattle.buffer.specs.declared.state.Mutable.{Mutable}
use Rattle.buffer.specs.declared.state.Shared.{Shared}
use Rattle.buffer.specs.declared.typed_handle.TypedHandle.{TypedHandle}

-- an alignment in bytes
abbrev pub bytes_of : Alignment → ℕ
bytes_of a = 2 ^ a.exponent

-- an alignment that may be left out
abbrev pub bytes_if : Option Alignment → Option ℕ
bytes_if None = None
bytes_if (Some a) = Some (bytes_of a)

-- a typed handle, mutable or shared, on elements of a kind, as the book knows it
abbrev pub handle : {S K : Type 0} → Bool → Kind → TypedHandle S K → Handle
handle mutable k h = record { store = h.store; serial = h.serial; mutable = mutable; kind = k }

module _ {K : Type 0} where
  -- the kind of the elements of a type, by its width and alignment
  abbrev pub kind : Element K → Kind
  kind e = record { width = e.width; align = e.align }

  -- a mutable handle on them
  abbrev pub mutable_handle : Element K → TypedHandle Mutable K → Handle
  mutable_handle e h = handle true (kind e) h

  -- a shared handle on them
  abbrev pub shared_handle : Element K → TypedHandle Shared K → Handle
  shared_handle e h = handle false (kind e) h
