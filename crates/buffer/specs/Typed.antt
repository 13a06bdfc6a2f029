-- Every public call of a kind is one that a run may make: its kind is sound, its alignments are alignments, its patterns have the kind's width.
use Rattle.std.specs.Prelude.{◌≡◌, ℕ, Bool, List, map, Option}
use Rattle.allocation.specs.declared.alignment.Alignment.{Alignment}
use Rattle.element.specs.declared.Element.{Ghosts as Element}
use Rattle.model.specs.Calls.{aligned, aligned_mut, copy_from_aligned_in, copy_from_preferred_aligned_in, empty_aligned, empty_aligned_in, ensure_aligned, extend_from_slice, from_byte_buffer, from_byte_buffer_aligned, push, push_n, set, slice_with_alignment, with_capacity_aligned_in, with_capacity_in, with_capacity_preferred_aligned_in, zeroed_aligned_in, zeroed_preferred_aligned_in}
use Rattle.model.specs.Runs.{Sound}
use Rattle.std.specs.declared.ops.Bound.{Bound}
use Rattle.model.specs.declared.line.Handle.{Handle}
use Rattle.buffer.specs.Handles.{bytes_if, bytes_of, kind}
use Rattle.buffer.specs.Makings.{copy_from_of, full_of, zeroed_of}

module _ {K : Type 0} (e : Element K) where
  -- the makings that both states have
  pub record TypedMakings (mutable : Bool) : Type 0 where
    pub zeroed : (n : ℕ) → Sound (zeroed_of mutable (kind e) n)
    pub full : (v : K) (n : ℕ) → Sound (full_of mutable (kind e) (e.pattern v) n)
    pub copy_from : (vs : List K) → Sound (copy_from_of mutable (kind e) (map e.pattern vs))

  -- the makings of a mutable handle alone
  pub record TypedMutableMakings : Type 0 where
    pub with_capacity : (n : ℕ) → Sound (with_capacity_in (kind e) n)
    pub with_capacity_aligned : (n : ℕ) (a : Alignment) → Sound (with_capacity_aligned_in (kind e) n (bytes_of a))
    pub with_capacity_preferred : (n : ℕ) (a : Alignment) (p : Option Alignment) → Sound (with_capacity_preferred_aligned_in (kind e) n (bytes_of a) (bytes_if p))
    pub zeroed_aligned : (n : ℕ) (a : Alignment) → Sound (zeroed_aligned_in (kind e) n (bytes_of a))
    pub zeroed_preferred : (n : ℕ) (a : Alignment) (p : Option Alignment) → Sound (zeroed_preferred_aligned_in (kind e) n (bytes_of a) (bytes_if p))
    pub empty : (a : Alignment) → Sound (empty_aligned_in (kind e) (bytes_of a))
    pub copy_from_aligned : (vs : List K) (a : Alignment) → Sound (copy_from_aligned_in (kind e) (map e.pattern vs) (bytes_of a))
    pub copy_from_preferred : (vs : List K) (a : Alignment) (p : Option Alignment) → Sound (copy_from_preferred_aligned_in (kind e) (map e.pattern vs) (bytes_of a) (bytes_if p))

  -- the making of a shared handle alone
  pub record TypedSharedMakings : Type 0 where
    pub empty : (a : Alignment) → Sound (empty_aligned (kind e) (bytes_of a))

  -- the calls on a handle of the kind
  pub record TypedCalls (h : Handle) : Type 0 where
    pub push : (v : K) → Sound (push h (e.pattern v))
    pub push_n : (v : K) (n : ℕ) → Sound (push_n h (e.pattern v) n)
    pub extend : (vs : List K) → Sound (extend_from_slice h (map e.pattern vs))
    pub set : (i : ℕ) (v : K) → Sound (set h i (e.pattern v))
    pub aligned_mutable : (a : Alignment) → Sound (aligned_mut h (bytes_of a))
    pub aligned_shared : (a : Alignment) → Sound (aligned h (bytes_of a))
    pub ensure_aligned : (a : Alignment) → Sound (ensure_aligned h (bytes_of a))
    pub slice : (first last : Bound ℕ) (a : Alignment) → Sound (slice_with_alignment h first last (bytes_of a))

  -- bytes that become elements of the kind
  pub record TypedBytes (h : Handle) : Type 0 where
    pub plain : Sound (from_byte_buffer h (kind e))
    pub aligned : (a : Alignment) → Sound (from_byte_buffer_aligned h (kind e) (bytes_of a))

  -- all of them; the calls that take neither kinds nor values nor alignments are sound as they are
  pub record TypedLaw : Type 0 where
    pub makings : (mutable : Bool) → TypedMakings mutable
    pub mutable_makings : TypedMutableMakings
    pub shared_makings : TypedSharedMakings
    pub calls : (h : Handle) → h.kind ≡ kind e → TypedCalls h
    pub bytes : (h : Handle) → TypedBytes h
