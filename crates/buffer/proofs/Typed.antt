-- From the laws of a kind and the type of alignments to what a run asks of its calls, and to what a kind's patterns say of its values.
use Rattle.std.proofs.Common.{◌≡◌, ℕ, Bool, List, [], ◌∷◌, map, replicate, Some, None, Option, refl, arith, pow_pos}
use Rattle.allocation.specs.Alignments.{IsAlignment}
use Rattle.allocation.specs.declared.alignment.Alignment.{Alignment}
use Rattle.element.specs.Joined.{wide_map, wide_replicate}
use Rattle.element.specs.declared.Element.{Ghosts as Element}
use Rattle.element.specs.Patterns.{Bytes, OneToOne, Shaped}
use Rattle.ledger.proofs.Makes.{even_all}
use Rattle.model.specs.Calls.{preferred}
use Rattle.model.specs.Kinds.{SoundKind}
use Rattle.model.specs.Patterns.{Even}
use Rattle.model.specs.Values.{Bytes as AllBytes, Coding, PartsAgree}
use Rattle.model.specs.declared.line.Handle.{Handle}
use Rattle.model.proofs.Values.{values_law}
use Rattle.buffer.proofs.Makings.{copy_from_is, full_is, zeroed_is}
use Rattle.buffer.specs.Handles.{bytes_if, bytes_of, kind}
use Rattle.buffer.specs.Typed.{TypedBytes, TypedCalls, TypedLaw, TypedMakings, TypedMutableMakings}

-- the alignments that calls name
fair : (a : Alignment) → IsAlignment (bytes_of a)
fair a = (a.exponent, a.small, refl)

fair_default : IsAlignment 256
fair_default = (8, omega arith, refl)

fair_if : (p : Option Alignment) → IsAlignment (preferred (bytes_if p))
fair_if None = (0, omega arith, refl)
fair_if (Some a) = fair a

bytes : (bs : List ℕ) → AllBytes bs → Bytes bs
bytes [] a = tt
bytes (b ∷ bs) a = (a.0, bytes bs a.1)

module _ {K : Type 0} (e : Element K) (shaped : Shaped e.width e.align) (faithful : OneToOne e.width e.pattern) where
  sound : SoundKind (kind e)
  sound = record { width = shaped.wide; align = (shaped.grain.0, omega (arith, shaped.grain.1), shaped.grain.2); within = shaped.within }

  even : (vs : List K) → Even e.width (map e.pattern vs)
  even vs = even_all e.width (map e.pattern vs) (wide_map e.width e.pattern faithful.long vs)

  evens : (n : ℕ) (v : K) → Even e.width (replicate n (e.pattern v))
  evens n v = even_all e.width (replicate n (e.pattern v)) (wide_replicate e.width e.pattern faithful.long n v)

  makings : (mutable : Bool) → TypedMakings e mutable
  makings mutable = record {
    zeroed = λ n. rw zeroed_is (sound, sound.align, fair_default);
    full = λ v n. rw full_is (sound, sound.align, fair_default, evens n v);
    copy_from = λ vs. rw copy_from_is (sound, sound.align, fair_default, even vs);
  }

  mutable_makings : TypedMutableMakings e
  mutable_makings = record {
    with_capacity = λ n. (sound, sound.align, fair_default);
    with_capacity_aligned = λ n a. (sound, fair a, fair_default);
    with_capacity_preferred = λ n a p. (sound, fair a, fair_if p);
    zeroed_aligned = λ n a. (sound, fair a, fair_default);
    zeroed_preferred = λ n a p. (sound, fair a, fair_if p);
    empty = λ a. (sound, fair a, fair_default);
    copy_from_aligned = λ vs a. (sound, fair a, fair_default, even vs);
    copy_from_preferred = λ vs a p. (sound, fair a, fair_if p, even vs);
  }

  calls : (h : Handle) → h.kind ≡ kind e → TypedCalls e h
  calls h same = record {
    push = λ v. rw same (evens 1 v);
    push_n = λ v n. rw same (evens n v);
    extend = λ vs. rw same (even vs);
    set = λ i v. rw same (faithful.long v);
    aligned_mutable = λ a. fair a;
    aligned_shared = λ a. fair a;
    ensure_aligned = λ a. fair a;
    slice = λ first last a. fair a;
  }

  from_bytes : (h : Handle) → TypedBytes e h
  from_bytes h = record { plain = (sound, sound.align); aligned = λ a. (sound, fair a) }

  pub typed_law : TypedLaw e
  typed_law = record { makings = makings; mutable_makings = mutable_makings; shared_makings = record { empty = λ a. (sound, fair a) }; calls = calls; bytes = from_bytes }

  coding : Coding e.width e.pattern
  coding = record { long = faithful.long; one = faithful.one; every = λ bs long a. faithful.every bs long (bytes bs a) }

  pub parts_agree : PartsAgree e.width e.pattern
  parts_agree = (values_law e.pattern e.width (rw shaped.wide.2 (pow_pos shaped.wide.0)) coding).3
