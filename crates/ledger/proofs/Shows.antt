-- The part of the region that a line shows lies in the region.
use Rattle.std.proofs.Common.{◌≡◌, ℕ, ◌+◌, ◌*◌, ◌≤◌, List, [], length, Some, None, Option, refl, ap, ◌∙◌, zero-mul, arith}
use Rattle.region.specs.Bytes.{part}
use Rattle.allocation.specs.declared.block.Block.{Block}
use Rattle.model.specs.Book.{State, block_of, line, shown, shown_on}
use Rattle.model.specs.Invariant.{Sits}
use Rattle.model.specs.Reads.{len_of, place_on, shown_place, slice_place}
use Rattle.model.specs.declared.line.Handle.{Handle}
use Rattle.model.specs.declared.line.Kind.{Kind}
use Rattle.model.specs.declared.line.Line.{Line}
use Rattle.model.proofs.Checks.{held}
use Rattle.ledger.specs.Entry.{Admitted}
use Rattle.ledger.specs.declared.spot.Spot.{Spot}
use Rattle.ledger.proofs.Edits.{is_line}
use Rattle.ledger.proofs.Groups.{known_by}
use Rattle.ledger.proofs.LineEdits.{stands}

part_none : (xs : List ℕ) → part 0 0 xs ≡ []
unfolding part
part_none xs = refl

shown_of : (base : ℕ) (l : Line) (xs : List ℕ) (o : Option Block) → Sits base l o → part (place_on o base l) (l.len * l.kind.width) xs ≡ shown_on o base l xs
unfolding shown_on
shown_of base l xs None s = ap (λ n. part 0 n xs) (ap (λ n. n * l.kind.width) s.0 ∙ zero-mul l.kind.width) ∙ part_none xs
shown_of base l xs (Some b) s = refl

module _ (st : State) (h : Handle) (spot : Spot) (a : Admitted st h spot) (base : ℕ) (eb : base ≡ st.meaning.base) where
  pub shown_inside : shown_place base spot.line + spot.line.len * spot.line.kind.width ≤ length st.bytes
  shown_inside = go (block_of spot.line.backing) refl (stands st h spot a).sits
    where
      go : (o : Option Block) → block_of spot.line.backing ≡ o → Sits st.meaning.base spot.line o → place_on o base spot.line + spot.line.len * spot.line.kind.width ≤ length st.bytes
      go None q s = let x : spot.line.len * spot.line.kind.width ≡ 0 = ap (λ n. n * spot.line.kind.width) s.0 ∙ zero-mul spot.line.kind.width in omega arith
      go (Some b) q s = omega (arith, s.0, s.1, a.ready.lawful.within b (a.ready.sure.held h.serial spot.line b a.found q), a.ready.long)

  pub shown_part : part (shown_place base spot.line) (spot.line.len * spot.line.kind.width) st.bytes ≡ shown st.meaning.base (line st h) st.bytes
  unfolding shown
  shown_part = ap (λ b. part (shown_place b spot.line) (spot.line.len * spot.line.kind.width) st.bytes) eb ∙ shown_of st.meaning.base spot.line st.bytes (block_of spot.line.backing) (stands st h spot a).sits
      ∙ ap (λ (z : Line). shown st.meaning.base z st.bytes) (is_line st h spot a)

  -- the same part, at the handle's own place
  pub shown_at : part (shown_place base spot.line) (spot.line.len * spot.line.kind.width) st.bytes ≡ part (slice_place st h) (len_of st h * h.kind.width) st.bytes
  shown_at =
      ap (λ b. part (shown_place b spot.line) (spot.line.len * spot.line.kind.width) st.bytes) eb
      ∙ ap (λ (z : Line). part (shown_place st.meaning.base z) (z.len * z.kind.width) st.bytes) (is_line st h spot a)
      ∙ ap (λ (k : Kind). part (slice_place st h) (len_of st h * k.width) st.bytes) (held st h (known_by st h a.passed)).kind
