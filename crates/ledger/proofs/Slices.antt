-- From what a slice did to what the definitions say of it.
use Rattle.std.proofs.Common.{◌≡◌, ℕ, ◌+◌, ◌-◌, ◌*◌, ◌^◌, ◌<◌, Bool, true, false, ltb, List, [], ◌∷◌, length, Some, None, sym, refl, ap, ◌∙◌, arith}
use Rattle.allocation.specs.Alignments.{IsAlignment}
use Rattle.allocation.specs.Asked.{bytes_of}
use Rattle.allocation.specs.declared.alignment.Alignment.{Alignment}
use Rattle.allocation.specs.declared.fault.Fault.{Fault}
use Rattle.sizes.specs.Numbers.{state_with}
use Rattle.sizes.proofs.Bounds.{len_below}
use Rattle.model.specs.Book.{State, block_of, line}
use Rattle.model.specs.Calls.{Claim, Slice, giving}
use Rattle.model.specs.Checks.{refusal, brings, checks, begin, finish, claimed, slice_checks}
use Rattle.model.specs.Effects.{add_line, slice_line, with_bytes, with_meaning}
use Rattle.std.specs.declared.ops.Bound.{Bound}
use Rattle.model.specs.declared.line.Handle.{Handle}
use Rattle.model.specs.declared.line.Line.{Line}
use Rattle.model.specs.Runs.{SoundClaim}
use Rattle.ledger.specs.Claims.{claim_of}
use Rattle.ledger.specs.declared.claim.Claim.{Claim as SliceClaim}
use Rattle.ledger.specs.declared.claim.Claim.TheVariants.{Given as TheGiven, Inherited as TheInherited, OfKind as TheOfKind}
use Rattle.ledger.specs.Entry.{Admitted, Free, handle_check}
use Rattle.ledger.specs.Registered.{Added}
use Rattle.ledger.specs.Results.{Grants}
use Rattle.ledger.specs.declared.spot.Spot.{Spot}
use Rattle.ledger.proofs.Edits.{add_is, is_line, over_next}
use Rattle.ledger.proofs.Groups.{bringing, used_free}
use Rattle.ledger.proofs.LineEdits.{stands}

-- of a state, only the next serial counts
slice_next : (b : Bool) (st : State) (serial : ℕ) (l : Line) (first n a : ℕ) → serial ≡ st.next → slice_line b (state_with serial 0) l first n a ≡ slice_line b st l first n a
slice_next true st serial l first n a e = ap (λ z. slice_line true (state_with z 0) l first n a) e
slice_next false st serial l first n a e = ap (λ z. slice_line false (state_with z 0) l first n a) e

-- an alignment in bytes
pub fair : (a : Alignment) → IsAlignment (bytes_of a)
fair a = (a.exponent, a.small, refl)

pub fair_claim : (c : SliceClaim) → SoundClaim (claim_of c)
fair_claim (TheGiven a) = fair a
fair_claim TheInherited = tt
fair_claim TheOfKind = tt

module _ (st : State) (h : Handle) (spot : Spot) (a : Admitted st h spot) where
  -- the elements end within 64 bits
  pub ends_low : spot.line.start + spot.line.len * spot.line.kind.width < 2 ^ 64
  ends_low =
      let lim = a.ready.limits in
      len_below st.meaning.base spot.line (block_of spot.line.backing) a.low (λ b q. omega (arith, a.ready.lawful.within b (a.ready.sure.held h.serial spot.line b a.found q), lim.1, lim.3)) (stands st h spot a).sits

  module _ (first last : Bound ℕ) (cl : Claim) (claim : ℕ) (ec : claim ≡ claimed cl spot.line) (e : brings (Slice h first last cl) ≡ bringing (h ∷ []) true) (q : refusal (handle_check st.next st.lines) ≡ None) where
    passing : refusal (checks st (length st.bytes) (Slice h first last cl)) ≡ refusal (slice_checks spot.line first last claim)
    passing = used_free st h (Slice h first last cl) e a.passed q ∙ ap (λ (z : Line). refusal (slice_checks z first last (claimed cl z))) (sym (is_line st h spot a)) ∙ ap (λ z. refusal (slice_checks spot.line first last z)) (sym ec)

    pub slice_refused : (f : Fault) → refusal (slice_checks spot.line first last claim) ≡ Some f → refusal (checks st (length st.bytes) (Slice h first last cl)) ≡ Some f
    slice_refused f x = passing ∙ x

    pub sliced : (serial b n : ℕ) → Free st.next st.lines serial → (new : Line) (nx : ℕ) (ls : List Line) → refusal (slice_checks spot.line first last claim) ≡ None → b ≡ begin first → n ≡ finish last spot.line.len
        → new ≡ slice_line (ltb b n) (state_with serial 0) spot.line b (n - b) claim → Added st.next st.lines new nx ls → Grants st (Slice h first last cl) serial (over_next st nx ls st.meaning st.bytes)
    unfolding with_bytes with_meaning
    sliced serial b n free new nx ls x eb en el eq =
        let l : Line = spot.line in
        let is_new : new ≡ slice_line (ltb (begin first) (finish last (line st h).len)) st (line st h) (begin first) (finish last (line st h).len - begin first) (claimed cl (line st h)) =
        el ∙ ap (slice_line (ltb b n) (state_with serial 0) spot.line b (n - b)) ec ∙ slice_next (ltb b n) st serial spot.line b (n - b) (claimed cl spot.line) free.is_next
        ∙ ap (λ z. slice_line (ltb z n) st spot.line z (n - z) (claimed cl spot.line)) eb
        ∙ ap (λ z. slice_line (ltb (begin first) z) st spot.line (begin first) (z - begin first) (claimed cl spot.line)) en
        ∙ ap (λ (z : Line). slice_line (ltb (begin first) (finish last z.len)) st z (begin first) (finish last z.len - begin first) (claimed cl z)) (is_line st h spot a) in
        (giving serial [], refl, (passing ∙ x, (ap (λ z. giving z []) free.is_next, add_is st new nx ls st.meaning st.bytes eq ∙ ap (add_line st) is_new)))
