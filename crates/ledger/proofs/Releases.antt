-- From what `release` did to what the definitions say of it.
use Rattle.std.proofs.Common.{◌≡◌, ℕ, Bool, true, false, List, [], ◌∷◌, length, Some, None, Option, sym, refl, ◌∙◌, subst, inl, inr}
use Rattle.std.specs.List.{remove}
use Rattle.std.proofs.lemmas.Bool.{eq-eqb}
use Rattle.allocation.specs.declared.block.Block.{Block}
use Rattle.allocation.specs.declared.fault.Fault.{Fault}
use Rattle.allocation.specs.Faults.{is_among, deallocate_fault, same_block}
use Rattle.allocation.specs.Meaning.{Among, Meaning}
use Rattle.model.specs.declared.line.Handle.{Handle}
use Rattle.model.specs.declared.line.Line.{Line}
use Rattle.model.specs.Book.{State, block_of, one_backing, serial_of, shared_by}
use Rattle.model.specs.Calls.{Release, done}
use Rattle.model.specs.Effects.{block_left, GivesBack}
use Rattle.model.specs.Keyed.{any_other}
use Rattle.model.proofs.Backings.{same_block_refl}
use Rattle.model.proofs.Shapes.{never}
use Rattle.ledger.specs.Entry.{Admitted}
use Rattle.ledger.specs.Giving.{give_fault}
use Rattle.ledger.specs.Results.{Grants}
use Rattle.ledger.specs.declared.spot.Spot.{Spot}
use Rattle.ledger.proofs.Edits.{is_line, end_is, over}
use Rattle.ledger.proofs.Groups.{used}

-- a live block is found
pub among_live : (b : Block) (bs : List Block) → Among b bs → is_among b bs ≡ true
unfolding Among
among_live b [] a = absurd a
among_live b (c ∷ cs) (inl e) = rw (e, same_block_refl b)
among_live b (c ∷ cs) (inr a) = rw (among_live b cs a) (mathlib.Core.Bool.or-true (same_block c b))

-- a live block is taken back, in the region of its allocator
pub taken_back : (m : Meaning) (n : ℕ) (o : Option Block) (f : Fault) → n ≡ m.extent → ((b : Block) → o ≡ Some b → Among b m.live) → give_fault m n o ≡ Some f → ⊥
taken_back m n None f e k r = never refl r
taken_back m n (Some b) f e k r =
    let t : deallocate_fault m n b ≡ None = rw (eq-eqb n m.extent e, among_live b m.live (k b refl)) in
    never t r

-- the block that a line leaves is the line's own
pub left_own : (shared : Bool) (l : Line) (b : Block) → block_left shared l ≡ Some b → block_of l.backing ≡ Some b
left_own true l b e = absurd (never refl e)
left_own false l b e = e

module _ (st : State) (h : Handle) (spot : Spot) (a : Admitted st h spot) where
  -- the block that is left goes back
  pub goes_back : (shared : Bool) (o : Option Block) (f : Fault) → o ≡ block_left shared spot.line → give_fault st.meaning (length st.bytes) o ≡ Some f → ⊥
  goes_back shared o f e r = taken_back st.meaning (length st.bytes) o f a.ready.long (λ b q. a.ready.sure.held h.serial spot.line b a.found (left_own shared spot.line b (sym e ∙ q))) r

  pub released : (shared : Bool) (o : Option Block) (m : Meaning) (ls : List Line)
      → shared ≡ any_other serial_of (λ k. one_backing spot.line.backing k.backing) spot.line.serial st.lines → o ≡ block_left shared spot.line → GivesBack st.meaning o m → ls ≡ remove st.lines spot.place
      → Grants st (Release h) 0 (over st ls m st.bytes)
  unfolding shared_by
  released shared o m ls es eo g el =
      let back : GivesBack st.meaning (block_left (shared_by st spot.line) spot.line) m = rw (sym es) (rw eo at g) in
      (done, refl, (used st h (Release h) refl a.passed, (m, subst (λ (z : Line). GivesBack st.meaning (block_left (shared_by st z) z) m) (is_line st h spot a) back, refl, end_is st h spot a ls m el)))
