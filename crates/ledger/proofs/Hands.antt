-- The calls that make a second handle out of one, and what a change that gives two lines leaves of them.
use Rattle.std.proofs.Common.{◌≡◌, ℕ, true, false, not, ◌+◌, List, [], ◌∷◌, set, Ok, Err, Result, sym, refl, ap, ◌∙◌, subst}
use Rattle.std.proofs.Math.Logic.{⊎_elim}
use Rattle.allocation.specs.declared.fault.Fault.{Fault}
use Rattle.model.specs.Book.{State, line}
use Rattle.model.specs.Calls.{Call, Take, Share, giving}
use Rattle.model.specs.Checks.{brings, makes_from, own, refusal}
use Rattle.model.specs.Effects.{Does, add_line, put_line, empty_line, shared_with, with_backing, with_serial}
use Rattle.model.specs.Invariant.{Sure, plain_of}
use Rattle.model.specs.Runs.{Sound}
use Rattle.model.specs.declared.line.Handle.{Handle}
use Rattle.model.specs.declared.line.Line.{Line}
use Rattle.ledger.specs.Changes.{Beside, OpenedBeside}
use Rattle.ledger.specs.Entry.{Admitted}
use Rattle.ledger.specs.Registered.{Added}
use Rattle.ledger.specs.Results.{Grants, Opens}
use Rattle.ledger.specs.declared.spot.Spot.{Spot}
use Rattle.ledger.proofs.Edits.{is_line, serial_is, put_only, over, over_next}
use Rattle.ledger.proofs.Groups.{bringing, used_free, unfree, unused}
use Rattle.ledger.proofs.Ties.{after}

-- a line put and another added
added_to : (mid : State) (other : Line) (n : ℕ) (ls : List Line) → Added mid.next mid.lines other n ls → over_next mid n ls mid.meaning mid.bytes ≡ add_line mid other
unfolding add_line
added_to mid other n ls q = λ i. record { number = mid.number; next = q.0 i; lines = q.1 i; meaning = mid.meaning; bytes = mid.bytes }

pub put_and_added : (st : State) (h : Handle) (spot : Spot) → Admitted st h spot → (new other : Line) (mid : List Line) (n : ℕ) (ls : List Line) → new.serial ≡ h.serial → mid ≡ set st.lines spot.place new → Added st.next mid other n ls
    → over_next st n ls st.meaning st.bytes ≡ add_line (put_line st new) other
put_and_added st h spot a new other mid n ls es em el = added_to (over st mid st.meaning st.bytes) other n ls el ∙ ap (λ z. add_line z other) (put_only st h spot a new mid es em)

-- a call on one handle that changes its line and adds another, behind no check of its own
pub record Hand (st : State) (h : Handle) (c : Call) (both : Line → ℕ → Line × Line) : Type 0 where
  pub brought : brings c ≡ bringing (h ∷ []) true
  pub asked : own st c ≡ []
  pub does : (s : ℕ) → s ≡ st.next → (st' : State) → st' ≡ add_line (put_line st (both (line st h) st.next).0) (both (line st h) st.next).1 → Does st c (giving s []) st'
  pub same : (l : Line) (s : ℕ) → l.serial ≡ h.serial → (both l s).0.serial ≡ h.serial
  pub sound : Sound c

-- a change gives the call's lines
abbrev pub GivenBoth : (Line → ℕ → Line × Line) → Line → ℕ → Line → Line → Type 0
GivenBoth both l s first second = (first ≡ (both l s).0) × (second ≡ (both l s).1)

module _ {st : State} {h : Handle} {c : Call} {both : Line → ℕ → Line × Line} (d : Hand st h c both) where
  grants : (spot : Spot) (s : ℕ) → Beside st h spot s → (first second : Line) → GivenBoth both spot.line s first second → Grants st c s (add_line (put_line st first) second)
  grants spot s b first second p =
      let e : (first, second) ≡ both (line st h) st.next = (λ i. (p.0 i, p.1 i)) ∙ ap (both spot.line) b.free.is_next ∙ ap (λ (l : Line). both l st.next) (is_line st h spot b.known) in
      (giving s [], refl, (used_free st h c d.brought b.known.passed b.room ∙ ap refusal d.asked, d.does s b.free.is_next _ (ap (λ (z : Line × Line). add_line (put_line st z.0) z.1) e)))

  -- the store stays sound with those lines
  pub keeps : (spot : Spot) (s : ℕ) → Beside st h spot s → (first second : Line) → GivenBoth both spot.line s first second
      → (first.serial ≡ h.serial) × ∥ Sure (st.next + 1) (add_line (put_line st first) second).lines (plain_of st.meaning) ∥₁
  unfolding put_line add_line
  keeps spot s b first second p = (
    ap (λ (z : Line). z.serial) p.0 ∙ d.same spot.line s (serial_is st h spot b.known),
    (after st b.known.ready c s (add_line (put_line st first) second) d.sound (grants spot s b first second p)).sure,
  )

  -- where a change gives those lines, what it left is what the call does
  pub opened : (post : Line → ℕ → Line × Line → Type 0) (r : Result ℕ Fault) (st' : State) → OpenedBeside st h post r st'
      → ((spot : Spot) (s : ℕ) → Beside st h spot s → (first second : Line) → post spot.line s (first, second) → GivenBoth both spot.line s first second)
      → Opens st c r st'
  unfolding OpenedBeside
  opened post (Ok s) st' q gives = let w = q.2.1 in subst (Grants st c s) (sym w.2) (grants q.0 s q.1 q.2.0 w.0 (gives q.0 s q.1 q.2.0 w.0 w.1))
  opened post (Err f) st' q gives = (⊎_elim (λ n. unused st h c true f d.brought n) (λ r. unfree st h c f d.brought r.0 r.1) q.0, q.1)

module _ (st : State) (h : Handle) where
  pub taking : h.mutable ≡ true → Hand st h (Take h) (λ l s. (empty_line h.serial l.kind l.claim, with_serial l s))
  taking e = record {
    brought = ap (makes_from h) e;
    asked = refl;
    does = λ s q st' p. (ap (λ z. giving z []) q, p);
    same = λ l s q. refl;
    sound = tt;
  }

  pub sharing : h.mutable ≡ false → Hand st h (Share h) (λ l s. (with_backing l (shared_with s l.backing), with_serial (with_backing l (shared_with s l.backing)) s))
  sharing e = record {
    brought = ap (λ b. makes_from h (not b)) e;
    asked = refl;
    does = λ s q st' p. (ap (λ z. giving z []) q, p);
    same = λ l s q. q;
    sound = tt;
  }
