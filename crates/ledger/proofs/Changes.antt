-- The calls that change one line, and what a change of the line of their handle leaves of them.
use Rattle.std.proofs.Common.{◌≡◌, ℕ, ◌*◌, ◌/◌, leb, true, false, not, ◌&&◌, List, [], ◌∷◌, length, None, Some, Ok, Err, Result, set, sym, refl, ap, ◌∙◌, subst}
use Rattle.std.proofs.Math.Logic.{⊎_elim}
use Rattle.allocation.specs.Alignments.{IsAlignment}
use Rattle.allocation.specs.declared.fault.Fault.{Fault}
use Rattle.checks.specs.Groups.{aligned_checks, regroup_checks, shared_check}
use Rattle.model.specs.Book.{State, line, shared_by}
use Rattle.model.specs.Calls.{Call, Clear, EnsureAligned, Freeze, FromBytes, IntoBytes, Truncate, TryIntoMut, done}
use Rattle.model.specs.Checks.{Check, refusal, brings, checks, own, uses}
use Rattle.model.specs.Effects.{Does, frozen, put_line, regrouped, shortened, unfrozen, with_claim, with_len}
use Rattle.model.specs.Invariant.{Sure, plain_of}
use Rattle.model.specs.Kinds.{SoundKind, byte, is_byte}
use Rattle.model.specs.Runs.{Sound}
use Rattle.model.specs.declared.line.Handle.{Handle}
use Rattle.model.specs.declared.line.Kind.{Kind}
use Rattle.model.specs.declared.line.Line.{Line}
use Rattle.ledger.specs.Changes.{Changed}
use Rattle.ledger.specs.Entry.{Admitted}
use Rattle.ledger.specs.Results.{Done, Grants}
use Rattle.ledger.specs.declared.spot.Spot.{Spot}
use Rattle.ledger.proofs.Edits.{is_line, over, put_only, serial_is}
use Rattle.ledger.proofs.Groups.{bringing, unused}
use Rattle.ledger.proofs.LineEdits.{edit_refused, passing, shortened_serial, unfrozen_serial}
use Rattle.ledger.proofs.Ties.{after}

-- a call on one handle that changes its line and nothing else, behind checks of the line
pub record Edit (st : State) (h : Handle) (c : Call) (check : Line → List Check) (edit : Line → Line) : Type 0 where
  pub brought : brings c ≡ bringing (h ∷ []) false
  pub asked : own st c ≡ check (line st h)
  pub does : (st' : State) → st' ≡ put_line st (edit (line st h)) → Does st c done st'
  pub same : (l : Line) → (edit l).serial ≡ l.serial
  pub sound : Sound c

-- a change gives the call's line where the call's checks pass
abbrev pub Given : (Line → List Check) → (Line → Line) → Line → Line → Type 0
Given check edit l new = (refusal (check l) ≡ None) × (new ≡ edit l)

module _ {st : State} {h : Handle} {c : Call} {check : Line → List Check} {edit : Line → Line} (d : Edit st h c check edit) where
  serial_stays : (spot : Spot) → Admitted st h spot → (new : Line) → Given check edit spot.line new → new.serial ≡ h.serial
  serial_stays spot a new p = ap (λ (z : Line). z.serial) p.1 ∙ d.same spot.line ∙ serial_is st h spot a

  grants : (spot : Spot) → Admitted st h spot → (new : Line) → Given check edit spot.line new → Grants st c 0 (put_line st new)
  grants spot a new p = (done, refl, (passing st h spot a c check d.brought d.asked ∙ p.0, d.does (put_line st new) (ap (put_line st) (p.1 ∙ ap edit (is_line st h spot a)))))

  pub refused : (spot : Spot) → Admitted st h spot → (f : Fault) → refusal (check spot.line) ≡ Some f → refusal (checks st (length st.bytes) c) ≡ Some f
  refused spot a f q = edit_refused st h spot a c check d.brought d.asked f q

  -- a call that puts that line itself
  pub puts : (spot : Spot) → Admitted st h spot → (new : Line) (ls : List Line) → Given check edit spot.line new → ls ≡ set st.lines spot.place new → Grants st c 0 (over st ls st.meaning st.bytes)
  puts spot a new ls p q = subst (Grants st c 0) (sym (put_only st h spot a new ls (serial_stays spot a new p) q)) (grants spot a new p)

  -- the store stays sound with that line
  pub keeps : (spot : Spot) → Admitted st h spot → (new : Line) → Given check edit spot.line new → (new.serial ≡ h.serial) × ∥ Sure st.next (put_line st new).lines (plain_of st.meaning) ∥₁
  unfolding put_line
  keeps spot a new p = (serial_stays spot a new p, (after st a.ready c 0 (put_line st new) d.sound (grants spot a new p)).sure)

  -- where a change gives that line, and refuses by the call's checks, what it left is what the call does
  pub changed : (post : Line → Result Line Fault → Type 0) (r : Result (Unit {0}) Fault) (st' : State) → Changed st h post r st'
      → ((spot : Spot) → Admitted st h spot → (new : Line) → post spot.line (Ok new) → Given check edit spot.line new)
      → ((spot : Spot) → Admitted st h spot → (f : Fault) → post spot.line (Err f) → refusal (check spot.line) ≡ Some f)
      → Done st c r st'
  unfolding Changed
  changed post (Ok u) st' q gives refuses = subst (Grants st c 0) (sym q.2.2) (grants q.0 q.1 q.2.0 (gives q.0 q.1 q.2.0 q.2.1))
  changed post (Err f) st' q gives refuses = (⊎_elim (λ n. unused st h c false f d.brought n) (λ r. refused r.0 r.1 f (refuses r.0 r.1 f r.2)) q.0, q.1)

module _ (st : State) (h : Handle) where
  pub truncating : (n : ℕ) → h.mutable ≡ true → Edit st h (Truncate h n) (λ l. []) (λ l. shortened (leb n l.len) n l)
  truncating n e = record {
    brought = ap (uses h) e;
    asked = refl;
    does = λ st' q. (refl, q);
    same = λ l. shortened_serial (leb n l.len) n l;
    sound = tt;
  }

  pub clearing : Edit st h (Clear h) (λ l. []) (λ l. with_len l 0)
  clearing = record {
    brought = refl;
    asked = refl;
    does = λ st' q. (refl, q);
    same = λ l. refl;
    sound = tt;
  }

  pub freezing : h.mutable ≡ true → Edit st h (Freeze h) (λ l. []) frozen
  freezing e = record {
    brought = ap (uses h) e;
    asked = refl;
    does = λ st' q. (refl, q);
    same = λ l. refl;
    sound = tt;
  }

  pub into_bytes : Edit st h (IntoBytes h) (λ l. []) (λ l. regrouped l byte (l.len * l.kind.width) (l.capacity * l.kind.width) l.claim)
  into_bytes = record {
    brought = refl;
    asked = refl;
    does = λ st' q. (refl, q);
    same = λ l. refl;
    sound = tt;
  }

  pub from_bytes : (kind : Kind) (claim : ℕ) → (not h.mutable && is_byte h.kind) ≡ true → SoundKind kind × IsAlignment claim → Edit st h (FromBytes h kind claim) (λ l. regroup_checks l kind claim) (λ l. regrouped l kind ((l.len * l.kind.width) / kind.width) 0 claim)
  from_bytes kind claim e fair = record {
    brought = ap (uses h) e;
    asked = refl;
    does = λ st' q. (refl, q);
    same = λ l. refl;
    sound = fair;
  }

  pub aligning : (claim : ℕ) → h.mutable ≡ false → IsAlignment claim → Edit st h (EnsureAligned h claim) (λ l. aligned_checks l.kind l claim) (λ l. with_claim l claim)
  aligning claim e fair = record {
    brought = ap (λ b. uses h (not b)) e;
    asked = refl;
    does = λ st' q. (refl, q);
    same = λ l. refl;
    sound = fair;
  }

  pub unsharing : h.mutable ≡ false → Edit st h (TryIntoMut h) (λ l. shared_check (shared_by st l)) (λ l. unfrozen st l l.backing)
  unsharing e = record {
    brought = ap (λ b. uses h (not b)) e;
    asked = refl;
    does = λ st' q. (refl, q);
    same = λ l. unfrozen_serial st l l.backing;
    sound = tt;
  }
