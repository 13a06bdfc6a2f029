-- The book after a change at one place is the state with that line put, added or ended.
use Rattle.std.proofs.Common.{◌≡◌, ℕ, ◌<◌, List, length, get_or, set, Some, Option, sym, ap, ◌∙◌, subst, arith}
use Rattle.std.specs.List.{remove}
use Rattle.std.proofs.lemmas.List.{length-set, get_or-set_same}
use Rattle.allocation.specs.Meaning.{Meaning}
use Rattle.book.specs.Held.{At}
use Rattle.book.proofs.Lookups.{found_at, put_at, ended_at}
use Rattle.model.specs.declared.line.Handle.{Handle}
use Rattle.model.specs.declared.line.Line.{Line}
use Rattle.model.specs.Book.{State, blank, line, serial_of}
use Rattle.model.specs.Effects.{add_line, put_line, end_line, with_meaning, with_bytes}
use Rattle.model.specs.Keyed.{find, update, Rising}
use Rattle.model.proofs.Checks.{line_is}
use Rattle.model.proofs.Keyed.{find_key}
use Rattle.ledger.specs.Entry.{Admitted}
use Rattle.ledger.specs.Registered.{Added}
use Rattle.ledger.specs.declared.spot.Spot.{Spot}

-- the state over other lines, another meaning and other bytes
abbrev pub over : State → List Line → Meaning → List ℕ → State
over st ls m xs = record { number = st.number; next = st.next; lines = ls; meaning = m; bytes = xs }

-- the same, with another serial next
abbrev pub over_next : State → ℕ → List Line → Meaning → List ℕ → State
over_next st n ls m xs = record { number = st.number; next = n; lines = ls; meaning = m; bytes = xs }

-- a line put at the place of its serial
pub put_here : (st : State) (s place : ℕ) → Rising serial_of 0 st.next st.lines → At st.lines place s
    → (new : Line) (ls : List Line) (m : Meaning) (xs : List ℕ) → new.serial ≡ s → ls ≡ set st.lines place new → over st ls m xs ≡ put_line (with_bytes (with_meaning st m) xs) new
unfolding put_line with_bytes with_meaning
put_here st s place rises here new ls m xs e q = λ i. record { number = st.number; next = st.next; lines = (q ∙ put_at 0 st.next st.lines place s rises here new ∙ ap (λ z. update serial_of z (λ _. new) st.lines) (sym e)) i; meaning = m; bytes = xs }

-- it stands there
pub at_put : (ls : List Line) (s place : ℕ) (new : Line) (ls' : List Line) → At ls place s → new.serial ≡ s → ls' ≡ set ls place new → At ls' place s
at_put ls s place new ls' here e q = (
  subst (λ z. place < length z) (sym q) (omega (arith, length-set ls place new, here.0)),
  ap (λ z. (get_or z place blank).serial) q ∙ ap serial_of (get_or-set_same ls place new blank here.0) ∙ e,
)

pub found_put : (n s place : ℕ) (ls : List Line) (new : Line) (ls' : List Line) → Rising serial_of 0 n ls' → At ls place s → new.serial ≡ s → ls' ≡ set ls place new → find serial_of s ls' ≡ Some new
found_put n s place ls new ls' rises here e q = found_at 0 n ls' place s rises (at_put ls s place new ls' here e q) ∙ ap {B = Option Line} Some (ap (λ z. get_or z place blank) q ∙ get_or-set_same ls place new blank here.0)

module _ (st : State) (h : Handle) (spot : Spot) (a : Admitted st h spot) where
  pub is_line : spot.line ≡ line st h
  is_line = line_is st h spot.line a.found

  pub serial_is : spot.line.serial ≡ h.serial
  serial_is = find_key serial_of h.serial st.lines spot.line a.found

  pub put_is : (new : Line) (ls : List Line) (m : Meaning) (xs : List ℕ) → new.serial ≡ h.serial → ls ≡ set st.lines spot.place new → over st ls m xs ≡ put_line (with_bytes (with_meaning st m) xs) new
  put_is = put_here st h.serial spot.place a.ready.sure.order a.here

  -- only the line is changed
  pub put_only : (new : Line) (ls : List Line) → new.serial ≡ h.serial → ls ≡ set st.lines spot.place new → over st ls st.meaning st.bytes ≡ put_line st new
  unfolding put_line with_bytes with_meaning
  put_only new ls e q = put_is new ls st.meaning st.bytes e q

  pub end_is : (ls : List Line) (m : Meaning) → ls ≡ remove st.lines spot.place → over st ls m st.bytes ≡ end_line (with_meaning st m) h.serial
  unfolding end_line with_meaning
  end_is ls m q = λ i. record { number = st.number; next = st.next; lines = (q ∙ ended_at 0 st.next st.lines spot.place h.serial a.ready.sure.order a.here) i; meaning = m; bytes = st.bytes }

pub add_is : (st : State) (new : Line) (n : ℕ) (ls : List Line) (m : Meaning) (xs : List ℕ) → Added st.next st.lines new n ls → over_next st n ls m xs ≡ add_line (with_bytes (with_meaning st m) xs) new
unfolding add_line with_bytes with_meaning
add_is st new n ls m xs q = λ i. record { number = st.number; next = q.0 i; lines = q.1 i; meaning = m; bytes = xs }
