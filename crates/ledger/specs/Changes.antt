-- What a change of a handle's line is asked of, and what it leaves.
use Rattle.std.specs.Prelude.{◌≡◌, ℕ, ◌+◌, ◌⊎◌, Some, None, Ok, Err, Result}
use Rattle.allocation.specs.declared.fault.Fault.{Fault}
use Rattle.model.specs.Book.{State}
use Rattle.model.specs.Checks.{refusal}
use Rattle.model.specs.Effects.{add_line, put_line}
use Rattle.model.specs.Invariant.{plain_of, Sure}
use Rattle.model.specs.declared.line.Handle.{Handle}
use Rattle.model.specs.declared.line.Line.{Line}
use Rattle.ledger.specs.Entry.{Admitted, Free, entry, handle_check}
use Rattle.ledger.specs.declared.spot.Spot.{Spot}

-- the handle is known, and there is room for a new one, whose serial this is
pub record Beside (st : State) (h : Handle) (spot : Spot) (serial : ℕ) : Type 0 where
  pub known : Admitted st h spot
  pub room : refusal (handle_check st.next st.lines) ≡ None
  pub free : Free st.next st.lines serial

module _ (st : State) (h : Handle) where
  -- the change may be asked of the handle's line
  abbrev pub Asks : (Line → Type 0) → Type 0
  Asks pre = (spot : Spot) → Admitted st h spot → pre spot.line

  -- a line that the change gives has the handle's serial, and the store stays sound with it
  abbrev pub Keeps : (Line → Result Line Fault → Type 0) → Type 0
  Keeps post = (spot : Spot) → Admitted st h spot → (new : Line) → post spot.line (Ok new)
      → (new.serial ≡ h.serial) × ∥ Sure st.next (put_line st new).lines (plain_of st.meaning) ∥₁

  -- the handle's line has become one that the change gives for it; or the handle's checks or the change refuse, and everything stays
  unfoldable pub Changed : (Line → Result Line Fault → Type 0) → Result (Unit {0}) Fault → State → Type 0
  Changed post (Ok u) st' = (spot : Spot) × Admitted st h spot × ((new : Line) × post spot.line (Ok new) × (st' ≡ put_line st new))
  Changed post (Err f) st' = ((refusal (entry st h) ≡ Some f) ⊎ ((spot : Spot) × Admitted st h spot × post spot.line (Err f))) × (st' ≡ st)

  -- the same of a change that gives two lines, the handle's and that of a new one with the next serial
  abbrev pub AsksBoth : (Line → ℕ → Type 0) → Type 0
  AsksBoth pre = (spot : Spot) (serial : ℕ) → Beside st h spot serial → pre spot.line serial

  abbrev pub KeepsBoth : (Line → ℕ → Line × Line → Type 0) → Type 0
  KeepsBoth post = (spot : Spot) (serial : ℕ) → Beside st h spot serial → (first second : Line) → post spot.line serial (first, second)
      → (first.serial ≡ h.serial) × ∥ Sure (st.next + 1) (add_line (put_line st first) second).lines (plain_of st.meaning) ∥₁

  -- the handle's line has become the first, and the second is behind the others; or the handle's checks refuse, or there is no room for a new handle
  unfoldable pub OpenedBeside : (Line → ℕ → Line × Line → Type 0) → Result ℕ Fault → State → Type 0
  OpenedBeside post (Ok serial) st' = (spot : Spot) × Beside st h spot serial × ((first : Line) × ((second : Line) × post spot.line serial (first, second) × (st' ≡ add_line (put_line st first) second)))
  OpenedBeside post (Err f) st' = ((refusal (entry st h) ≡ Some f) ⊎ ((refusal (entry st h) ≡ None) × (refusal (handle_check st.next st.lines) ≡ Some f))) × (st' ≡ st)
