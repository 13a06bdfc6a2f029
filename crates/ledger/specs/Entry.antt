-- The checks that all calls have, in groups, and what a call knows behind them.
use Rattle.std.specs.Prelude.{◌≡◌, ℕ, ◌^◌, ◌<◌, not, ◌||◌, List, [], ◌∷◌, length, Some, None, ◌==◌, nat_le}
use Rattle.allocation.specs.declared.fault.Fault.TheVariants.{Alone}
use Rattle.allocation.specs.declared.fault.Refusal.TheVariants.{RegionDiffers, UnknownHandle, NoHandleLeft}
use Rattle.allocation.specs.Meaning.{Lawful}
use Rattle.book.specs.Held.{At}
use Rattle.model.specs.Book.{State, known, look_up, line_limit, serial_limit}
use Rattle.model.specs.Checks.{Check, refusal, full}
use Rattle.model.specs.Invariant.{plain_of, SureOf}
use Rattle.model.specs.declared.line.Handle.{Handle}
use Rattle.model.specs.declared.line.Line.{Line}
use Rattle.ledger.specs.Limits.{Limits}
use Rattle.ledger.specs.declared.spot.Spot.{Spot}

-- the region
abbrev pub region_check : State → List Check
region_check st = (not (length st.bytes == st.meaning.extent), Alone RegionDiffers) ∷ []

-- the region and the handle
abbrev pub entry : State → Handle → List Check
entry st h = (not (length st.bytes == st.meaning.extent), Alone RegionDiffers) ∷ (not (known st h), Alone UnknownHandle) ∷ []

-- room for a new handle
abbrev pub handle_check : ℕ → List Line → List Check
handle_check next ls = (nat_le line_limit (length ls) || nat_le serial_limit next, Alone NoHandleLeft) ∷ []

-- the region, and room for a new handle
abbrev pub opening : State → List Check
opening st = (not (length st.bytes == st.meaning.extent), Alone RegionDiffers) ∷ (full st, Alone NoHandleLeft) ∷ []

-- what a store's own fields give, with a region of its allocator's length
pub record Ready (st : State) : Type 0 where
  pub lawful : Lawful st.meaning
  pub long : length st.bytes ≡ st.meaning.extent
  pub sure : SureOf st
  pub limits : Limits (plain_of st.meaning)

-- the handle is known, and its line found
pub record Admitted (st : State) (h : Handle) (spot : Spot) : Type 0 where
  pub ready : Ready st
  pub passed : refusal (entry st h) ≡ None
  pub here : At st.lines spot.place h.serial
  pub found : look_up h.serial st ≡ Some spot.line
  pub low : spot.line.start < 2 ^ 64

-- there is room for a handle, and this is its serial
pub record Free (next : ℕ) (ls : List Line) (serial : ℕ) : Type 0 where
  pub few : length ls < line_limit
  pub low : next < serial_limit
  pub is_next : serial ≡ next

-- the same, with the right region
pub record Opened (st : State) (serial : ℕ) : Type 0 where
  pub ready : Ready st
  pub passed : refusal (opening st) ≡ None
  pub free : Free st.next st.lines serial
