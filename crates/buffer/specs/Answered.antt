-- Results of the public calls as answers of a store.
use Rattle.std.specs.Prelude.{◌≡◌, Ok, Err, Result}
use Rattle.allocation.specs.declared.fault.Fault.{Fault}
use Rattle.ledger.specs.Results.{Done, Grants, Refuses, Tells}
use Rattle.ledger.specs.declared.refused.Refused.{Refused}
use Rattle.model.specs.Book.{State}
use Rattle.model.specs.Calls.{Call}
use Rattle.model.specs.declared.line.Handle.{Handle}
use Rattle.buffer.specs.declared.refused.Unreleased.{Unreleased}
use Rattle.buffer.specs.declared.typed_handle.TypedHandle.{TypedHandle}

-- a reading call: it changes nothing and answers what the definition says of the handle
abbrev pub Reads : {T : Type 0} → State → Handle → (State → Handle → T) → Result T Fault → Type 0
Reads st h value r = Tells st h (value st h) r

module _ {S K : Type 0} where
  -- a call that makes a handle: it bears the number of the store, and its serial is what the call answers
  abbrev pub Makes : State → Call → Result (TypedHandle S K) Fault → State → Type 0
  Makes st c (Ok h) st' = (h.store ≡ st.number) × Grants st c h.serial st'
  Makes st c (Err f) st' = Refuses st c f st'

  -- a call that ends a handle; refused, it gives the handle back
  abbrev pub Ends : State → Call → TypedHandle S K → Result (Unit {0}) (Unreleased (TypedHandle S K)) → State → Type 0
  Ends st c h (Ok u) st' = Grants st c 0 st'
  Ends st c h (Err e) st' = (e.handle ≡ h) × Refuses st c e.fault st'

module _ {S K T J : Type 0} where
  -- a result without the handles in it
  abbrev pub outcome : Result (TypedHandle T J) (Refused (TypedHandle S K)) → Result (Unit {0}) Fault
  outcome (Ok j) = Ok tt
  outcome (Err e) = Err e.fault

  -- the handle in a result bears the store and the serial of the old one, or is the old one
  abbrev pub Named : TypedHandle S K → Result (TypedHandle T J) (Refused (TypedHandle S K)) → Type 0
  Named h (Ok j) = (j.store ≡ h.store) × (j.serial ≡ h.serial)
  Named h (Err e) = e.returned ≡ h

  -- a call that turns a handle into another of the same store and serial; refused, it gives the handle back
  abbrev pub Turns : State → Call → TypedHandle S K → Result (TypedHandle T J) (Refused (TypedHandle S K)) → State → Type 0
  Turns st c h r st' = Named h r × Done st c (outcome r) st'
