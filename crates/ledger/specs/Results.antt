-- Results of the code as answers of a store.
use Rattle.std.specs.Prelude.{◌≡◌, ℕ, ◌*◌, List, length, Ok, Err, Result}
use Rattle.allocation.specs.declared.fault.Fault.{Fault}
use Rattle.model.specs.Answers.{Answers}
use Rattle.model.specs.Book.{State}
use Rattle.model.specs.Calls.{Call, Grant, granted, read, refused}
use Rattle.model.specs.Reads.{len_of, slice_bytes, slice_place}
use Rattle.model.specs.declared.line.Handle.{Handle}
use Rattle.region.specs.Bytes.{part}

-- the call, brought the region whose bytes the state has, is granted and gives the handle of a serial, 0 for none
abbrev pub Grants : State → Call → ℕ → State → Type 0
Grants st c s st' = (g : Grant) × (g.serial ≡ s) × Answers st (length st.bytes) c (granted g) st'

-- it is refused
abbrev pub Refuses : State → Call → Fault → State → Type 0
Refuses st c f st' = Answers st (length st.bytes) c (refused f) st'

-- a call that gives no handle
abbrev pub Done : State → Call → Result (Unit {0}) Fault → State → Type 0
Done st c (Ok u) st' = Grants st c 0 st'
Done st c (Err f) st' = Refuses st c f st'

-- a call that gives a new handle: its serial
abbrev pub Opens : State → Call → Result ℕ Fault → State → Type 0
Opens st c (Ok s) st' = Grants st c s st'
Opens st c (Err f) st' = Refuses st c f st'

-- a reading call: it changes nothing and answers a value
abbrev pub Tells : {T : Type 0} → State → Handle → T → Result T Fault → Type 0
Tells st h value (Ok x) = Grants st (read h) 0 st × (x ≡ value)
Tells st h value (Err f) = Refuses st (read h) f st

-- the bytes that a handle shows: the part of the region at the handle's place, as many as its elements have
abbrev pub Shown : State → Handle → List ℕ → Type 0
Shown st h xs = Grants st (read h) 0 st × (xs ≡ slice_bytes st h) × (xs ≡ part (slice_place st h) (len_of st h * h.kind.width) st.bytes)
