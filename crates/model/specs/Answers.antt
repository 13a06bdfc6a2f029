-- What a call answers, and the state after it.
use Rattle.std.specs.Prelude.{◌≡◌, ℕ, Some, None}
use Rattle.allocation.specs.declared.fault.Fault.{Fault}
use Rattle.model.specs.Book.{State}
use Rattle.model.specs.Calls.{Answer, Call, Grant, granted, refused}
use Rattle.model.specs.Checks.{checks, refusal}
use Rattle.model.specs.Effects.{Does}

-- A call that is brought a region of n bytes: the first check that holds refuses it and everything stays; where none holds it is granted and does its work.
abbrev pub Answers : State → ℕ → Call → Answer → State → Type 0
Answers st n c (refused f) st' = (refusal (checks st n c) ≡ Some f) × (st' ≡ st)
Answers st n c (granted g) st' = (refusal (checks st n c) ≡ None) × Does st c g st'

-- as the caller sees it: the refusal, or the new handle's serial (0 where none is made); which blocks were got is the allocator's affair
abbrev pub Refuses : State → ℕ → Call → Fault → State → Type 0
Refuses st n c f st' = Answers st n c (refused f) st'

-- granted, with the serial of the new handle
abbrev pub Grants : State → ℕ → Call → ℕ → State → Type 0
Grants st n c s st' = (g : Grant) × (g.serial ≡ s) × Answers st n c (granted g) st'
