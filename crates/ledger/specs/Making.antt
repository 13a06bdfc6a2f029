-- Getting a block for a making, and what a making needs.
use Rattle.std.specs.Prelude.{◌≡◌, ℕ, ◌+◌, ◌-◌, ◌*◌, ◌≤◌, max, not, ◌&&◌, List, [], ◌∷◌, ◌++◌, Some, None, Option, nat_lt}
use Rattle.allocation.specs.Alignments.{IsAlignment, round_up}
use Rattle.allocation.specs.Asked.{asked}
use Rattle.allocation.specs.Meaning.{Meaning}
use Rattle.allocation.specs.declared.block.Block.{Block}
use Rattle.allocation.specs.declared.block.Request.{Request}
use Rattle.checks.specs.Groups.{below_kind, size_checks}
use Rattle.model.specs.Book.{State}
use Rattle.model.specs.Checks.{Check, refusal, request_for, not_granted}
use Rattle.model.specs.Kinds.{SoundKind}
use Rattle.model.specs.declared.line.Kind.{Kind}
use Rattle.ledger.specs.Entry.{Opened}
use Rattle.ledger.specs.declared.plan.Plan.{Plan}

-- a block is asked for, where it is for c elements and c is not 0
abbrev pub asking : Meaning → ℕ → Request → List Check
asking m c r = (nat_lt 0 c && not (m.grants r), not_granted r) ∷ []

-- what the types of a kind and of two alignments give
pub record Fair (k : Kind) (claim preferred : ℕ) : Type 0 where
  pub kind : SoundKind k
  pub claims : IsAlignment claim
  pub prefers : IsAlignment preferred

-- the checks of a making, but for the grant
abbrev pub plan_checks : Kind → ℕ → ℕ → ℕ → List Check
plan_checks k c claim m = below_kind k claim ++ size_checks (c * k.width + m)

-- a making of c elements may ask for its block
pub record Planned (st : State) (k : Kind) (c claim preferred : ℕ) (plan : Plan) : Type 0 where
  pub opened : Opened st plan.serial
  pub m : plan.m ≡ max claim preferred
  pub base : plan.base ≡ st.meaning.base
  pub asks : asked plan.layout ≡ request_for (c * k.width + max claim preferred)
  pub passed : refusal (plan_checks k c claim (max claim preferred)) ≡ None

-- n bytes may be written at the first multiple of m in what was got, in a region of so many bytes
abbrev pub Writable : ℕ → ℕ → Option Block → ℕ → ℕ → Type 0
Writable base m None n extent = Unit {0}
Writable base m (Some b) n extent = round_up (base + b.place) m - base + n ≤ extent
