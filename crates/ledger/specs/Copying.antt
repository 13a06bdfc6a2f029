-- Copying a line's elements into a block of their own.
use Rattle.std.specs.Prelude.{◌≡◌, ℕ, ◌+◌, ◌-◌, ◌*◌, ◌^◌, ◌<◌, ◌≤◌, max, cond, List, ◌++◌, Some, None, Option, nat_lt}
use Rattle.allocation.specs.Alignments.{round_up}
use Rattle.allocation.specs.Asked.{asked}
use Rattle.allocation.specs.Meaning.{Meaning, Lawful, Among}
use Rattle.allocation.specs.declared.block.Block.{Block}
use Rattle.checks.specs.Groups.{size_checks, grant_check}
use Rattle.model.specs.Book.{State, block_of, shared_by, shown}
use Rattle.model.specs.Calls.{Call, Aligned, AlignedMut, preferred_alignment}
use Rattle.model.specs.Checks.{Check, refusal, request_for}
use Rattle.model.specs.Effects.{block_left, GivesBack, Obtains, written_in}
use Rattle.model.specs.declared.line.Handle.{Handle}
use Rattle.model.specs.declared.line.Line.{Line}
use Rattle.ledger.specs.Moving.{Copyable}
use Rattle.ledger.specs.declared.copy_plan.CopyPlan.{CopyPlan}

-- the elements may be copied to the first multiple of m in what was got
abbrev pub Fitting : ℕ → Line → ℕ → ℕ → Option Block → Type 0
Fitting base l n m None = Unit {0}
Fitting base l n m (Some b) = Copyable base l n (round_up (base + b.place) m - base) (block_of l.backing)

-- the bytes of a copy of a line with room for c elements and a claim
abbrev pub copy_size : Line → ℕ → ℕ → ℕ
copy_size l c claim = c * l.kind.width + max claim preferred_alignment

-- what refuses it
abbrev pub copy_checks : Meaning → Line → ℕ → ℕ → List Check
copy_checks m l c claim = size_checks (copy_size l c claim) ++ grant_check m c (copy_size l c claim)

-- a copy of a line with room for c elements and a claim may ask for its block
pub record PlannedCopy (st : State) (l : Line) (c claim : ℕ) (plan : CopyPlan) : Type 0 where
  pub m : plan.m ≡ max claim preferred_alignment
  pub base : plan.base ≡ st.meaning.base
  pub asks : asked plan.layout ≡ request_for (copy_size l c claim)
  pub left : plan.left ≡ block_left (shared_by st l) l
  pub passed : refusal (size_checks (copy_size l c claim)) ≡ None

-- the line stands in the region of n bytes of the allocator, the plan asks for c elements at an alignment of its own, and the block that it leaves is live
pub record Copying (m : Meaning) (n : ℕ) (l : Line) (c : ℕ) (plan : CopyPlan) : Type 0 where
  pub lawful : Lawful m
  pub long : n ≡ m.extent
  pub ends : m.base + m.extent < 2 ^ 63
  pub base : plan.base ≡ m.base
  pub low : (b : Block) → block_of l.backing ≡ Some b → m.base + b.place ≤ l.start
  pub high : (b : Block) → block_of l.backing ≡ Some b → l.start + l.len * l.kind.width ≤ m.base + m.extent
  pub left : (b : Block) → plan.left ≡ Some b → Among b m.live
  pub one : 1 ≤ plan.m
  pub asks : asked plan.layout ≡ request_for (c * l.kind.width + plan.m)
  pub room : l.len ≤ c

-- the elements stand in the block that was got, and the block that the plan leaves is given back
pub record Copied (m : Meaning) (bytes : List ℕ) (l : Line) (c : ℕ) (plan : CopyPlan) (got : Option Block) (m' : Meaning) (bytes' : List ℕ) : Type 0 where
  pub between : Meaning
  pub gets : Obtains (nat_lt 0 c) m (asked plan.layout) got between
  pub gives : GivesBack between plan.left m'
  pub writes : bytes' ≡ written_in plan.base plan.m got (shown plan.base l bytes) bytes

-- a handle gets another claim, and is copied where its start does not allow it
abbrev pub aligning : Handle → ℕ → Call
aligning h claim = cond h.mutable (AlignedMut h claim) (Aligned h claim)
