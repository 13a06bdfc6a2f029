-- Moving a line's elements into another block, and reserving.
use Rattle.std.specs.Prelude.{◌≡◌, ℕ, ◌+◌, ◌-◌, ◌*◌, ◌^◌, ◌<◌, ◌≤◌, Bool, true, false, cond, ◌||◌, List, Some, None, Ok, Err, Option, Result}
use Rattle.allocation.specs.Alignments.{round_up}
use Rattle.allocation.specs.Meaning.{Meaning, Lawful, Among}
use Rattle.allocation.specs.declared.block.Block.{Block}
use Rattle.allocation.specs.declared.block.Request.{Request}
use Rattle.allocation.specs.declared.fault.Fault.{Fault}
use Rattle.book.specs.Held.{At}
use Rattle.model.specs.Book.{State, block_of, look_up}
use Rattle.model.specs.Calls.{Reserve}
use Rattle.model.specs.Checks.{smaller, growth_granted}
use Rattle.model.specs.Effects.{TakesNew, Grown}
use Rattle.model.specs.declared.line.Handle.{Handle}
use Rattle.model.specs.declared.line.Line.{Line}
use Rattle.ledger.specs.Entry.{Ready}
use Rattle.ledger.specs.Results.{Grants, Refuses}
use Rattle.ledger.specs.declared.spot.Spot.{Spot}

-- the elements of a line on a block may be copied to a place, in a region of n bytes
abbrev pub Copyable : ℕ → Line → ℕ → ℕ → Option Block → Type 0
Copyable base l n place None = Unit {0}
Copyable base l n place (Some b) = (base ≤ l.start) × (l.start - base + l.len * l.kind.width ≤ n) × (place + l.len * l.kind.width ≤ n)

-- a line of the book, over an allocator and a region of n bytes, whose elements are to move into a block of the request
pub record Movable (m : Meaning) (n : ℕ) (l : Line) (r : Request) : Type 0 where
  pub lawful : Lawful m
  pub long : n ≡ m.extent
  pub ends : m.base + m.extent < 2 ^ 63
  pub held : (b : Block) → block_of l.backing ≡ Some b → Among b m.live
  pub low : (b : Block) → block_of l.backing ≡ Some b → m.base + b.place ≤ l.start
  pub high : (b : Block) → block_of l.backing ≡ Some b → l.start + l.len * l.kind.width ≤ m.base + (b.place + b.size)
  pub claim_low : 1 ≤ l.claim
  pub room : l.len * l.kind.width + l.claim ≤ r.size

-- where the elements of a line start in another block
abbrev pub place_at : Meaning → Line → Block → ℕ
place_at m l b = round_up (m.base + b.place) l.claim - m.base

-- a new block is taken for the request
abbrev pub by_taking : Meaning → Request → Option Block → Bool
by_taking m r o = m.copies || smaller r.size o

-- is the request granted, in the way that is taken?
abbrev pub moving_granted : Meaning → Request → Option Block → Bool
moving_granted m r o = cond (by_taking m r o) (m.grants r) (growth_granted m r o)

pub record Moved (m : Meaning) (bytes : List ℕ) (l : Line) (r : Request) (b : Block) (m' : Meaning) (bytes' : List ℕ) : Type 0 where
  pub granted : moving_granted m r (block_of l.backing) ≡ true
  pub by_new : by_taking m r (block_of l.backing) ≡ true → TakesNew m bytes l r (place_at m l b) b m' bytes'
  pub by_growth : by_taking m r (block_of l.backing) ≡ false → Grown m bytes l r (place_at m l b) b m' bytes'
  pub size : b.size ≡ r.size
  pub within : b.place + b.size ≤ m.extent

-- what reserving leaves for an append: the line, with room for more elements
pub record Roomy (st : State) (h : Handle) (more : ℕ) (spot : Spot) (st' : State) : Type 0 where
  pub ready : Ready st
  pub still : Ready st'
  pub grants : Grants st (Reserve h more) 0 st'
  pub here : At st'.lines spot.place h.serial
  pub found : look_up h.serial st' ≡ Some spot.line
  pub room : spot.line.len + more ≤ spot.line.capacity
  pub kind : spot.line.kind ≡ h.kind

abbrev pub Reserved : State → Handle → ℕ → Result Spot Fault → State → Type 0
Reserved st h more (Ok spot) st' = Roomy st h more spot st'
Reserved st h more (Err f) st' = Refuses st (Reserve h more) f st'

-- n more elements stand inside a region of so many bytes
abbrev pub Behind : ℕ → Line → ℕ → ℕ → Type 0
Behind base l n extent = 0 < n → (base ≤ l.start) × ((l.start - base + l.len * l.kind.width) + n * l.kind.width ≤ extent) × (l.start + l.len * l.kind.width < 2 ^ 64)
