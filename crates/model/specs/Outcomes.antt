-- Every call has an answer, whatever the allocator, and the answer settles all but what is the allocator's to choose.
use Rattle.std.specs.Prelude.{◌≡◌, ℕ, ◌≤◌, true, ◌↔◌, List, [], length, Some}
use Rattle.allocation.specs.declared.block.Block.{Block}
use Rattle.allocation.specs.declared.block.Request.{Request}
use Rattle.allocation.specs.Meaning.{Allocates, Among, Fixed, Frees, Grows, Meaning, Valid}
use Rattle.model.specs.declared.line.Line.{Line}
use Rattle.model.specs.Answers.{Answers}
use Rattle.model.specs.Book.{State, look_up, shown}
use Rattle.model.specs.Calls.{Answer, Call, granted, refused}
use Rattle.model.specs.Runs.{In, Reached, Sound, Store, World}

module _ {B : Type 0} where
  -- What the values of an allocator's type can do, given what they mean: whatever the rules grant is done, by some block, and leaves a value of the type.
  pub record Able (meaning : B → Meaning) : Type 0 where
    pub allocates : (a : B) (r : Request) → Valid r → 1 ≤ r.size → (meaning a).grants r ≡ true → (b : Block) × (a' : B) × Allocates (meaning a) r b (meaning a')
    pub frees : (a : B) (b : Block) → Among b (meaning a).live → (a' : B) × Frees (meaning a) b (meaning a')
    pub grows : (a : B) (b : Block) (r : Request) (bytes : List ℕ) → Among b (meaning a).live → Valid r → b.size ≤ r.size → (meaning a).grows b r ≡ true → length bytes ≡ (meaning a).extent
        → (b' : Block) × (a' : B) × (bytes' : List ℕ) × Grows (meaning a) b r b' (meaning a') bytes bytes'

  -- an answer to a call, and the allocator after it
  abbrev pub Answered : (B → Meaning) → State → ℕ → Call → Type 0
  Answered meaning st n c = (answer : Answer) × (st' : State) × (a' : B) × Answers st n c answer st' × (meaning a' ≡ st'.meaning)

  -- every call in a run has an answer
  abbrev pub AnsweredLaw : (B → Meaning) → Type 0
  AnsweredLaw meaning =
      Able meaning → (w : World) → Reached w → (s : Store) → In s w → (a : B) → meaning a ≡ s.state.meaning
      → (n : ℕ) (c : Call) → Sound c → Answered meaning s.state n c

-- the blocks that an answer tells of
abbrev pub blocks_of : Answer → List Block
blocks_of (refused f) = []
blocks_of (granted g) = g.blocks

-- two states with the same lines, the same live blocks and the same bytes on which elements stand
pub record Alike (st st' : State) : Type 0 where
  pub number : st'.number ≡ st.number
  pub next : st'.next ≡ st.next
  pub lines : st'.lines ≡ st.lines
  pub fixed : Fixed st.meaning st'.meaning
  pub live : (b : Block) → Among b st'.meaning.live ↔ Among b st.meaning.live
  pub elements : (s : ℕ) (l : Line) → look_up s st ≡ Some l → shown st.meaning.base l st'.bytes ≡ shown st.meaning.base l st.bytes

-- two answers to one call that tell of the same blocks are one answer, and leave the same
abbrev pub SettledLaw : Type 0
SettledLaw =
    (w : World) → Reached w → (s : Store) → In s w → (n : ℕ) (c : Call) → Sound c
    → (x y : Answer) (st st' : State) → Answers s.state n c x st → Answers s.state n c y st' → blocks_of y ≡ blocks_of x
    → (y ≡ x) × Alike st st'
