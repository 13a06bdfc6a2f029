-- Runs of calls over any number of stores.
use Rattle.std.specs.Prelude.{◌≡◌, ℕ, ◌⊎◌, List, [], ◌∷◌, length, ◌≢◌}
use Rattle.allocation.specs.Alignments.{IsAlignment}
use Rattle.allocation.specs.Meaning.{Lawful}
use Rattle.model.specs.Answers.{Answers}
use Rattle.model.specs.Book.{State}
use Rattle.model.specs.Calls.{Aligned, AlignedMut, Answer, Append, Call, Claim, Clear, CopyFrom, EmptyShared, EnsureAligned, Freeze, FromBytes, Given, Inherited, IntoBytes, IntoMut, OfKind, Read, Release, Reserve, Set, Share, Slice, Take, Truncate, TryIntoMut, WithCapacity, Zeroed}
use Rattle.model.specs.Keyed.{All}
use Rattle.model.specs.Kinds.{SoundKind}
use Rattle.model.specs.Patterns.{Even}
use Rattle.model.specs.Pedigree.{Table, feed}

-- What the types of the code give every call: its kinds are sound, its alignments are alignments, and its patterns have the kind's width.
abbrev pub SoundClaim : Claim → Type 0
SoundClaim (Given a) = IsAlignment a
SoundClaim Inherited = Unit {0}
SoundClaim OfKind = Unit {0}

-- what they give each call
abbrev pub Sound : Call → Type 0
Sound (WithCapacity k c a p) = SoundKind k × IsAlignment a × IsAlignment p
Sound (Zeroed k mutable n a p) = SoundKind k × IsAlignment a × IsAlignment p
Sound (CopyFrom k mutable vs a p) = SoundKind k × IsAlignment a × IsAlignment p × Even k.width vs
Sound (EmptyShared k a) = SoundKind k × IsAlignment a
Sound (Reserve h n) = Unit {0}
Sound (Append h vs) = Even h.kind.width vs
Sound (Truncate h n) = Unit {0}
Sound (Clear h) = Unit {0}
Sound (Set h i v) = length v ≡ h.kind.width
Sound (Take h) = Unit {0}
Sound (AlignedMut h a) = IsAlignment a
Sound (Freeze h) = Unit {0}
Sound (IntoBytes h) = Unit {0}
Sound (FromBytes h k a) = SoundKind k × IsAlignment a
Sound (Share h) = Unit {0}
Sound (Slice h first last a) = SoundClaim a
Sound (TryIntoMut h) = Unit {0}
Sound (IntoMut h) = Unit {0}
Sound (Aligned h a) = IsAlignment a
Sound (EnsureAligned h a) = IsAlignment a
Sound (Read h) = Unit {0}
Sound (Release h) = Unit {0}

-- a store with its table of pedigrees beside it
pub record Store : Type 0 where
  pub state : State
  pub table : Table

-- a new store: a lawful allocator without blocks, any bytes, an empty book and an empty table
pub record New (s : Store) : Type 0 where
  pub lawful : Lawful s.state.meaning
  pub vacant : s.state.meaning.live ≡ []
  pub fits : length s.state.bytes ≡ s.state.meaning.extent
  pub first : s.state.next ≡ 1
  pub lines : s.state.lines ≡ []
  pub rows : s.table ≡ []

-- the stores of a run
abbrev pub World : Type 0
World = List Store

-- a store is one of these
abbrev pub In : Store → World → Type 0
In s [] = ⊥
In s (x ∷ xs) = (x ≡ s) ⊎ In s xs

-- no two stores have one number
abbrev pub Different : World → Type 0
Different [] = Unit {0}
Different (s ∷ ss) = All (λ t. t.state.number ≢ s.state.number) ss × Different ss

-- one call on one store, brought a region of n bytes; its table is fed, and the other stores stay
pub data Step : World → World → Type 0 where
  here : {s : Store} {ss : World} (n : ℕ) (c : Call) (a : Answer) (st' : State) → Sound c → Answers s.state n c a st' → Step (s ∷ ss) (record { state = st'; table = feed s.table c a } ∷ ss)
  there : {s : Store} {ss ss' : World} → Step ss ss' → Step (s ∷ ss) (s ∷ ss')

-- the worlds that runs come to: new stores of different numbers, and then any calls on any of them
pub data Reached : World → Type 0 where
  start : {w : World} → All New w → Different w → Reached w
  next : {w w' : World} → Reached w → Step w w' → Reached w'
