-- What holds in every world that a run comes to.
use Rattle.std.specs.Prelude.{◌≡◌, ℕ, ◌+◌, ◌*◌, ◌%◌, ◌<◌, ◌≤◌, max, true, false, ◌⊎◌, ◌↔◌, List, [], length, Some, None, ◌≢◌, slice_index}
use Rattle.region.specs.Bytes.{equal, part}
use Rattle.allocation.specs.declared.block.Block.{Block}
use Rattle.allocation.specs.declared.fault.Fault.{Fault}
use Rattle.allocation.specs.declared.fault.Fault.TheVariants.{Alone, Asked}
use Rattle.allocation.specs.declared.fault.Refusal.TheVariants.{BackingShared, NotGranted}
use Rattle.allocation.specs.Alignments.{IsAlignment, greatest_size}
use Rattle.allocation.specs.Meaning.{Among, Apart, Lawful, end_of}
use Rattle.allocation.specs.Refusals.{refusal_of}
use Rattle.model.specs.declared.line.Handle.{Handle}
use Rattle.model.specs.declared.line.Kind.{Kind}
use Rattle.model.specs.declared.line.Line.{Line}
use Rattle.model.specs.Answers.{Answers}
use Rattle.model.specs.Book.{State, block_of, line, line_limit, look_up, one_backing, serial_limit, shown}
use Rattle.model.specs.Calls.{Answer, Call, Grant, granted, preferred_alignment, read, refused, try_into_mut, with_capacity_in}
use Rattle.model.specs.Checks.{brings, checks, refusal}
use Rattle.model.specs.Invariant.{Plain, Sure, SureOf}
use Rattle.model.specs.Keyed.{All}
use Rattle.model.specs.Kinds.{SoundKind}
use Rattle.model.specs.Patterns.{joined}
use Rattle.model.specs.Pedigree.{Row, row}
use Rattle.model.specs.Reads.{len_of, same, says, slice_bytes, slice_place}
use Rattle.model.specs.Runs.{In, Reached, Sound, Store, World}

-- a line and a row of one handle: as many elements of the same kind, over the same block
pub record Agree (l : Line) (r : Row) : Type 0 where
  pub kind : r.kind ≡ l.kind
  pub len : length r.list ≡ l.len
  pub block : r.block ≡ block_of l.backing

-- the live handles are those with a row, and the row agrees with the line
abbrev pub RowsLaw : Type 0
RowsLaw =
    (w : World) → Reached w → (s : Store) → In s w → (n : ℕ)
    → (((l : Line) × (look_up n s.state ≡ Some l)) ↔ ((r : Row) × (row n s.table ≡ Some r)))
    × ((l : Line) (r : Row) → look_up n s.state ≡ Some l → row n s.table ≡ Some r → Agree l r)

-- what every line keeps: its alignment, and its elements inside its block
pub record Kept (base : ℕ) (l : Line) : Type 0 where
  pub serial_low : 1 ≤ l.serial
  pub serial_high : l.serial < serial_limit
  pub kind : SoundKind l.kind
  pub alignment : IsAlignment l.claim
  pub start : l.start % l.claim ≡ 0
  pub claim : l.kind.align ≤ l.claim
  pub low : (b : Block) → block_of l.backing ≡ Some b → base + b.place ≤ l.start
  pub high : (b : Block) → block_of l.backing ≡ Some b → l.start + l.len * l.kind.width ≤ base + end_of b
  pub room : (b : Block) → block_of l.backing ≡ Some b → l.start + l.capacity * l.kind.width ≤ base + end_of b
  pub bare : block_of l.backing ≡ None → (l.len ≡ 0) × (l.capacity ≡ 0)
  pub ample : l.mutable ≡ true → l.len ≤ l.capacity
  pub shared : l.mutable ≡ false → l.capacity ≡ 0

-- every line in a run keeps these, and there are at most 64
abbrev pub LinesLaw : Type 0
LinesLaw =
    (w : World) → Reached w → (s : Store) → In s w
    → (length s.state.lines ≤ line_limit) × ((n : ℕ) (l : Line) → look_up n s.state ≡ Some l → Kept s.state.meaning.base l)

-- a mutable handle is alone on its backing
abbrev pub AloneLaw : Type 0
AloneLaw =
    (w : World) → Reached w → (s : Store) → In s w
    → (m n : ℕ) (k l : Line) → (n ≢ m) → look_up m s.state ≡ Some k → look_up n s.state ≡ Some l
    → one_backing k.backing l.backing ≡ true → k.mutable ≡ false

-- a part that a store shows: the read is granted, the handle's row is r, and the part's bytes are xs
pub record Shows (s : Store) (n : ℕ) (h : Handle) (r : Row) (xs : List ℕ) : Type 0 where
  pub granted : refusal (checks s.state n (read h)) ≡ None
  pub row : row h.serial s.table ≡ Some r
  pub bytes : xs ≡ slice_bytes s.state h

-- parts of one kind, shown at any two points of runs, are their lists' patterns; they are equal exactly when the lists are, and `same` says so
abbrev pub PartsLaw : Type 0
PartsLaw =
    (w v : World) → Reached w → Reached v → (s t : Store) → In s w → In t v
    → (m n : ℕ) (g h : Handle) (p q : Row) (xs ys : List ℕ) → Shows s m g p xs → Shows t n h q ys → g.kind ≡ h.kind
    → (xs ≡ joined p.list) × (ys ≡ joined q.list)
    × ((xs ≡ ys) ↔ (p.list ≡ q.list))
    × (same g.kind xs ys ≡ says (equal xs ys))
    × ((same g.kind xs ys ≡ says true) ↔ (p.list ≡ q.list))

-- a part lies in the region: at its place, as many bytes as the elements have
abbrev pub PlaceLaw : Type 0
PlaceLaw =
    (w : World) → Reached w → (s : Store) → In s w
    → (n : ℕ) (h : Handle) → refusal (checks s.state n (read h)) ≡ None
    → (slice_place s.state h + len_of s.state h * h.kind.width ≤ length s.state.bytes)
    × (slice_bytes s.state h ≡ part (slice_place s.state h) (len_of s.state h * h.kind.width) s.state.bytes)

-- a call changes no line but those of its handles, and no part that another handle shows
abbrev pub FrameLaw : Type 0
FrameLaw =
    (w : World) → Reached w → (s : Store) → In s w
    → (n : ℕ) (c : Call) (a : Answer) (st' : State) → Sound c → Answers s.state n c a st'
    → (t : ℕ) (l : Line) → look_up t s.state ≡ Some l → All (λ h. h.serial ≢ t) (brings c).handles
    → (look_up t st' ≡ Some l) × (shown st'.meaning.base l st'.bytes ≡ shown s.state.meaning.base l s.state.bytes)

-- a place outside of a block
abbrev pub Off : ℕ → Block → Type 0
Off i b = (i < b.place) ⊎ (end_of b ≤ i)

-- a granted call writes nowhere but in blocks that it got or grew and in the blocks under its handles
abbrev pub WritesLaw : Type 0
WritesLaw =
    (w : World) → Reached w → (s : Store) → In s w
    → (n : ℕ) (c : Call) (g : Grant) (st' : State) → Sound c → Answers s.state n c (granted g) st'
    → (i : ℕ) → ((b : Block) → Among b g.blocks → Off i b) → All (λ h. (b : Block) → block_of (line s.state h).backing ≡ Some b → Off i b) (brings c).handles
    → slice_index st'.bytes i ≡ slice_index s.state.bytes i

-- the live blocks are those under rows
abbrev pub BlocksLaw : Type 0
BlocksLaw =
    (w : World) → Reached w → (s : Store) → In s w → (b : Block)
    → Among b s.state.meaning.live ↔ ((n : ℕ) × (r : Row) × (row n s.table ≡ Some r) × (r.block ≡ Some b))

-- with the copying mark, a block that a call gets shares no byte with any that was live before it: an old block goes back only when the new one is there
abbrev pub FreshLaw : Type 0
FreshLaw =
    (w : World) → Reached w → (s : Store) → In s w → s.state.meaning.copies ≡ true
    → (n : ℕ) (c : Call) (g : Grant) (st' : State) → Answers s.state n c (granted g) st'
    → (b d : Block) → Among b g.blocks → Among d s.state.meaning.live → Apart b d

-- another live handle is on the backing of a line
abbrev pub HasOther : State → Line → Type 0
HasOther st l = (t : ℕ) × (m : Line) × (t ≢ l.serial) × (look_up t st ≡ Some m) × (one_backing l.backing m.backing ≡ true)

-- `try_into_mut` of a live shared handle is refused exactly where another live handle is on its backing
abbrev pub SharingLaw : Type 0
SharingLaw =
    (w : World) → Reached w → (s : Store) → In s w
    → (n : ℕ) (h : Handle) → refusal (checks s.state n (read h)) ≡ None → h.mutable ≡ false
    → (refusal (checks s.state n (try_into_mut h)) ≡ Some (Alone BackingShared)) ↔ HasOther s.state (line s.state h)

-- a refusal comes alone, or is the allocator's, with what was asked of it
abbrev pub PlainFault : Fault → Type 0
PlainFault (Alone r) = Unit {0}
PlainFault (Asked r layer q) = (r ≡ NotGranted) × (q.align ≡ 1)

-- which faults a call answers
abbrev pub FaultsLaw : Type 0
FaultsLaw = (st : State) (n : ℕ) (c : Call) (f : Fault) (st' : State) → Answers st n c (refused f) st' → PlainFault f

-- what `with_capacity_in` asks for
abbrev pub asked_bytes : Kind → ℕ → ℕ
asked_bytes k c = c * k.width + max k.align preferred_alignment

-- with no live handle, `with_capacity_in` is not granted only where it asks for more bytes than the allocator's room
abbrev pub RoomLaw : Type 0
RoomLaw =
    (w : World) → Reached w → (s : Store) → In s w → ((t : ℕ) → look_up t s.state ≡ None)
    → (n : ℕ) (k : Kind) (c : ℕ) (f : Fault) (st' : State) → SoundKind k → refusal_of f ≡ NotGranted
    → Answers s.state n (with_capacity_in k c) (refused f) st' → s.state.meaning.room < asked_bytes k c

-- and what fits the room is granted, while serials last
abbrev pub GrantLaw : Type 0
GrantLaw =
    (w : World) → Reached w → (s : Store) → In s w → ((t : ℕ) → look_up t s.state ≡ None)
    → (n : ℕ) (k : Kind) (c : ℕ) → SoundKind k → n ≡ s.state.meaning.extent → s.state.next < serial_limit
    → asked_bytes k c ≤ s.state.meaning.room → asked_bytes k c ≤ greatest_size → refusal (checks s.state n (with_capacity_in k c)) ≡ None

-- the whole law
abbrev pub StoreLaw : Type 0
StoreLaw = RowsLaw × LinesLaw × AloneLaw × PartsLaw × PlaceLaw × FrameLaw × WritesLaw × BlocksLaw × FreshLaw × SharingLaw × FaultsLaw × RoomLaw × GrantLaw

-- The invariant of a state alone: it holds of a new store and in every world that a run comes to, every call keeps it, and nothing is lost where only its truth is kept.
abbrev pub InvariantLaw : Type 0
InvariantLaw =
    ((p : Plain) → p.live ≡ [] → Sure 1 [] p)
    × ((w : World) → Reached w → (s : Store) → In s w → SureOf s.state)
    × ((st : State) (n : ℕ) (c : Call) (a : Answer) (st' : State) → Lawful st.meaning → length st.bytes ≡ n → Sound c → Answers st n c a st' → SureOf st → SureOf st')
    × ((next : ℕ) (ls : List Line) (p : Plain) → ∥ Sure next ls p ∥₁ → Sure next ls p)
