-- What a granted call leaves: the lines, the allocator's meaning and the region's bytes after it.
use Rattle.std.specs.Prelude.{◌≡◌, ℕ, ◌+◌, ◌-◌, ◌*◌, ◌/◌, ◌^◌, max, Bool, true, false, cond, not, List, [], ◌∷◌, ◌++◌, length, replicate, Some, None, Option, nat_le, nat_lt}
use Rattle.std.specs.Option.{option_or}
use Rattle.region.specs.Bytes.{overwrite, part}
use Rattle.allocation.specs.declared.block.Block.{Block}
use Rattle.allocation.specs.declared.block.Request.{Request}
use Rattle.allocation.specs.Alignments.{round_up}
use Rattle.allocation.specs.Meaning.{Allocates, Frees, Grows, Meaning}
use Rattle.model.specs.declared.line.Backing.{Backing}
use Rattle.model.specs.declared.line.Backing.TheVariants.{Empty, Owned, Unbacked}
use Rattle.model.specs.declared.line.Kind.{Kind}
use Rattle.model.specs.declared.line.Line.{Line}
use Rattle.model.specs.Book.{State, block_of, line, serial_of, shared_by, shown, usable}
use Rattle.model.specs.Calls.{Aligned, AlignedMut, Append, Call, Clear, CopyFrom, EmptyShared, EnsureAligned, Freeze, FromBytes, Grant, IntoBytes, IntoMut, Read, Release, Reserve, Set, Share, Slice, Take, Truncate, TryIntoMut, WithCapacity, Zeroed, done, giving, preferred_alignment}
use Rattle.model.specs.Checks.{begin, claimed, enough, finish, is_aligned, request_for, takes_new, wanted_bytes, wanted_request}
use Rattle.model.specs.Keyed.{update, without}
use Rattle.model.specs.Kinds.{byte}
use Rattle.model.specs.Patterns.{joined}

-- a new line, behind the others
unfoldable pub add_line : State → Line → State
add_line st l = record { number = st.number; next = st.next + 1; lines = st.lines ++ (l ∷ []); meaning = st.meaning; bytes = st.bytes }

-- a line in place of the one with its serial
unfoldable pub put_line : State → Line → State
put_line st l = record { number = st.number; next = st.next; lines = update serial_of l.serial (λ _. l) st.lines; meaning = st.meaning; bytes = st.bytes }

-- without the line of a serial
unfoldable pub end_line : State → ℕ → State
end_line st s = record { number = st.number; next = st.next; lines = without serial_of s st.lines; meaning = st.meaning; bytes = st.bytes }

-- with another meaning of the allocator
unfoldable pub with_meaning : State → Meaning → State
with_meaning st m = record { number = st.number; next = st.next; lines = st.lines; meaning = m; bytes = st.bytes }

-- with other bytes in the region
unfoldable pub with_bytes : State → List ℕ → State
with_bytes st bytes = record { number = st.number; next = st.next; lines = st.lines; meaning = st.meaning; bytes = bytes }

-- lines with some parts changed
abbrev pub with_len : Line → ℕ → Line
with_len l n = record { serial = l.serial; mutable = l.mutable; kind = l.kind; backing = l.backing; start = l.start; len = n; capacity = l.capacity; claim = l.claim }

-- mutable or shared, with another capacity
abbrev pub with_state : Line → Bool → ℕ → Line
with_state l mutable capacity = record { serial = l.serial; mutable = mutable; kind = l.kind; backing = l.backing; start = l.start; len = l.len; capacity = capacity; claim = l.claim }

-- under another serial
abbrev pub with_serial : Line → ℕ → Line
with_serial l s = record { serial = s; mutable = l.mutable; kind = l.kind; backing = l.backing; start = l.start; len = l.len; capacity = l.capacity; claim = l.claim }

-- on another backing
abbrev pub with_backing : Line → Backing → Line
with_backing l b = record { serial = l.serial; mutable = l.mutable; kind = l.kind; backing = b; start = l.start; len = l.len; capacity = l.capacity; claim = l.claim }

-- with another claim
abbrev pub with_claim : Line → ℕ → Line
with_claim l a = record { serial = l.serial; mutable = l.mutable; kind = l.kind; backing = l.backing; start = l.start; len = l.len; capacity = l.capacity; claim = a }

-- the same bytes as elements of another kind
abbrev pub regrouped : Line → Kind → ℕ → ℕ → ℕ → Line
regrouped l k len capacity claim = record { serial = l.serial; mutable = l.mutable; kind = k; backing = l.backing; start = l.start; len = len; capacity = capacity; claim = claim }

-- shared handles have no capacity
abbrev pub frozen : Line → Line
frozen l = with_state l false 0

-- a mutable line without a block
abbrev pub empty_line : ℕ → Kind → ℕ → Line
empty_line s k claim = record { serial = s; mutable = true; kind = k; backing = Empty None; start = max claim preferred_alignment; len = 0; capacity = 0; claim = claim }

-- a shared line without a backing
abbrev pub unbacked_line : ℕ → Kind → ℕ → Line
unbacked_line s k claim = record { serial = s; mutable = false; kind = k; backing = Unbacked; start = 2 ^ 63; len = 0; capacity = 0; claim = claim }

-- a block is got, where one is wanted
abbrev pub Obtains : Bool → Meaning → Request → Option Block → Meaning → Type 0
Obtains true m r got m' = (b : Block) × (got ≡ Some b) × Allocates m r b m'
Obtains false m r got m' = (got ≡ None) × (m' ≡ m)

-- a block is given back, if there is one
abbrev pub GivesBack : Meaning → Option Block → Meaning → Type 0
GivesBack m None m' = m' ≡ m
GivesBack m (Some b) m' = Frees m b m'

-- the block that goes back when a line leaves its backing: none while another handle is on it
abbrev pub block_left : Bool → Line → Option Block
block_left true l = None
block_left false l = block_of l.backing

-- the blocks that were got, none or one
abbrev pub list_of : Option Block → List Block
list_of None = []
list_of (Some b) = b ∷ []

-- elements start at the first multiple of m in the block that was got; without one, at m
abbrev pub backing_in : Option Block → Backing
backing_in None = Empty None
backing_in (Some b) = Owned b

-- where the elements start
abbrev pub start_in : ℕ → ℕ → Option Block → ℕ
start_in base m None = m
start_in base m (Some b) = round_up (base + b.place) m

-- how many elements of w bytes the block holds from there on
abbrev pub capacity_in : ℕ → ℕ → ℕ → Option Block → ℕ
capacity_in base m w None = 0
capacity_in base m w (Some b) = (usable b - (round_up (base + b.place) m - (base + b.place))) / w

-- bytes written there
abbrev pub written_in : ℕ → ℕ → Option Block → List ℕ → List ℕ → List ℕ
written_in base m None new bytes = bytes
written_in base m (Some b) new bytes = overwrite (round_up (base + b.place) m - base) new bytes

-- the whole block set to zero
abbrev pub zeros_in : Option Block → List ℕ → List ℕ
zeros_in None bytes = bytes
zeros_in (Some b) bytes = overwrite b.place (replicate b.size 0) bytes

-- the line that a making adds, mutable
abbrev pub made : State → Kind → ℕ → ℕ → ℕ → Option Block → Line
made st k claim m n got = record { serial = st.next; mutable = true; kind = k; backing = backing_in got; start = start_in st.meaning.base m got; len = n; capacity = capacity_in st.meaning.base m k.width got; claim = claim }

-- as it was made, or frozen at once
abbrev pub made_as : Bool → Line → Line
made_as mutable l = with_state l mutable (cond mutable l.capacity 0)

-- a making: a block for c elements is got, n elements are written, and the line is added
pub record Made (st : State) (k : Kind) (mutable : Bool) (c claim m n : ℕ) (writes : Option Block → List ℕ) (g : Grant) (st' : State) : Type 0 where
  pub got : Option Block
  pub meaning : Meaning
  pub gets : Obtains (nat_lt 0 c) st.meaning (request_for (c * k.width + m)) got meaning
  pub grant : g ≡ giving st.next (list_of got)
  pub is : st' ≡ add_line (with_bytes (with_meaning st meaning) (writes got)) (made_as mutable (made st k claim m n got))

-- the line l with its elements copied into what was got
unfoldable pub copied_into : ℕ → Line → Bool → ℕ → ℕ → ℕ → Option Block → Line
copied_into base l mutable claim m capacity got = record { serial = l.serial; mutable = mutable; kind = l.kind; backing = backing_in got; start = start_in base m got; len = l.len; capacity = capacity; claim = claim }

-- a copy: a block for c elements is got, the elements are copied, and then the old backing is left as by a release
pub record Copies (st : State) (l : Line) (c claim : ℕ) (mutable : Bool) (capacity : Option Block → ℕ) (g : Grant) (st' : State) : Type 0 where
  pub got : Option Block
  pub between : Meaning
  pub meaning : Meaning
  pub gets : Obtains (nat_lt 0 c) st.meaning (request_for (c * l.kind.width + max claim preferred_alignment)) got between
  pub gives : GivesBack between (block_left (shared_by st l) l) meaning
  pub grant : g ≡ record { serial = 0; blocks = list_of got; copied = true }
  pub is : st' ≡ put_line (with_bytes (with_meaning st meaning) (written_in st.meaning.base (max claim preferred_alignment) got (shown st.meaning.base l st.bytes) st.bytes))
      (copied_into st.meaning.base l mutable claim (max claim preferred_alignment) (capacity got) got)

-- the line stays where it is, or else something happens
abbrev pub StaysOr : Bool → State → Line → Grant → State → Type 0 → Type 0
StaysOr true st l g st' Else = (g ≡ done) × (st' ≡ put_line st l)
StaysOr false st l g st' Else = Else

-- reserving in a new block: the elements are copied to `place`, and then the old block, if any, goes back
pub record TakesNew (m : Meaning) (bytes : List ℕ) (l : Line) (r : Request) (place : ℕ) (b : Block) (m' : Meaning) (bytes' : List ℕ) : Type 0 where
  pub between : Meaning
  pub gets : Allocates m r b between
  pub gives : GivesBack between (block_of l.backing) m'
  pub writes : bytes' ≡ overwrite place (shown m.base l bytes) bytes

-- reserving by growth: the elements, at their old offset in the grown block, move to `place`
pub record Grown (m : Meaning) (bytes : List ℕ) (l : Line) (r : Request) (place : ℕ) (b : Block) (m' : Meaning) (bytes' : List ℕ) : Type 0 where
  pub from : Block
  pub was : block_of l.backing ≡ Some from
  pub between : List ℕ
  pub grows : Grows m from r b m' bytes between
  pub moves : bytes' ≡ overwrite place (part (b.place + (l.start - (m.base + from.place))) (l.len * l.kind.width) between) between

-- the line l over another block
abbrev pub relocated : Line → Block → ℕ → ℕ → Line
relocated l b start capacity = record { serial = l.serial; mutable = l.mutable; kind = l.kind; backing = Owned b; start = start; len = l.len; capacity = capacity; claim = l.claim }

-- reserving where there is not enough room: the elements start at the first multiple of the claim, and the capacity is what was wanted
pub record Relocates (st : State) (l : Line) (more : ℕ) (bs : List Block) (st' : State) : Type 0 where
  pub block : Block
  pub meaning : Meaning
  pub bytes : List ℕ
  pub by_new : takes_new st.meaning l more ≡ true → TakesNew st.meaning st.bytes l (wanted_request l more) (round_up (st.meaning.base + block.place) l.claim - st.meaning.base) block meaning bytes
  pub by_growth : takes_new st.meaning l more ≡ false → Grown st.meaning st.bytes l (wanted_request l more) (round_up (st.meaning.base + block.place) l.claim - st.meaning.base) block meaning bytes
  pub got : bs ≡ block ∷ []
  pub is : st' ≡ put_line (with_bytes (with_meaning st meaning) bytes) (relocated l block (round_up (st.meaning.base + block.place) l.claim) (wanted_bytes l more / l.kind.width))

-- reserving: nothing happens where there is enough room
abbrev pub Reserves : Bool → State → Line → ℕ → List Block → State → Type 0
Reserves true st l more bs st' = (bs ≡ []) × (st' ≡ st)
Reserves false st l more bs st' = Relocates st l more bs st'

-- elements written behind the last
unfoldable pub appended : State → Line → List (List ℕ) → State
appended st l vs = put_line (with_bytes st (overwrite (l.start - st.meaning.base + l.len * l.kind.width) (joined vs) st.bytes)) (with_len l (l.len + length vs))

-- the first n elements, where there are so many
abbrev pub shortened : Bool → ℕ → Line → Line
shortened true n l = with_len l n
shortened false n l = l

-- a backing that the handle s comes to share: an empty one takes its number
abbrev pub shared_with : ℕ → Backing → Backing
shared_with s Unbacked = Unbacked
shared_with s (Empty n) = Empty (option_or n (Some s))
shared_with s (Owned b) = Owned b

-- the line of a slice of n elements from the first one on; an empty slice has no backing
abbrev pub slice_line : Bool → State → Line → ℕ → ℕ → ℕ → Line
slice_line true st l first n a = record { serial = st.next; mutable = false; kind = l.kind; backing = l.backing; start = l.start + first * l.kind.width; len = n; capacity = 0; claim = a }
slice_line false st l first n a = unbacked_line st.next l.kind a

-- a shared line that becomes mutable where it stands; without a backing it becomes an empty one
abbrev pub unfrozen : State → Line → Backing → Line
unfrozen st l Unbacked = empty_line l.serial l.kind l.claim
unfrozen st l (Empty n) = with_state l true 0
unfrozen st l (Owned b) = with_state l true ((usable b - (l.start - (st.meaning.base + b.place))) / l.kind.width)

-- what each granted call leaves: everything is settled but the place of a block that the allocator gives, and bytes of such a block on which no element stands
abbrev pub Does : State → Call → Grant → State → Type 0
Does st (WithCapacity k c a p) g st' = Made st k true c a (max a p) 0 (λ got. st.bytes) g st'
Does st (Zeroed k mutable n a p) g st' = Made st k mutable n a (max a p) n (λ got. zeros_in got st.bytes) g st'
Does st (CopyFrom k mutable vs a p) g st' = Made st k mutable (length vs) a (max a p) (length vs) (λ got. written_in st.meaning.base (max a p) got (joined vs) st.bytes) g st'
Does st (EmptyShared k a) g st' = (g ≡ giving st.next []) × (st' ≡ add_line st (unbacked_line st.next k a))
Does st (Reserve h n) g st' =
    (bs : List Block) × Reserves (enough (line st h) n) st (line st h) n bs st' × (g ≡ giving 0 bs)
Does st (Append h vs) g st' =
    (between : State) × (bs : List Block)
    × Reserves (enough (line st h) (length vs)) st (line st h) (length vs) bs between
    × (g ≡ giving 0 bs)
    × (st' ≡ appended between (line between h) vs)
Does st (Truncate h n) g st' = (g ≡ done) × (st' ≡ put_line st (shortened (nat_le n (line st h).len) n (line st h)))
Does st (Clear h) g st' = (g ≡ done) × (st' ≡ put_line st (with_len (line st h) 0))
Does st (Set h i v) g st' =
    (g ≡ done) × (st' ≡ with_bytes st (overwrite ((line st h).start - st.meaning.base + i * (line st h).kind.width) v st.bytes))
Does st (Take h) g st' =
    (g ≡ giving st.next [])
    × (st' ≡ add_line (put_line st (empty_line h.serial (line st h).kind (line st h).claim)) (with_serial (line st h) st.next))
Does st (AlignedMut h a) g st' =
    StaysOr (is_aligned (line st h) a) st (with_claim (line st h) a) g st'
    (Copies st (line st h) (line st h).capacity a true (λ got. (line st h).capacity) g st')
Does st (Freeze h) g st' = (g ≡ done) × (st' ≡ put_line st (frozen (line st h)))
Does st (IntoBytes h) g st' = (g ≡ done) × (st' ≡ put_line st (regrouped (line st h) byte ((line st h).len * (line st h).kind.width) ((line st h).capacity * (line st h).kind.width) (line st h).claim))
Does st (FromBytes h k a) g st' = (g ≡ done) × (st' ≡ put_line st (regrouped (line st h) k (((line st h).len * (line st h).kind.width) / k.width) 0 a))
Does st (Share h) g st' =
    (g ≡ giving st.next [])
    × (st' ≡ add_line (put_line st (with_backing (line st h) (shared_with st.next (line st h).backing))) (with_serial (with_backing (line st h) (shared_with st.next (line st h).backing)) st.next))
Does st (Slice h first last a) g st' =
    (g ≡ giving st.next [])
    × (st' ≡ add_line st (slice_line (nat_lt (begin first) (finish last (line st h).len)) st (line st h) (begin first) (finish last (line st h).len - begin first) (claimed a (line st h))))
Does st (TryIntoMut h) g st' = (g ≡ done) × (st' ≡ put_line st (unfrozen st (line st h) (line st h).backing))
Does st (IntoMut h) g st' =
    StaysOr (not (shared_by st (line st h))) st (unfrozen st (line st h) (line st h).backing) g st'
    (Copies st (line st h) (line st h).len (line st h).claim true (capacity_in st.meaning.base (max (line st h).claim preferred_alignment) (line st h).kind.width) g st')
Does st (Aligned h a) g st' =
    StaysOr (is_aligned (line st h) a) st (with_claim (line st h) a) g st'
    (Copies st (line st h) (line st h).len a false (λ got. 0) g st')
Does st (EnsureAligned h a) g st' = (g ≡ done) × (st' ≡ put_line st (with_claim (line st h) a))
Does st (Read h) g st' = (g ≡ done) × (st' ≡ st)
Does st (Release h) g st' =
    (m : Meaning)
    × GivesBack st.meaning (block_left (shared_by st (line st h)) (line st h)) m
    × (g ≡ done)
    × (st' ≡ end_line (with_meaning st m) h.serial)
