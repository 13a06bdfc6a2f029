-- The table of pedigrees: fed every call and its answer, and nothing of the store.
use Rattle.std.specs.Prelude.{ℕ, ◌-◌, ◌/◌, cond, List, [], ◌∷◌, ◌++◌, length, take, drop, replicate, Some, None, Option, slice_set}
use Rattle.allocation.specs.declared.block.Block.{Block}
use Rattle.std.specs.declared.ops.Bound.{Bound}
use Rattle.model.specs.declared.line.Kind.{Kind}
use Rattle.model.specs.Calls.{Aligned, AlignedMut, Answer, Append, Call, Clear, CopyFrom, EmptyShared, EnsureAligned, Freeze, FromBytes, Grant, IntoBytes, IntoMut, Read, Release, Reserve, Set, Share, Slice, Take, Truncate, TryIntoMut, WithCapacity, Zeroed, granted, refused}
use Rattle.model.specs.Checks.{begin, finish}
use Rattle.model.specs.Keyed.{find, update, without}
use Rattle.model.specs.Kinds.{byte}
use Rattle.model.specs.Patterns.{chunks, joined}

-- a live handle's row: the list that its pedigree spells, as patterns of its kind, and the block under it or none
pub record Row : Type 0 where
  pub serial : ℕ
  pub kind : Kind
  pub list : List (List ℕ)
  pub block : Option Block

-- the rows of a store
abbrev pub Table : Type 0
Table = List Row

-- the key of a row
unfoldable pub key_of : Row → ℕ
key_of r = r.serial

-- the row of a serial
unfoldable pub row : ℕ → Table → Option Row
row s tb = find key_of s tb

-- rows with one part changed
unfoldable pub spelling : Row → List (List ℕ) → Row
spelling r vs = record { serial = r.serial; kind = r.kind; list = vs; block = r.block }

-- over another block
unfoldable pub upon : Row → Option Block → Row
upon r b = record { serial = r.serial; kind = r.kind; list = r.list; block = b }

-- under another serial
unfoldable pub named : Row → ℕ → Row
named r s = record { serial = s; kind = r.kind; list = r.list; block = r.block }

-- the same bytes as patterns of another kind
unfoldable pub as_kind : Row → Kind → Row
as_kind r k = record { serial = r.serial; kind = k; list = chunks k.width (length (joined r.list) / k.width) (joined r.list); block = r.block }

-- the last of the blocks, or else b
abbrev pub last_or : Option Block → List Block → Option Block
last_or b [] = b
last_or b (c ∷ cs) = last_or (Some c) cs

-- the row that a making begins, over the last block granted in it
abbrev pub begins : Grant → Kind → List (List ℕ) → Row
begins g k vs = record { serial = g.serial; kind = k; list = vs; block = last_or None g.blocks }

-- a row that starts from another handle's row
abbrev pub branch : Option Row → (Row → Row) → Table → Table
branch None f tb = tb
branch (Some r) f tb = f r ∷ tb

-- a range of the list, and the block under it: none where the range is empty
abbrev pub range : Row → Bound ℕ → Bound ℕ → List (List ℕ)
range r first last = take (finish last (length r.list) - begin first) (drop (begin first) r.list)

-- the block under a list: none where the list is empty
abbrev pub if_any : List (List ℕ) → Option Block → Option Block
if_any [] b = None
if_any (v ∷ vs) b = b

-- a copy puts the last block granted, or none, under the handle
abbrev pub copied_to : Grant → Row → Row
copied_to g r = upon r (cond g.copied (last_or None g.blocks) r.block)

-- what each granted call makes of the table
abbrev pub spell : Table → Call → Grant → Table
spell tb (WithCapacity k c a p) g = begins g k [] ∷ tb
spell tb (Zeroed k mutable n a p) g = begins g k (replicate n (replicate k.width 0)) ∷ tb
spell tb (CopyFrom k mutable vs a p) g = begins g k vs ∷ tb
spell tb (EmptyShared k a) g = begins g k [] ∷ tb
spell tb (Reserve h n) g = update key_of h.serial (λ r. upon r (last_or r.block g.blocks)) tb
spell tb (Append h vs) g = update key_of h.serial (λ r. upon (spelling r (r.list ++ vs)) (last_or r.block g.blocks)) tb
spell tb (Truncate h n) g = update key_of h.serial (λ r. spelling r (take n r.list)) tb
spell tb (Clear h) g = update key_of h.serial (λ r. spelling r []) tb
spell tb (Set h i v) g = update key_of h.serial (λ r. spelling r (slice_set r.list i v)) tb
spell tb (Take h) g = branch (row h.serial tb) (λ r. named r g.serial) (update key_of h.serial (λ r. upon (spelling r []) None) tb)
spell tb (AlignedMut h a) g = update key_of h.serial (copied_to g) tb
spell tb (Freeze h) g = tb
spell tb (IntoBytes h) g = update key_of h.serial (λ r. as_kind r byte) tb
spell tb (FromBytes h k a) g = update key_of h.serial (λ r. as_kind r k) tb
spell tb (Share h) g = branch (row h.serial tb) (λ r. named r g.serial) tb
spell tb (Slice h first last a) g = branch (row h.serial tb) (λ r. upon (spelling (named r g.serial) (range r first last)) (if_any (range r first last) r.block)) tb
spell tb (TryIntoMut h) g = tb
spell tb (IntoMut h) g = update key_of h.serial (copied_to g) tb
spell tb (Aligned h a) g = update key_of h.serial (copied_to g) tb
spell tb (EnsureAligned h a) g = tb
spell tb (Read h) g = tb
spell tb (Release h) g = without key_of h.serial tb

-- the table after a call; a refused call changes no row
abbrev pub feed : Table → Call → Answer → Table
feed tb c (refused f) = tb
feed tb c (granted g) = spell tb c g
