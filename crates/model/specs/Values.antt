-- Values of a kind, and lists of values as lists of patterns.
use Rattle.std.specs.Prelude.{◌≡◌, ℕ, ◌<◌, ◌≤◌, ◌↔◌, List, map, length}
use Rattle.model.specs.declared.line.Handle.{Handle}
use Rattle.model.specs.Keyed.{All}
use Rattle.model.specs.Laws.{Shows}
use Rattle.model.specs.Patterns.{Even, joined}
use Rattle.model.specs.Pedigree.{Row}
use Rattle.model.specs.Runs.{In, Reached, Store, World}

-- each is a byte
abbrev pub Bytes : List ℕ → Type 0
Bytes bs = All (λ b. b < 256) bs

module _ {V : Type 0} where
  -- what a kind owes: each value has one pattern, of w bytes; different values have different ones; every w bytes are the pattern of a value
  pub record Coding (w : ℕ) (pattern : V → List ℕ) : Type 0 where
    pub long : (v : V) → length (pattern v) ≡ w
    pub one : (u v : V) → pattern u ≡ pattern v → u ≡ v
    pub every : (bs : List ℕ) → length bs ≡ w → Bytes bs → (v : V) × (pattern v ≡ bs)

  -- lists of patterns are equal exactly when the lists of values are
  abbrev pub ListsAgree : (V → List ℕ) → Type 0
  ListsAgree pattern = (us vs : List V) → (map pattern us ≡ map pattern vs) ↔ (us ≡ vs)

  -- so are their bytes, where a pattern has any
  abbrev pub BytesAgree : (V → List ℕ) → Type 0
  BytesAgree pattern = (us vs : List V) → (joined (map pattern us) ≡ joined (map pattern vs)) ↔ (us ≡ vs)

  -- patterns of w bytes are those of a list of values
  abbrev pub ValuesExist : ℕ → (V → List ℕ) → Type 0
  ValuesExist w pattern = (ps : List (List ℕ)) → Even w ps → Bytes (joined ps) → (vs : List V) × (map pattern vs ≡ ps)

  -- parts that are shown of two lists of values are equal exactly when the lists are
  abbrev pub PartsAgree : ℕ → (V → List ℕ) → Type 0
  PartsAgree w pattern =
      (x y : World) → Reached x → Reached y → (s t : Store) → In s x → In t y
      → (m n : ℕ) (g h : Handle) (p q : Row) (xs ys : List ℕ) → Shows s m g p xs → Shows t n h q ys → g.kind ≡ h.kind → g.kind.width ≡ w
      → (us vs : List V) → p.list ≡ map pattern us → q.list ≡ map pattern vs → (xs ≡ ys) ↔ (us ≡ vs)

  -- for every kind
  abbrev pub ValuesLaw : (V → List ℕ) → Type 0
  ValuesLaw pattern = (w : ℕ) → 1 ≤ w → Coding w pattern → ListsAgree pattern × BytesAgree pattern × ValuesExist w pattern × PartsAgree w pattern
