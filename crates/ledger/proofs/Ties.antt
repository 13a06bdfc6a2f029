-- From a ledger's own fields to the invariant of runs, and to the fields after a call.
use Rattle.std.proofs.Common.{◌≡◌, ℕ, Bool, true, false, not, ◌&&◌, leb, List, [], ◌∷◌, length, None, sym, refl, subst, arith}
use mathlib.Core.Logic.{∥∥₁_map}
use Rattle.std.proofs.lemmas.Bool.{leb-true, not-true}
use Rattle.allocation.specs.declared.block.Block.{Block}
use Rattle.allocation.specs.Faults.{any_block}
use Rattle.allocation.specs.Meaning.{Among, Fixed, Lawful, Meaning}
use Rattle.model.specs.declared.line.Line.{Line}
use Rattle.model.specs.Book.{State, serial_of}
use Rattle.model.specs.Calls.{Call, granted}
use Rattle.model.specs.Invariant.{Plain, plain_of, Sure}
use Rattle.model.specs.Keyed.{find, Rising}
use Rattle.model.specs.Runs.{New, Sound}
use Rattle.model.proofs.KeepsSure.{Well, keeps_sure, sure_well, well_inv, well_on}
use Rattle.model.proofs.Shapes.{never}
use Rattle.model.proofs.Strip.{strip}
use Rattle.ledger.specs.Entry.{Ready}
use Rattle.ledger.specs.Limits.{Limits, in_limits, serves, least_base, greatest_base, least_extent, greatest_extent}
use Rattle.ledger.specs.Results.{Grants}
use Rattle.ledger.specs.View.{opened}
use Rattle.ledger.proofs.Fixing.{fixed_by}

-- the ghost fields of a ledger
abbrev pub Fields : ℕ → List Line → Plain → Type 0
Fields next ls p = record { sure : ∥ Sure next ls p ∥₁; limits : Limits p }

-- what the fields say, at a region of the allocator's length
pub readied : (st : State) → Lawful st.meaning → length st.bytes ≡ st.meaning.extent → Fields st.next st.lines (plain_of st.meaning) → Ready st
readied st law long f = record {
  lawful = law;
  long = long;
  sure = strip st.next st.lines (plain_of st.meaning) f.sure;
  limits = f.limits;
}

module _ (st : State) (r : Ready st) where
  pub well : Well st
  well = sure_well st r.lawful r.long r.sure

  -- the fields after a call that is sound by a type that says so truncated
  pub after_typed : (c : Call) (s : ℕ) (st' : State) → ∥ Sound c ∥₁ → Grants st c s st' → Fields st'.next st'.lines (plain_of st'.meaning)
  after_typed c s st' sound q =
      let f : Fixed st.meaning st'.meaning = fixed_by st (length st.bytes) c (granted q.0) st' q.2 in
      let l = r.limits in
      record {
        sure = ∥∥₁_map sound (λ k. keeps_sure st (length st.bytes) c (granted q.0) st' r.lawful refl k q.2 r.sure);
        limits = (omega (arith, l.0, f.base), omega (arith, l.1, f.base), omega (arith, l.2, f.extent), omega (arith, l.3, f.extent));
      }

  -- the same after a sound one
  pub after : (c : Call) (s : ℕ) (st' : State) → Sound c → Grants st c s st' → Fields st'.next st'.lines (plain_of st'.meaning)
  after c s st' sound q = after_typed c s st' ∣ sound ∣₁ q

  -- what the fields give, after a call
  pub ready_after : (c : Call) (s : ℕ) (st' : State) → Sound c → Grants st c s st' → Ready st'
  ready_after c s st' sound q = let w = well_inv st' (well_on st (length st.bytes) c (granted q.0) st' well sound q.2) in readied st' w.law w.long (after c s st' sound q)

  -- nothing changed but, perhaps, the allocator's own fields
  pub same : (m : Meaning) → m ≡ st.meaning → Fields st.next st.lines (plain_of m)
  same m e = subst (λ z. Fields st.next st.lines (plain_of z)) (sym e) (record { sure = ∣ r.sure ∣₁; limits = r.limits })

no_line : (s : ℕ) → find serial_of s [] ≡ None
unfolding find
no_line s = refl

no_block : (b : Block) → Among b [] → ⊥
unfolding Among
no_block b a = a

none_rising : Rising serial_of 0 1 []
unfolding Rising
none_rising = tt

none_live : (bs : List Block) → any_block bs ≡ false → bs ≡ []
none_live [] e = refl
none_live (b ∷ bs) e = absurd (mathlib.Core.Bool.true≢false e)

-- the fields of a new store
pub fresh : (m : Meaning) (next : ℕ) (ls : List Line) → any_block m.live ≡ false → Limits (plain_of m) → (next ≡ 1) × (ls ≡ []) → Fields next ls (plain_of m)
fresh m next ls e lim f = record {
  sure = subst (λ n. ∥ Sure n ls (plain_of m) ∥₁) (sym f.0) (subst (λ (zs : List Line). ∥ Sure 1 zs (plain_of m) ∥₁) (sym f.1) ∣ record {
    order = none_rising;
    counted = record { begun = omega arith; unspent = omega arith; few = omega arith };
    each = tt;
    stands = λ s l x. absurd (never (no_line s) x);
    held = λ s l b x y. absurd (never (no_line s) x);
    used = λ b x. absurd (no_block b (subst (Among b) (none_live m.live e) x));
    alone = λ s t l k b d x y g h. absurd (never (no_line s) x);
  } ∣₁);
  limits = lim;
}

both : (a b : Bool) → (a && b) ≡ true → (a ≡ true) × (b ≡ true)
both true b e = (refl, e)
both false b e = absurd (mathlib.Core.Bool.false≢true e)

-- what was asked of the allocator before the store was opened
pub served : (m : Meaning) → serves m ≡ true → (any_block m.live ≡ false) × Limits (plain_of m)
served m e =
    let a = both (in_limits m.base m.extent) (not (any_block m.live)) e in
    let b = both (leb least_base m.base) (leb m.base greatest_base && (leb least_extent m.extent && leb m.extent greatest_extent)) a.0 in
    let c = both (leb m.base greatest_base) (leb least_extent m.extent && leb m.extent greatest_extent) b.1 in
    let d = both (leb least_extent m.extent) (leb m.extent greatest_extent) c.1 in
    (not-true (any_block m.live) a.1, (leb-true least_base m.base b.0, leb-true m.base greatest_base c.0, leb-true least_extent m.extent d.0, leb-true m.extent greatest_extent d.1))

-- the state of a store that was opened
pub opened_is : (number : ℕ) (m : Meaning) (next : ℕ) (ls : List Line) (bytes : List ℕ) → (next ≡ 1) × (ls ≡ []) → record { number = number; next = next; lines = ls; meaning = m; bytes = bytes } ≡ opened number m bytes
opened_is number m next ls bytes q = λ j. record { number = number; next = q.0 j; lines = q.1 j; meaning = m; bytes = bytes }

-- what was opened starts a run
pub starts : (number : ℕ) (m : Meaning) → Lawful m → serves m ≡ true → (bytes : List ℕ) → length bytes ≡ m.extent → New (record { state = opened number m bytes; table = [] })
starts number m law e bytes long = record {
  lawful = law;
  vacant = none_live m.live (served m e).0;
  fits = long;
  first = refl;
  lines = refl;
  rows = refl;
}
