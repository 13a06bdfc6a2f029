-- Calls that change one line: one argument for all of them.
use Rattle.std.proofs.Common.{◌≡◌, ℕ, ◌+◌, ◌-◌, ◌*◌, ◌^◌, ◌<◌, ◌≤◌, Bool, true, false, List, [], ◌∷◌, length, Some, None, Option, sym, refl, ap, ◌∙◌, subst, mul-le-mul_right, zero-mul, arith}
use Rattle.region.specs.Bytes.{overwrite}
use Rattle.allocation.specs.declared.block.Block.{Block}
use Rattle.allocation.specs.declared.fault.Fault.{Fault}
use Rattle.checks.specs.Groups.{index_check}
use Rattle.sizes.specs.Numbers.{state_with}
use Rattle.model.specs.Book.{State, block_of, line}
use Rattle.model.specs.Calls.{Call, Set, done}
use Rattle.model.specs.Checks.{Check, refusal, brings, checks, own, uses}
use Rattle.model.specs.Effects.{shortened, unfrozen, with_bytes}
use Rattle.model.specs.Invariant.{Sits, Stands}
use Rattle.model.specs.declared.line.Backing.{Backing}
use Rattle.model.specs.declared.line.Backing.TheVariants.{Unbacked, Empty, Owned}
use Rattle.model.specs.declared.line.Handle.{Handle}
use Rattle.model.specs.declared.line.Line.{Line}
use Rattle.model.proofs.Checks.{held}
use Rattle.ledger.specs.Entry.{Admitted}
use Rattle.ledger.specs.Results.{Grants}
use Rattle.ledger.specs.declared.spot.Spot.{Spot}
use Rattle.ledger.proofs.Edits.{is_line, over}
use Rattle.ledger.proofs.Groups.{bringing, used, known_by}

-- some changes leave the serial, whichever way they go
pub shortened_serial : (b : Bool) (n : ℕ) (l : Line) → (shortened b n l).serial ≡ l.serial
shortened_serial true n l = refl
shortened_serial false n l = refl

pub unfrozen_serial : (st : State) (l : Line) (b : Backing) → (unfrozen st l b).serial ≡ l.serial
unfrozen_serial st l Unbacked = refl
unfrozen_serial st l (Empty n) = refl
unfrozen_serial st l (Owned b) = refl

-- of a state, only the base counts
pub unfrozen_base : (st : State) (base : ℕ) (l : Line) (b : Backing) → base ≡ st.meaning.base → unfrozen (state_with 0 base) l b ≡ unfrozen st l b
unfrozen_base st base l Unbacked e = refl
unfrozen_base st base l (Empty n) e = refl
unfrozen_base st base l (Owned b) e = ap (λ z. unfrozen (state_with 0 z) l (Owned b)) e

-- the ghost fields of a line in its region
abbrev pub Places : ℕ → Line → Type 0
Places base l = record { sits : Sits base l (block_of l.backing) }

module _ (st : State) (h : Handle) (spot : Spot) (a : Admitted st h spot) where
  pub stands : Stands st.meaning.base spot.line
  stands = a.ready.sure.stands h.serial spot.line a.found

  pub places : (base : ℕ) → base ≡ st.meaning.base → Places base spot.line
  places base e = record { sits = subst (λ b. Sits b spot.line (block_of spot.line.backing)) (sym e) stands.sits }

  -- the bytes of the elements and of the room fit 64 bits
  pub bytes_fit : (spot.line.len * spot.line.kind.width < 2 ^ 64) × (spot.line.capacity * spot.line.kind.width < 2 ^ 64)
  bytes_fit = go (block_of spot.line.backing) refl stands.sits
    where
      go : (o : Option Block) → block_of spot.line.backing ≡ o → Sits st.meaning.base spot.line o → (spot.line.len * spot.line.kind.width < 2 ^ 64) × (spot.line.capacity * spot.line.kind.width < 2 ^ 64)
      go None q s =
          let x : spot.line.len * spot.line.kind.width ≡ 0 = ap (λ n. n * spot.line.kind.width) s.0 ∙ zero-mul spot.line.kind.width in
          let y : spot.line.capacity * spot.line.kind.width ≡ 0 = ap (λ n. n * spot.line.kind.width) s.1 ∙ zero-mul spot.line.kind.width in
          (omega arith, omega arith)
      go (Some b) q s =
          let w = a.ready.lawful.within b (a.ready.sure.held h.serial spot.line b a.found q) in
          let lim = a.ready.limits in
          (omega (arith, s.0, s.1, w, lim.3), omega (arith, s.0, s.2, w, lim.3))

  module _ (c : Call) (k : Line → List Check) (e : brings c ≡ bringing (h ∷ []) false) (o : own st c ≡ k (line st h)) where
    pub passing : refusal (checks st (length st.bytes) c) ≡ refusal (k spot.line)
    passing = used st h c e a.passed ∙ ap refusal o ∙ ap (λ (z : Line). refusal (k z)) (sym (is_line st h spot a))

    pub edit_refused : (f : Fault) → refusal (k spot.line) ≡ Some f → refusal (checks st (length st.bytes) c) ≡ Some f
    edit_refused f q = passing ∙ q

  -- an element of a line with elements
  pub element_fits : (i base extent : ℕ) → i < spot.line.len → base ≡ st.meaning.base → extent ≡ length st.bytes
      → (base ≤ spot.line.start) × (spot.line.start + i * spot.line.kind.width < 2 ^ 64) × ((spot.line.start - base + i * spot.line.kind.width) + spot.line.kind.width ≤ extent)
  element_fits i base extent lt eb ee = go (block_of spot.line.backing) refl stands.sits
    where
      go : (o : Option Block) → block_of spot.line.backing ≡ o → Sits st.meaning.base spot.line o
          → (base ≤ spot.line.start) × (spot.line.start + i * spot.line.kind.width < 2 ^ 64) × ((spot.line.start - base + i * spot.line.kind.width) + spot.line.kind.width ≤ extent)
      go None q s = absurd (omega (arith, s.0))
      go (Some b) q s =
          let w = a.ready.lawful.within b (a.ready.sure.held h.serial spot.line b a.found q) in
          let lim = a.ready.limits in
          let x : (i + 1) * spot.line.kind.width ≤ spot.line.len * spot.line.kind.width = mul-le-mul_right spot.line.kind.width (let z : i + 1 ≤ spot.line.len = omega arith in z) in
          let y : (i + 1) * spot.line.kind.width ≡ i * spot.line.kind.width + spot.line.kind.width = native.Mathlib.Nat.add-mul i 1 spot.line.kind.width ∙ omega arith in
          (omega (arith, s.0), omega (arith, s.0, s.1, w, lim.1, lim.3), omega (arith, s.0, s.1, w, a.ready.long))

  pub line_width : (w : ℕ) → h.kind.width ≡ w → spot.line.kind.width ≡ w
  line_width w e = ap (λ (z : Line). z.kind.width) (is_line st h spot a) ∙ ap (λ (z : Rattle.model.specs.declared.line.Kind.Kind). z.width) (held st h (known_by st h a.passed)).kind ∙ e

  pub set_done : (em : h.mutable ≡ true) (i base place : ℕ) (v xs : List ℕ) → refusal (index_check spot.line i) ≡ None → base ≡ st.meaning.base → place ≡ spot.line.start - base + i * spot.line.kind.width → xs ≡ overwrite place v st.bytes
      → Grants st (Set h i v) 0 (over st st.lines st.meaning xs)
  unfolding with_bytes
  set_done em i base place v xs q eb ep ex =
      let at : place ≡ (line st h).start - st.meaning.base + i * (line st h).kind.width = ep ∙ ap (λ b. spot.line.start - b + i * spot.line.kind.width) eb ∙ ap (λ (z : Line). z.start - st.meaning.base + i * z.kind.width) (is_line st h spot a) in
      (done, refl, (passing (Set h i v) (λ l. index_check l i) (ap (uses h) em) refl ∙ q, (refl, ap (with_bytes st) (ex ∙ ap (λ z. overwrite z v st.bytes) at))))
