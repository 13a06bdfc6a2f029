-- From what appending did to what the definitions say of it.
use Rattle.std.proofs.Common.{◌≡◌, ℕ, ◌+◌, ◌-◌, ◌*◌, ◌^◌, ◌<◌, ◌≤◌, List, [], ◌∷◌, length, set, Some, None, Option, sym, refl, ap, ◌∙◌, subst, mul-le-mul_right, mul_comm, add-mul, arith}
use Rattle.std.specs.List.{flat_map as JoinedBy}
use Rattle.region.specs.Bytes.{overwrite}
use Rattle.allocation.specs.declared.block.Block.{Block}
use Rattle.allocation.specs.declared.fault.Fault.{Fault}
use Rattle.model.specs.Answers.{Answers}
use Rattle.model.specs.Book.{State, block_of, line, look_up}
use Rattle.model.specs.Calls.{Append, Reserve, granted}
use Rattle.model.specs.Effects.{appended, put_line, with_bytes, with_meaning, with_len}
use Rattle.model.specs.Invariant.{Sits, Stands}
use Rattle.model.specs.Patterns.{joined}
use Rattle.model.specs.declared.line.Handle.{Handle}
use Rattle.model.specs.declared.line.Line.{Line}
use Rattle.model.proofs.Checks.{line_is}
use Rattle.model.proofs.Keyed.{find_key}
use Rattle.ledger.specs.Moving.{Behind, Roomy}
use Rattle.ledger.specs.Results.{Grants, Refuses}
use Rattle.ledger.specs.declared.spot.Spot.{Spot}
use Rattle.ledger.proofs.Edits.{put_here, over}

pub joined_none : (ps : List (List ℕ)) → length ps ≡ 0 → JoinedBy (λ p. p) ps ≡ []
joined_none [] e = refl
joined_none (p ∷ ps) e = absurd (omega (arith, e))

some_block : (base : ℕ) (l : Line) (o : Option Block) → Sits base l o → 1 ≤ l.capacity → (b : Block) × (o ≡ Some b) × (base + b.place ≤ l.start) × (l.start + l.capacity * l.kind.width ≤ base + (b.place + b.size))
some_block base l None s h = absurd (omega (arith, s.1))
some_block base l (Some b) s h = (b, refl, s.0, s.2)

module _ (st : State) (h : Handle) (n : ℕ) (spot : Spot) (mid : State) (a : Roomy st h n spot mid) where
  abbrev l : Line
  l = spot.line

  stands : Stands mid.meaning.base l
  stands = a.still.sure.stands h.serial l a.found

  pub behind : (base extent : ℕ) → base ≡ mid.meaning.base → extent ≡ length mid.bytes → Behind base l n extent
  behind base extent eb ee some =
      let b = some_block mid.meaning.base l (block_of l.backing) stands.sits (omega (arith, a.room)) in
      let w = a.still.lawful.within b.0 (a.still.sure.held h.serial l b.0 a.found b.1) in
      let m = mul-le-mul_right l.kind.width a.room in
      let s = add-mul l.len n l.kind.width in
      let lim = a.still.limits in
      (omega (arith, b.2), omega (arith, b.2, b.3, w, m, s, a.still.long), omega (arith, b.2, b.3, w, m, s, lim.1, lim.3))

  pub count_fits : l.len + n < 2 ^ 64
  count_fits = go (block_of l.backing) refl stands.sits
    where
      go : (o : Option Block) → block_of l.backing ≡ o → Sits mid.meaning.base l o → l.len + n < 2 ^ 64
      go None q s = omega (arith, a.room, s.1)
      go (Some b) q s =
          let w = a.still.lawful.within b (a.still.sure.held h.serial l b a.found q) in
          let c : l.capacity ≤ l.capacity * l.kind.width = omega (arith, mul-le-mul_right l.capacity stands.wide, mul_comm l.capacity l.kind.width) in
          omega (arith, a.room, s.0, s.2, w, a.still.limits.3, c)

  pub same_width : (w : ℕ) → h.kind.width ≡ w → l.kind.width ≡ w
  same_width w e = ap (λ (k : Rattle.model.specs.declared.line.Kind.Kind). k.width) a.kind ∙ e

  pub appends : (vs : List (List ℕ)) (base : ℕ) (xs : List ℕ) (new : Line) (ls : List Line) → length vs ≡ n → base ≡ mid.meaning.base → xs ≡ overwrite (l.start - base + l.len * l.kind.width) (joined vs) mid.bytes → new ≡ with_len l (l.len + n) → ls ≡ set mid.lines spot.place new
      → Grants st (Append h vs) 0 (over mid ls mid.meaning xs)
  unfolding appended with_bytes with_meaning
  appends vs base xs new ls en eb ex el eq =
      let g : Answers st (length st.bytes) (Reserve h (length vs)) (granted a.grants.0) mid = subst (λ z. Answers st (length st.bytes) (Reserve h z) (granted a.grants.0) mid) (sym en) a.grants.2 in
      let i : new ≡ with_len l (l.len + length vs) = el ∙ ap (λ z. with_len l (l.len + z)) (sym en) in
      let x : xs ≡ overwrite (l.start - mid.meaning.base + l.len * l.kind.width) (joined vs) mid.bytes = ex ∙ ap (λ b. overwrite (l.start - b + l.len * l.kind.width) (joined vs) mid.bytes) eb in
      let s : new.serial ≡ h.serial = ap (λ (z : Line). z.serial) el ∙ find_key Rattle.model.specs.Book.serial_of h.serial mid.lines l a.found in
      let is : over mid ls mid.meaning xs ≡ appended mid l vs = put_here mid h.serial spot.place a.still.sure.order a.here new ls mid.meaning xs s eq
      ∙ ap (λ z. put_line (with_bytes mid z) new) x ∙ ap (put_line (with_bytes mid (overwrite (l.start - mid.meaning.base + l.len * l.kind.width) (joined vs) mid.bytes))) i in
      (a.grants.0, a.grants.1, (g.0, (mid, g.1.0, g.1.1, g.1.2, is ∙ ap (λ z. appended mid z vs) (line_is mid h l a.found))))

pub append_refused : (st : State) (h : Handle) (n : ℕ) (vs : List (List ℕ)) (f : Fault) (mid : State) → length vs ≡ n → Refuses st (Reserve h n) f mid → Refuses st (Append h vs) f mid
append_refused st h n vs f mid e a = subst (λ z. Refuses st (Reserve h z) f mid) (sym e) a
