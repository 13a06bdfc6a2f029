-- What a granted call leaves is settled by the blocks that it got.
use Rattle.std.proofs.Common.{◌≡◌, ℕ, ◌+◌, ◌*◌, ◌/◌, max, Bool, true, false, not, ltb, ◌↔◌, List, [], ◌∷◌, ◌++◌, length, Some, None, Option, sym, refl, ap, ◌∙◌, subst, ⊎_elim, arith}
use Rattle.std.proofs.lemmas.Bool.{cases_Bool}
use Rattle.allocation.specs.declared.block.Block.{Block}
use Rattle.allocation.specs.declared.block.Request.{Request}
use Rattle.allocation.specs.Alignments.{round_up}
use Rattle.allocation.specs.Meaning.{Among, Fixed, Meaning}
use Rattle.model.specs.declared.line.Handle.{Handle}
use Rattle.model.specs.declared.line.Kind.{Kind}
use Rattle.model.specs.declared.line.Line.{Line}
use Rattle.model.specs.Answers.{Answers}
use Rattle.model.specs.Book.{State, block_of, line, look_up, or_blank, serial_of, shared_by, shown}
use Rattle.model.specs.Calls.{Aligned, AlignedMut, Answer, Append, Call, Clear, CopyFrom, EmptyShared, EnsureAligned, Freeze, FromBytes, Grant, IntoBytes, IntoMut, Read, Release, Reserve, Set, Share, Slice, Take, Truncate, TryIntoMut, WithCapacity, Zeroed, giving, granted, refused}
use Rattle.model.specs.Checks.{enough, is_aligned, request_for, takes_new, wanted_bytes}
use Rattle.model.specs.Effects.{Copies, Does, GivesBack, Made, Obtains, Reserves, StaysOr, add_line, appended, block_left, copied_into, end_line, list_of, made, made_as, put_line, relocated, with_bytes, with_len, with_meaning}
use Rattle.model.specs.Keyed.{find, update}
use Rattle.model.specs.Outcomes.{Alike, SettledLaw, blocks_of}
use Rattle.model.specs.Pedigree.{Table, feed}
use Rattle.model.specs.Runs.{Sound}
use Rattle.model.proofs.Getting.{unchanged}
use Rattle.model.proofs.Invariant.{Fits, Inv}
use Rattle.model.proofs.Lines.{LinesKeep}
use Rattle.model.proofs.Reserving.{same_fixed}
use Rattle.model.proofs.Runs.{answered, holds_in, reached_holds}
use Rattle.model.proofs.Shapes.{never, pin}

-- a granted call changes none of the allocator's fixed parts
gives_fixed : (m m' : Meaning) (o : Option Block) → GivesBack m o m' → Fixed m m'
gives_fixed m m' None g = subst (Fixed m) (sym g) (unchanged m)
gives_fixed m m' (Some b) g = g.fixed

obtains_fixed : (b : Bool) (m m' : Meaning) (r : Request) (got : Option Block) → Obtains b m r got m' → Fixed m m'
obtains_fixed true m m' r got (b, e, a) = a.fixed
obtains_fixed false m m' r got (e, f) = subst (Fixed m) (sym f) (unchanged m)

module _ (st : State) where
  put_fixed : (l : Line) → Fixed st.meaning (put_line st l).meaning
  unfolding put_line
  put_fixed l = unchanged st.meaning

  add_fixed : (st₁ : State) (l : Line) → Fixed st.meaning st₁.meaning → Fixed st.meaning (add_line st₁ l).meaning
  unfolding add_line
  add_fixed st₁ l f = f

  is_fixed : {st₁ st₂ : State} → st₂ ≡ st₁ → Fixed st.meaning st₁.meaning → Fixed st.meaning st₂.meaning
  is_fixed e f = subst (λ z. Fixed st.meaning z.meaning) (sym e) f

  made_fixed : (k : Kind) (mutable : Bool) (c claim m n : ℕ) (writes : Option Block → List ℕ) (g : Grant) (st' : State) → Made st k mutable c claim m n writes g st' → Fixed st.meaning st'.meaning
  unfolding add_line with_bytes with_meaning
  made_fixed k mutable c claim m n writes g st' d = is_fixed d.is (obtains_fixed (ltb 0 c) st.meaning d.meaning (request_for (c * k.width + m)) d.got d.gets)

  copies_fixed : (l : Line) (c claim : ℕ) (mutable : Bool) (capacity : Option Block → ℕ) (g : Grant) (st' : State) → Copies st l c claim mutable capacity g st' → Fixed st.meaning st'.meaning
  unfolding put_line with_bytes with_meaning
  copies_fixed l c claim mutable capacity g st' d =
      is_fixed d.is (same_fixed st.meaning d.between d.meaning (obtains_fixed (ltb 0 c) st.meaning d.between (request_for (c * l.kind.width + max claim 256)) d.got d.gets) (gives_fixed d.between d.meaning (block_left (shared_by st l) l) d.gives))

  stays_fixed : (b : Bool) (l : Line) (g : Grant) (st' : State) (Else : Type 0) → (Else → Fixed st.meaning st'.meaning) → StaysOr b st l g st' Else → Fixed st.meaning st'.meaning
  stays_fixed true l g st' Else f (p, q) = is_fixed q (put_fixed l)
  stays_fixed false l g st' Else f d = f d

  reserves_fixed : (b : Bool) (l : Line) (more : ℕ) (bs : List Block) (st' : State) → Reserves b st l more bs st' → Fixed st.meaning st'.meaning
  unfolding put_line with_bytes with_meaning
  reserves_fixed true l more bs st' (p, q) = is_fixed q (unchanged st.meaning)
  reserves_fixed false l more bs st' d = is_fixed d.is (⊎_elim
      (λ (e : takes_new st.meaning l more ≡ true). let n = d.by_new e in same_fixed st.meaning n.between d.meaning n.gets.fixed (gives_fixed n.between d.meaning (block_of l.backing) n.gives))
      (λ (e : takes_new st.meaning l more ≡ false). (d.by_growth e).grows.fixed) (cases_Bool (takes_new st.meaning l more)))

  appended_fixed : (st₁ : State) (l : Line) (vs : List (List ℕ)) → Fixed st.meaning st₁.meaning → Fixed st.meaning (appended st₁ l vs).meaning
  unfolding appended put_line with_bytes
  appended_fixed st₁ l vs f = f

  bytes_fixed : (xs : List ℕ) → Fixed st.meaning (with_bytes st xs).meaning
  unfolding with_bytes
  bytes_fixed xs = unchanged st.meaning

  end_fixed : (m : Meaning) (s : ℕ) → Fixed st.meaning m → Fixed st.meaning (end_line (with_meaning st m) s).meaning
  unfolding end_line with_meaning
  end_fixed m s f = f

  pub does_fixed : (c : Call) (g : Grant) (st' : State) → Does st c g st' → Fixed st.meaning st'.meaning
  does_fixed (WithCapacity k c a p) g st' d = made_fixed k true c a (max a p) 0 _ g st' d
  does_fixed (Zeroed k mutable n a p) g st' d = made_fixed k mutable n a (max a p) n _ g st' d
  does_fixed (CopyFrom k mutable vs a p) g st' d = made_fixed k mutable (length vs) a (max a p) (length vs) _ g st' d
  does_fixed (EmptyShared k a) g st' (p, q) = is_fixed q (add_fixed st _ (unchanged st.meaning))
  does_fixed (Reserve h n) g st' (bs, res, p) = reserves_fixed (enough (line st h) n) (line st h) n bs st' res
  does_fixed (Append h vs) g st' (between, bs, res, p, q) = is_fixed q (appended_fixed between _ vs (reserves_fixed (enough (line st h) (length vs)) (line st h) (length vs) bs between res))
  does_fixed (Truncate h n) g st' (p, q) = is_fixed q (put_fixed _)
  does_fixed (Clear h) g st' (p, q) = is_fixed q (put_fixed _)
  does_fixed (Set h i v) g st' (p, q) = is_fixed q (bytes_fixed _)
  does_fixed (Take h) g st' (p, q) = is_fixed q (add_fixed (put_line st _) _ (put_fixed _))
  does_fixed (AlignedMut h a) g st' d = stays_fixed (is_aligned (line st h) a) _ g st' _ (copies_fixed (line st h) (line st h).capacity a true _ g st') d
  does_fixed (Freeze h) g st' (p, q) = is_fixed q (put_fixed _)
  does_fixed (IntoBytes h) g st' (p, q) = is_fixed q (put_fixed _)
  does_fixed (FromBytes h k a) g st' (p, q) = is_fixed q (put_fixed _)
  does_fixed (Share h) g st' (p, q) = is_fixed q (add_fixed (put_line st _) _ (put_fixed _))
  does_fixed (Slice h first last a) g st' (p, q) = is_fixed q (add_fixed st _ (unchanged st.meaning))
  does_fixed (TryIntoMut h) g st' (p, q) = is_fixed q (put_fixed _)
  does_fixed (IntoMut h) g st' d = stays_fixed (not (shared_by st (line st h))) _ g st' _ (copies_fixed (line st h) (line st h).len (line st h).claim true _ g st') d
  does_fixed (Aligned h a) g st' d = stays_fixed (is_aligned (line st h) a) _ g st' _ (copies_fixed (line st h) (line st h).len a false _ g st') d
  does_fixed (EnsureAligned h a) g st' (p, q) = is_fixed q (put_fixed _)
  does_fixed (Read h) g st' (p, q) = is_fixed q (unchanged st.meaning)
  does_fixed (Release h) g st' (m, w, p, q) = is_fixed q (end_fixed m h.serial (gives_fixed st.meaning m (block_left (shared_by st (line st h)) (line st h)) w))

-- the same number, serials and lines
pub record SameBook (st st' : State) : Type 0 where
  pub number : st'.number ≡ st.number
  pub next : st'.next ≡ st.next
  pub lines : st'.lines ≡ st.lines

same_state : {st st' : State} → st' ≡ st → SameBook st st'
same_state e = record { number = ap (λ z. z.number) e; next = ap (λ z. z.next) e; lines = ap (λ z. z.lines) e }

-- what two grants with the same blocks come to
abbrev SameAnswer : Grant → Grant → State → State → Type 0
SameAnswer g g' st st' = (g' ≡ g) × SameBook st st'

plainly : {g g' x : Grant} {st st' y : State} → (g ≡ x) × (st ≡ y) → (g' ≡ x) × (st' ≡ y) → SameAnswer g g' st st'
plainly (p, q) (p', q') = (p' ∙ sym p, same_state (q' ∙ sym q))

list_of_one : (x y : Option Block) → list_of y ≡ list_of x → y ≡ x
list_of_one None None e = refl
list_of_one None (Some c) e = let z : ◌≡◌ {A = ℕ} 0 1 = cc in absurd (omega arith)
list_of_one (Some b) None e = let z : ◌≡◌ {A = ℕ} 0 1 = cc in absurd (omega arith)
list_of_one (Some b) (Some c) e = let z : c ≡ b = cc in ap {B = Option Block} Some z

module _ (st : State) where
  made_agree : (k : Kind) (mutable : Bool) (c claim m n : ℕ) (writes : Option Block → List ℕ) (g g' : Grant) (st₁ st₂ : State) → g'.blocks ≡ g.blocks
      → Made st k mutable c claim m n writes g st₁ → Made st k mutable c claim m n writes g' st₂ → SameAnswer g g' st₁ st₂
  unfolding add_line with_bytes with_meaning
  made_agree k mutable c claim m n writes g g' st₁ st₂ e d d' =
      let q : d'.got ≡ d.got = list_of_one d.got d'.got (sym (ap (λ z. z.blocks) d'.grant) ∙ e ∙ ap (λ z. z.blocks) d.grant) in
      let s : (got : Option Block) → List Line = λ got. st.lines ++ (made_as mutable (made st k claim m n got) ∷ []) in (
        d'.grant ∙ ap (λ z. giving st.next (list_of z)) q ∙ sym d.grant,
        record {
          number = ap (λ z. z.number) d'.is ∙ sym (ap (λ z. z.number) d.is);
          next = ap (λ z. z.next) d'.is ∙ sym (ap (λ z. z.next) d.is);
          lines = ap (λ z. z.lines) d'.is ∙ ap s q ∙ sym (ap (λ z. z.lines) d.is);
        },
      )

  copies_agree : (l : Line) (c claim : ℕ) (mutable : Bool) (capacity : Option Block → ℕ) (g g' : Grant) (st₁ st₂ : State) → g'.blocks ≡ g.blocks
      → Copies st l c claim mutable capacity g st₁ → Copies st l c claim mutable capacity g' st₂ → SameAnswer g g' st₁ st₂
  unfolding put_line with_bytes with_meaning copied_into
  copies_agree l c claim mutable capacity g g' st₁ st₂ e d d' =
      let q : d'.got ≡ d.got = list_of_one d.got d'.got (sym (ap (λ z. z.blocks) d'.grant) ∙ e ∙ ap (λ z. z.blocks) d.grant) in
      let s : (got : Option Block) → List Line = λ got. update serial_of l.serial (λ _. copied_into st.meaning.base l mutable claim (max claim 256) (capacity got) got) st.lines in (
        d'.grant ∙ ap (λ z. record { serial = 0; blocks = list_of z; copied = true }) q ∙ sym d.grant,
        record {
          number = ap (λ z. z.number) d'.is ∙ sym (ap (λ z. z.number) d.is);
          next = ap (λ z. z.next) d'.is ∙ sym (ap (λ z. z.next) d.is);
          lines = ap (λ z. z.lines) d'.is ∙ ap s q ∙ sym (ap (λ z. z.lines) d.is);
        },
      )

  stays_agree : (b : Bool) (l : Line) (g g' : Grant) (st₁ st₂ : State) (X Y : Type 0) → (X → Y → SameAnswer g g' st₁ st₂) → StaysOr b st l g st₁ X → StaysOr b st l g' st₂ Y → SameAnswer g g' st₁ st₂
  stays_agree true l g g' st₁ st₂ X Y f d d' = plainly d d'
  stays_agree false l g g' st₁ st₂ X Y f d d' = f d d'

  reserves_agree : (b : Bool) (l : Line) (more : ℕ) (bs bs' : List Block) (st₁ st₂ : State) → bs' ≡ bs → Reserves b st l more bs st₁ → Reserves b st l more bs' st₂ → SameBook st₁ st₂
  unfolding put_line with_bytes with_meaning
  reserves_agree true l more bs bs' st₁ st₂ e (p, q) (p', q') = same_state (q' ∙ sym q)
  reserves_agree false l more bs bs' st₁ st₂ e d d' =
      let q : d'.block ≡ d.block = let z : d'.block ∷ [] ≡ d.block ∷ [] = sym d'.got ∙ e ∙ d.got in cc in
      let s : Block → List Line = λ b. update serial_of l.serial (λ _. relocated l b (round_up (st.meaning.base + b.place) l.claim) (wanted_bytes l more / l.kind.width)) st.lines in
      record {
        number = ap (λ z. z.number) d'.is ∙ sym (ap (λ z. z.number) d.is);
        next = ap (λ z. z.next) d'.is ∙ sym (ap (λ z. z.next) d.is);
        lines = ap (λ z. z.lines) d'.is ∙ ap s q ∙ sym (ap (λ z. z.lines) d.is);
      }

  reserve_agree : (g g' : Grant) (bs bs' : List Block) → g'.blocks ≡ g.blocks → g ≡ giving 0 bs → g' ≡ giving 0 bs' → (bs' ≡ bs) × (g' ≡ g)
  reserve_agree g g' bs bs' e p p' =
      let q : bs' ≡ bs = sym (ap (λ z. z.blocks) p') ∙ e ∙ ap (λ z. z.blocks) p in
      (q, p' ∙ ap (giving 0) q ∙ sym p)

  appended_agree : (h : Handle) (vs : List (List ℕ)) (st₁ st₂ : State) → SameBook st₁ st₂ → SameBook (appended st₁ (line st₁ h) vs) (appended st₂ (line st₂ h) vs)
  unfolding appended put_line with_bytes line
  appended_agree h vs st₁ st₂ b =
      let f : List Line → List Line = λ ls. let l = or_blank (find serial_of h.serial ls) in update serial_of l.serial (λ _. with_len l (l.len + length vs)) ls in
      record { number = b.number; next = b.next; lines = ap f b.lines }

  end_agree : (m m' : Meaning) (s : ℕ) → SameBook (end_line (with_meaning st m) s) (end_line (with_meaning st m') s)
  unfolding end_line with_meaning
  end_agree m m' s = record { number = refl; next = refl; lines = refl }

  along : {st₁ st₂ x y : State} → st₁ ≡ x → st₂ ≡ y → SameBook x y → SameBook st₁ st₂
  along p q b = record {
    number = ap (λ z. z.number) q ∙ b.number ∙ sym (ap (λ z. z.number) p);
    next = ap (λ z. z.next) q ∙ b.next ∙ sym (ap (λ z. z.next) p);
    lines = ap (λ z. z.lines) q ∙ b.lines ∙ sym (ap (λ z. z.lines) p);
  }

  pub agree : (c : Call) (g g' : Grant) (st₁ st₂ : State) → g'.blocks ≡ g.blocks → Does st c g st₁ → Does st c g' st₂ → SameAnswer g g' st₁ st₂
  agree (WithCapacity k c a p) g g' st₁ st₂ e d d' = made_agree k true c a (max a p) 0 _ g g' st₁ st₂ e d d'
  agree (Zeroed k mutable n a p) g g' st₁ st₂ e d d' = made_agree k mutable n a (max a p) n _ g g' st₁ st₂ e d d'
  agree (CopyFrom k mutable vs a p) g g' st₁ st₂ e d d' = made_agree k mutable (length vs) a (max a p) (length vs) _ g g' st₁ st₂ e d d'
  agree (EmptyShared k a) g g' st₁ st₂ e d d' = plainly d d'
  agree (Reserve h n) g g' st₁ st₂ e (bs, res, p) (bs', res', p') =
      let r = reserve_agree g g' bs bs' e p p' in (r.1, reserves_agree (enough (line st h) n) (line st h) n bs bs' st₁ st₂ r.0 res res')
  agree (Append h vs) g g' st₁ st₂ e (between, bs, res, p, q) (between', bs', res', p', q') =
      let r = reserve_agree g g' bs bs' e p p' in
      (r.1, along q q' (appended_agree h vs between between' (reserves_agree (enough (line st h) (length vs)) (line st h) (length vs) bs bs' between between' r.0 res res')))
  agree (Truncate h n) g g' st₁ st₂ e d d' = plainly d d'
  agree (Clear h) g g' st₁ st₂ e d d' = plainly d d'
  agree (Set h i v) g g' st₁ st₂ e d d' = plainly d d'
  agree (Take h) g g' st₁ st₂ e d d' = plainly d d'
  agree (AlignedMut h a) g g' st₁ st₂ e d d' = stays_agree (is_aligned (line st h) a) _ g g' st₁ st₂ _ _ (copies_agree (line st h) (line st h).capacity a true _ g g' st₁ st₂ e) d d'
  agree (Freeze h) g g' st₁ st₂ e d d' = plainly d d'
  agree (IntoBytes h) g g' st₁ st₂ e d d' = plainly d d'
  agree (FromBytes h k a) g g' st₁ st₂ e d d' = plainly d d'
  agree (Share h) g g' st₁ st₂ e d d' = plainly d d'
  agree (Slice h first last a) g g' st₁ st₂ e d d' = plainly d d'
  agree (TryIntoMut h) g g' st₁ st₂ e d d' = plainly d d'
  agree (IntoMut h) g g' st₁ st₂ e d d' = stays_agree (not (shared_by st (line st h))) _ g g' st₁ st₂ _ _ (copies_agree (line st h) (line st h).len (line st h).claim true _ g g' st₁ st₂ e) d d'
  agree (Aligned h a) g g' st₁ st₂ e d d' = stays_agree (is_aligned (line st h) a) _ g g' st₁ st₂ _ _ (copies_agree (line st h) (line st h).len a false _ g g' st₁ st₂ e) d d'
  agree (EnsureAligned h a) g g' st₁ st₂ e d d' = plainly d d'
  agree (Read h) g g' st₁ st₂ e d d' = plainly d d'
  agree (Release h) g g' st₁ st₂ e (m, w, p, q) (m', w', p', q') = (p' ∙ sym p, along q q' (end_agree m m' h.serial))

-- two states with one table have the same blocks and show the same elements
module _ (st st' : State) (tb : Table) (inv : Inv st tb) (inv' : Inv st' tb) (book : SameBook st st') where
  same_at : (s : ℕ) → look_up s st' ≡ look_up s st
  same_at s = ap (find serial_of s) book.lines

  live_both : (b : Block) → Among b st'.meaning.live ↔ Among b st.meaning.live
  live_both b = (
    λ a. let u = inv'.used b a in inv.held u.0 u.1 b (sym (same_at u.0) ∙ u.2) u.3,
    λ a. let u = inv.used b a in inv'.held u.0 u.1 b (same_at u.0 ∙ u.2) u.3,
  )

  elements_both : (s : ℕ) (l : Line) → look_up s st ≡ Some l → shown st'.meaning.base l st'.bytes ≡ shown st.meaning.base l st.bytes
  elements_both s l e =
      let t = inv.spelled s l e in
      let t' = inv'.spelled s l (same_at s ∙ e) in
      let f = pin t'.1 (λ r. Fits st'.meaning.base st'.bytes l r) t'.2 t.0 t.1 in
      sym f.spells ∙ t.2.spells

  pub alike : Fixed st.meaning st'.meaning → Alike st st'
  alike fixed = record {
    number = book.number;
    next = book.next;
    lines = book.lines;
    fixed = fixed;
    live = live_both;
    elements = λ s l e. subst (λ z. shown z l st'.bytes ≡ shown st.meaning.base l st.bytes) fixed.base (elements_both s l e);
  }

from_both : {a b c : Meaning} → Fixed a b → Fixed a c → Fixed b c
from_both p q = record { base = q.base ∙ sym p.base; extent = q.extent ∙ sym p.extent; room = q.room ∙ sym p.room; copies = q.copies ∙ sym p.copies }

pub settled : (st : State) (tb : Table) → Inv st tb → LinesKeep st → (n : ℕ) (c : Call) → Sound c → (x y : Answer) (st₁ st₂ : State) → Answers st n c x st₁ → Answers st n c y st₂ → blocks_of y ≡ blocks_of x → (y ≡ x) × Alike st₁ st₂
settled st tb inv each n c sound (refused f) (refused f') st₁ st₂ (p, q) (p', q') e =
    let z : f' ≡ f = cc in
    let i : Inv st₁ tb = subst (λ z. Inv z tb) (sym q) inv in
    let j : Inv st₂ tb = subst (λ z. Inv z tb) (sym q') inv in
    (ap refused z, alike st₁ st₂ tb i j (same_state (q' ∙ sym q)) (subst (λ z. Fixed st₁.meaning z.meaning) (q ∙ sym q') (unchanged st₁.meaning)))
settled st tb inv each n c sound (refused f) (granted g') st₁ st₂ (p, q) (p', d') e = absurd (never p' p)
settled st tb inv each n c sound (granted g) (refused f') st₁ st₂ (p, d) (p', q') e = absurd (never p p')
settled st tb inv each n c sound (granted g) (granted g') st₁ st₂ (p, d) (p', d') e =
    let a = agree st c g g' st₁ st₂ e d d' in
    let i = answered st tb inv each n c (granted g) st₁ sound (p, d) in
    let j = subst (λ z. Inv st₂ (feed tb c (granted z))) a.0 (answered st tb inv each n c (granted g') st₂ sound (p', d')) in
    (ap granted a.0, alike st₁ st₂ (feed tb c (granted g)) i j a.1 (from_both (does_fixed st c g st₁ d) (does_fixed st c g' st₂ d')))

pub settled_law : SettledLaw
settled_law w r s i n c sound x y st st' p q e = let f = holds_in w (reached_holds w r) s i in settled s.state s.table f.0 f.1 n c sound x y st st' p q e
