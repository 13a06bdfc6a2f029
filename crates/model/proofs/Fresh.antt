-- Blocks that a call gets anew lie apart from those that were live before it.
use Rattle.std.proofs.Common.{◌≡◌, ℕ, ◌+◌, ◌*◌, max, Bool, true, false, not, ◌||◌, ltb, List, [], length, Some, None, Option, sym, refl, ap, subst, inl, inr, ⊎_elim}
use Rattle.allocation.specs.declared.block.Block.{Block}
use Rattle.allocation.specs.Meaning.{Among, Apart, Lawful, Meaning}
use Rattle.model.specs.declared.line.Kind.{Kind}
use Rattle.model.specs.declared.line.Line.{Line}
use Rattle.model.specs.Book.{State, block_of, line, shared_by}
use Rattle.model.specs.Calls.{Aligned, AlignedMut, Append, Call, Clear, CopyFrom, EmptyShared, EnsureAligned, Freeze, FromBytes, Grant, IntoBytes, IntoMut, Read, Release, Reserve, Set, Share, Slice, Take, Truncate, TryIntoMut, WithCapacity, Zeroed, giving}
use Rattle.model.specs.Checks.{enough, is_aligned, request_for, smaller, wanted_request}
use Rattle.model.specs.Effects.{Copies, Does, Made, Obtains, Reserves, StaysOr, list_of}
use Rattle.model.proofs.Getting.{obtained}

in_none : (b : Block) → Among b [] → ⊥
unfolding Among
in_none b x = x

in_list_of : (got : Option Block) (b : Block) → Among b (list_of got) → got ≡ Some b
unfolding Among
in_list_of None b x = absurd x
in_list_of (Some c) b x = ⊎_elim (λ q. ap {B = Option Block} Some q) (λ y. absurd y) x

module _ (st : State) (law : Lawful st.meaning) (mark : st.meaning.copies ≡ true) where
  abbrev pub ClearOf : Grant → Type 0
  ClearOf g = (b d : Block) → Among b g.blocks → Among d st.meaning.live → Apart b d

  none_got : (g : Grant) (s : ℕ) → g ≡ giving s [] → ClearOf g
  none_got g s e b d x y = absurd (in_none b (subst (λ z. Among b z.blocks) e x))

  got_clear : (c size : ℕ) (got : Option Block) (m : Meaning) → Obtains (ltb 0 c) st.meaning (request_for size) got m → (b d : Block) → got ≡ Some b → Among d st.meaning.live → Apart b d
  got_clear c size got m gets b d e y =
      let o = obtained st.meaning m c size got law gets in
      o.lawful.apart b d ((o.blocks b).1 (inl e)) ((o.blocks d).1 (inr y)) (λ q. o.new b e (subst (λ z. Among z st.meaning.live) (sym q) y))

  made_clear : (k : Kind) (mutable : Bool) (c claim m n : ℕ) (writes : Option Block → List ℕ) (g : Grant) (st' : State) → Made st k mutable c claim m n writes g st' → ClearOf g
  made_clear k mutable c claim m n writes g st' d b c' x y = got_clear c (c * k.width + m) d.got d.meaning d.gets b c' (in_list_of d.got b (subst (λ z. Among b z.blocks) d.grant x)) y

  copies_clear : (l : Line) (c claim : ℕ) (mutable : Bool) (capacity : Option Block → ℕ) (g : Grant) (st' : State) → Copies st l c claim mutable capacity g st' → ClearOf g
  copies_clear l c claim mutable capacity g st' d b c' x y =
      got_clear c (c * l.kind.width + max claim 256) d.got d.between d.gets b c' (in_list_of d.got b (subst (λ z. Among b z.blocks) d.grant x)) y

  stays_clear : (b : Bool) (l : Line) (g : Grant) (st' : State) (Else : Type 0) → (Else → ClearOf g) → StaysOr b st l g st' Else → ClearOf g
  stays_clear true l g st' Else f (p, q) = none_got g 0 p
  stays_clear false l g st' Else f d = f d

  reserves_clear : (e : Bool) (l : Line) (more : ℕ) (bs : List Block) (st' : State) → Reserves e st l more bs st' → (b d : Block) → Among b bs → Among d st.meaning.live → Apart b d
  unfolding Among
  reserves_clear true l more bs st' (p, q) b d x y = absurd (in_none b (subst (Among b) p x))
  reserves_clear false l more bs st' r b d x y =
      let n = r.by_new (ap (λ z. z || smaller (wanted_request l more).size (block_of l.backing)) mark) in
      let a = n.gets in
      ⊎_elim (λ (q : r.block ≡ b). subst (λ z. Apart z d) q (a.lawful.apart r.block d ((a.live r.block).1 (inl refl)) ((a.live d).1 (inr y)) (λ i. a.new (subst (λ z. Among z st.meaning.live) (sym i) y)))) (λ z. absurd z) (subst (Among b) r.got x)

  pub clear_of : (c : Call) (g : Grant) (st' : State) → Does st c g st' → ClearOf g
  clear_of (WithCapacity k c a p) g st' d = made_clear k true c a (max a p) 0 _ g st' d
  clear_of (Zeroed k mutable n a p) g st' d = made_clear k mutable n a (max a p) n _ g st' d
  clear_of (CopyFrom k mutable vs a p) g st' d = made_clear k mutable (length vs) a (max a p) (length vs) _ g st' d
  clear_of (EmptyShared k a) g st' (p, q) = none_got g st.next p
  clear_of (Reserve h n) g st' (bs, res, p) = λ b d x y. reserves_clear (enough (line st h) n) (line st h) n bs st' res b d (subst (λ z. Among b z.blocks) p x) y
  clear_of (Append h vs) g st' (between, bs, res, p, q) = λ b d x y. reserves_clear (enough (line st h) (length vs)) (line st h) (length vs) bs between res b d (subst (λ z. Among b z.blocks) p x) y
  clear_of (Truncate h n) g st' (p, q) = none_got g 0 p
  clear_of (Clear h) g st' (p, q) = none_got g 0 p
  clear_of (Set h i v) g st' (p, q) = none_got g 0 p
  clear_of (Take h) g st' (p, q) = none_got g st.next p
  clear_of (AlignedMut h a) g st' d = stays_clear (is_aligned (line st h) a) _ g st' _ (copies_clear (line st h) (line st h).capacity a true _ g st') d
  clear_of (Freeze h) g st' (p, q) = none_got g 0 p
  clear_of (IntoBytes h) g st' (p, q) = none_got g 0 p
  clear_of (FromBytes h k a) g st' (p, q) = none_got g 0 p
  clear_of (Share h) g st' (p, q) = none_got g st.next p
  clear_of (Slice h first last a) g st' (p, q) = none_got g st.next p
  clear_of (TryIntoMut h) g st' (p, q) = none_got g 0 p
  clear_of (IntoMut h) g st' d = stays_clear (not (shared_by st (line st h))) _ g st' _ (copies_clear (line st h) (line st h).len (line st h).claim true _ g st') d
  clear_of (Aligned h a) g st' d = stays_clear (is_aligned (line st h) a) _ g st' _ (copies_clear (line st h) (line st h).len a false _ g st') d
  clear_of (EnsureAligned h a) g st' (p, q) = none_got g 0 p
  clear_of (Read h) g st' (p, q) = none_got g 0 p
  clear_of (Release h) g st' (m, w, p, q) = none_got g 0 p
