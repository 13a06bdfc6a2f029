-- No call changes what is fixed of an allocator's meaning.
use Rattle.std.proofs.Common.{◌≡◌, ℕ, max, Bool, true, false, ltb, List, length, Some, None, Option, sym, refl, ap, ◌∙◌, subst}
use Rattle.allocation.specs.declared.block.Block.{Block}
use Rattle.allocation.specs.declared.block.Request.{Request}
use Rattle.allocation.specs.Meaning.{Fixed, Meaning}
use Rattle.model.specs.declared.line.Kind.{Kind}
use Rattle.model.specs.declared.line.Line.{Line}
use Rattle.model.specs.Answers.{Answers}
use Rattle.model.specs.Book.{State, line}
use Rattle.model.specs.Calls.{Call, WithCapacity, Zeroed, CopyFrom, EmptyShared, Reserve, Append, Truncate, Clear, Set, Take, AlignedMut, Freeze, IntoBytes, FromBytes, Share, Slice, TryIntoMut, IntoMut, Aligned, EnsureAligned, Read, Release, Grant, Answer, granted, refused}
use Rattle.model.specs.Checks.{enough, is_aligned, takes_new}
use Rattle.model.specs.Effects.{add_line, put_line, end_line, with_meaning, with_bytes, appended, Obtains, GivesBack, Made, Copies, StaysOr, Reserves, Does}
use Rattle.model.proofs.Getting.{unchanged}
use Rattle.model.proofs.Reserving.{same_fixed}

moved : (st st' : State) (m : Meaning) → st'.meaning ≡ m → Fixed st.meaning m → Fixed st.meaning st'.meaning
moved st st' m e f = subst (Fixed st.meaning) (sym e) f

stayed : (st st' : State) → st'.meaning ≡ st.meaning → Fixed st.meaning st'.meaning
stayed st st' e = moved st st' st.meaning e (unchanged st.meaning)

gets : (b : Bool) (m : Meaning) (r : Request) (got : Option Block) (m' : Meaning) → Obtains b m r got m' → Fixed m m'
gets true m r got m' o = o.2.fixed
gets false m r got m' o = subst (Fixed m) (sym o.1) (unchanged m)

gives : (m : Meaning) (b : Option Block) (m' : Meaning) → GivesBack m b m' → Fixed m m'
gives m None m' g = subst (Fixed m) (sym g) (unchanged m)
gives m (Some b) m' g = g.fixed

of_put : (st : State) (l : Line) → (put_line st l).meaning ≡ st.meaning
unfolding put_line
of_put st l = refl

of_add : (st : State) (l : Line) → (add_line st l).meaning ≡ st.meaning
unfolding add_line
of_add st l = refl

of_bytes : (st : State) (xs : List ℕ) → (with_bytes st xs).meaning ≡ st.meaning
unfolding with_bytes
of_bytes st xs = refl

of_meaning : (st : State) (m : Meaning) → (with_meaning st m).meaning ≡ m
unfolding with_meaning
of_meaning st m = refl

of_end : (st : State) (m : Meaning) (s : ℕ) → (end_line (with_meaning st m) s).meaning ≡ m
unfolding end_line with_meaning
of_end st m s = refl

of_appended : (st : State) (l : Line) (vs : List (List ℕ)) → (appended st l vs).meaning ≡ st.meaning
unfolding appended put_line with_bytes
of_appended st l vs = refl

reserves : (st st' : State) (b : Bool) (l : Line) (more : ℕ) (bs : List Block) → Reserves b st l more bs st' → Fixed st.meaning st'.meaning
reserves st st' true l more bs d = stayed st st' (ap (λ s. s.meaning) d.1)
reserves st st' false l more bs d = moved st st' d.meaning (ap (λ s. s.meaning) d.is ∙ of_put _ _ ∙ of_bytes _ _ ∙ of_meaning st d.meaning) (go (takes_new st.meaning l more) refl)
  where
    go : (b : Bool) → takes_new st.meaning l more ≡ b → Fixed st.meaning d.meaning
    go true e = let n = d.by_new e in same_fixed st.meaning n.between d.meaning n.gets.fixed (gives n.between _ d.meaning n.gives)
    go false e = (d.by_growth e).grows.fixed

module _ (st st' : State) where
  makes : (k : Kind) (mutable : Bool) (c claim m n : ℕ) (writes : Option Block → List ℕ) (g : Grant) → Made st k mutable c claim m n writes g st' → Fixed st.meaning st'.meaning
  makes k mutable c claim m n writes g d = moved st st' d.meaning (ap (λ s. s.meaning) d.is ∙ of_add _ _ ∙ of_bytes _ _ ∙ of_meaning st d.meaning) (gets (ltb 0 c) st.meaning _ d.got d.meaning d.gets)

  puts : (s : State) (l : Line) (m : Meaning) → s.meaning ≡ m → st' ≡ put_line s l → Fixed st.meaning m → Fixed st.meaning st'.meaning
  puts s l m e q f = moved st st' m (ap (λ s. s.meaning) q ∙ of_put s l ∙ e) f

  copies : (l : Line) (c claim : ℕ) (mutable : Bool) (capacity : Option Block → ℕ) (g : Grant) → Copies st l c claim mutable capacity g st' → Fixed st.meaning st'.meaning
  copies l c claim mutable capacity g d = puts _ _ d.meaning (of_bytes _ _ ∙ of_meaning st d.meaning) d.is (same_fixed st.meaning d.between d.meaning (gets (ltb 0 c) st.meaning _ d.got d.between d.gets) (gives d.between _ d.meaning d.gives))

  stays_or : (b : Bool) (l : Line) (g : Grant) (Else : Type 0) → (Else → Fixed st.meaning st'.meaning) → StaysOr b st l g st' Else → Fixed st.meaning st'.meaning
  stays_or true l g Else k d = puts st l st.meaning refl d.1 (unchanged st.meaning)
  stays_or false l g Else k d = k d

  line_put : (l : Line) → st' ≡ put_line st l → Fixed st.meaning st'.meaning
  line_put l q = puts st l st.meaning refl q (unchanged st.meaning)

  line_added : (s : State) (l : Line) → s.meaning ≡ st.meaning → st' ≡ add_line s l → Fixed st.meaning st'.meaning
  line_added s l e q = stayed st st' (ap (λ z. z.meaning) q ∙ of_add s l ∙ e)

  does : (c : Call) (g : Grant) → Does st c g st' → Fixed st.meaning st'.meaning
  does (WithCapacity k c a p) g d = makes k true c a (max a p) 0 _ g d
  does (Zeroed k mutable n a p) g d = makes k mutable n a (max a p) n _ g d
  does (CopyFrom k mutable vs a p) g d = makes k mutable (length vs) a (max a p) (length vs) _ g d
  does (EmptyShared k a) g d = line_added st _ refl d.1
  does (Reserve h n) g d = reserves st st' (enough (line st h) n) (line st h) n d.0 d.1
  does (Append h vs) g d =
      same_fixed st.meaning d.0.meaning st'.meaning (reserves st d.0 (enough (line st h) (length vs)) (line st h) (length vs) d.1 d.2)
      (stayed d.0 st' (ap (λ s. s.meaning) d.4 ∙ of_appended d.0 (line d.0 h) vs))
  does (Truncate h n) g d = line_put _ d.1
  does (Clear h) g d = line_put _ d.1
  does (Set h i v) g d = stayed st st' (ap (λ s. s.meaning) d.1 ∙ of_bytes _ _)
  does (Take h) g d = line_added _ _ (of_put _ _) d.1
  does (AlignedMut h a) g d = stays_or (is_aligned (line st h) a) _ g _ (copies _ _ _ _ _ g) d
  does (Freeze h) g d = line_put _ d.1
  does (IntoBytes h) g d = line_put _ d.1
  does (FromBytes h k a) g d = line_put _ d.1
  does (Share h) g d = line_added _ _ (of_put _ _) d.1
  does (Slice h first last a) g d = line_added st _ refl d.1
  does (TryIntoMut h) g d = line_put _ d.1
  does (IntoMut h) g d = stays_or _ _ g _ (copies _ _ _ _ _ g) d
  does (Aligned h a) g d = stays_or (is_aligned (line st h) a) _ g _ (copies _ _ _ _ _ g) d
  does (EnsureAligned h a) g d = line_put _ d.1
  does (Read h) g d = stayed st st' (ap (λ s. s.meaning) d.1)
  does (Release h) g d = moved st st' d.0 (ap (λ s. s.meaning) d.3 ∙ of_end st d.0 _) (gives st.meaning _ d.0 d.1)

pub fixed_by : (st : State) (n : ℕ) (c : Call) (a : Answer) (st' : State) → Answers st n c a st' → Fixed st.meaning st'.meaning
fixed_by st n c (refused f) st' q = stayed st st' (ap (λ s. s.meaning) q.1)
fixed_by st n c (granted g) st' q = does st st' c g q.1
