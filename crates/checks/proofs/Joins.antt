-- The checks of each call as the groups that the code decides one after another.
use Rattle.std.proofs.Common.{◌≡◌, ℕ, ◌+◌, ◌*◌, max, Bool, true, false, cond, List, [], ◌∷◌, ◌++◌, length, Some, None, refl, ap, arith}
use Rattle.allocation.specs.declared.fault.Fault.{Fault}
use Rattle.allocation.specs.Meaning.{Meaning}
use Rattle.std.specs.declared.ops.Bound.{Bound}
use Rattle.model.specs.declared.line.Handle.{Handle}
use Rattle.model.specs.declared.line.Kind.{Kind}
use Rattle.model.specs.declared.line.Line.{Line}
use Rattle.model.specs.Book.{State, line, shared_by}
use Rattle.model.specs.Calls.{WithCapacity, Zeroed, CopyFrom, EmptyShared, Set, FromBytes, TryIntoMut, EnsureAligned}
use Rattle.model.specs.Checks.{Check, refusal, block_checks, enough, reserve_checks, begin, finish, slice_checks, own}
use Rattle.checks.specs.Groups.{below_kind, size_checks, grant_check, growth_checks, room_check, range_checks, placing_checks, aligned_checks, regroup_checks, index_check, shared_check}

-- a group that refuses nothing leaves the refusal to the next, and one that refuses has the word
pub passes : (xs ys : List Check) → refusal xs ≡ None → refusal (xs ++ ys) ≡ refusal ys
passes [] ys e = refl
passes (x ∷ xs) ys e = go x.0 e (passes xs ys)
  where
    go : (b : Bool) → cond b (Some x.1) (refusal xs) ≡ None → (refusal xs ≡ None → refusal (xs ++ ys) ≡ refusal ys) → cond b (Some x.1) (refusal (xs ++ ys)) ≡ refusal ys
    go true q ih = let z : ◌≡◌ {A = ℕ} 0 1 = cc in absurd (omega arith)
    go false q ih = ih q

pub stops : (xs ys : List Check) (f : Fault) → refusal xs ≡ Some f → refusal (xs ++ ys) ≡ Some f
stops [] ys f e = let z : ◌≡◌ {A = ℕ} 0 1 = cc in absurd (omega arith)
stops (x ∷ xs) ys f e = go x.0 e (stops xs ys f)
  where
    go : (b : Bool) → cond b (Some x.1) (refusal xs) ≡ Some f → (refusal xs ≡ Some f → refusal (xs ++ ys) ≡ Some f) → cond b (Some x.1) (refusal (xs ++ ys)) ≡ Some f
    go true q ih = q
    go false q ih = ih q

-- a block that is wanted, and one that is not
pub block_wanted : (m : Meaning) (w c a : ℕ) → block_checks m true w c a ≡ size_checks (c * w + a) ++ grant_check m c (c * w + a)
block_wanted m w c a = refl

pub block_unwanted : (m : Meaning) (w c a : ℕ) → refusal (block_checks m false w c a) ≡ None
block_unwanted m w c a = refl

pub block_as : (m : Meaning) (wanted : Bool) (w c a : ℕ) → wanted ≡ true → block_checks m wanted w c a ≡ size_checks (c * w + a) ++ grant_check m c (c * w + a)
block_as m wanted w c a e = ap (λ b. block_checks m b w c a) e

-- makings
pub with_capacity_own : (st : State) (k : Kind) (c a p : ℕ) → own st (WithCapacity k c a p) ≡ below_kind k a ++ (size_checks (c * k.width + max a p) ++ grant_check st.meaning c (c * k.width + max a p))
with_capacity_own st k c a p = refl

pub zeroed_own : (st : State) (k : Kind) (mutable : Bool) (n a p : ℕ) → own st (Zeroed k mutable n a p) ≡ below_kind k a ++ (size_checks (n * k.width + max a p) ++ grant_check st.meaning n (n * k.width + max a p))
zeroed_own st k mutable n a p = refl

pub copy_from_own : (st : State) (k : Kind) (mutable : Bool) (vs : List (List ℕ)) (a p : ℕ) → own st (CopyFrom k mutable vs a p) ≡ below_kind k a ++ (size_checks (length vs * k.width + max a p) ++ grant_check st.meaning (length vs) (length vs * k.width + max a p))
copy_from_own st k mutable vs a p = refl

pub empty_shared_own : (st : State) (k : Kind) (a : ℕ) → own st (EmptyShared k a) ≡ below_kind k a
empty_shared_own st k a = refl

-- reserving, with enough room and without
pub reserve_enough : (m : Meaning) (l : Line) (more : ℕ) → enough l more ≡ true → refusal (reserve_checks m l more) ≡ None
reserve_enough m l more e = rw e

pub reserve_grows : (m : Meaning) (l : Line) (more : ℕ) → enough l more ≡ false → reserve_checks m l more ≡ growth_checks l more ++ room_check m l more
reserve_grows m l more e = rw e

-- slices
pub slice_groups : (l : Line) (first last : Bound ℕ) (a : ℕ) → slice_checks l first last a ≡ range_checks first last l.len ++ placing_checks l (begin first) (finish last l.len) a
slice_groups l first last a = refl

-- the others
pub from_bytes_own : (st : State) (h : Handle) (k : Kind) (a : ℕ) → own st (FromBytes h k a) ≡ regroup_checks (line st h) k a
from_bytes_own st h k a = refl

pub ensure_aligned_own : (st : State) (h : Handle) (a : ℕ) → own st (EnsureAligned h a) ≡ aligned_checks (line st h).kind (line st h) a
ensure_aligned_own st h a = refl

pub set_own : (st : State) (h : Handle) (i : ℕ) (v : List ℕ) → own st (Set h i v) ≡ index_check (line st h) i
set_own st h i v = refl

pub try_into_mut_own : (st : State) (h : Handle) → own st (TryIntoMut h) ≡ shared_check (shared_by st (line st h))
try_into_mut_own st h = refl
