-- Which faults a call may be refused with.
use Rattle.std.proofs.Common.{◌≡◌, ℕ, max, Bool, true, false, cond, not, List, [], ◌∷◌, ◌++◌, length, Some, refl, subst}
use Rattle.allocation.specs.declared.fault.Fault.{Fault}
use Rattle.allocation.specs.Meaning.{Meaning}
use Rattle.model.specs.declared.line.Handle.{Handle}
use Rattle.model.specs.declared.line.Line.{Line}
use Rattle.model.specs.Book.{State, line, shared_by}
use Rattle.model.specs.Calls.{Aligned, AlignedMut, Append, Call, Clear, CopyFrom, EmptyShared, EnsureAligned, Freeze, FromBytes, IntoBytes, IntoMut, Read, Release, Reserve, Set, Share, Slice, Take, Truncate, TryIntoMut, WithCapacity, Zeroed}
use Rattle.model.specs.Checks.{Check, block_checks, brings, checks, is_aligned, own, refusal, reserve_checks, strangers}
use Rattle.model.specs.Keyed.{All}
use Rattle.model.specs.Laws.{FaultsLaw, PlainFault}
use Rattle.model.proofs.Shapes.{never}

abbrev PlainChecks : List Check → Type 0
PlainChecks cs = All (λ c. PlainFault c.1) cs

-- what is so of all checks is so of the first that holds
first_plain : (cs : List Check) (f : Fault) → PlainChecks cs → refusal cs ≡ Some f → PlainFault f
first_plain [] f p e = absurd (never refl e)
first_plain (c ∷ cs) f p e = go c.0 (first_plain cs f p.1) e
  where
    go : (b : Bool) → (refusal cs ≡ Some f → PlainFault f) → cond b (Some c.1) (refusal cs) ≡ Some f → PlainFault f
    go true ih q = let z : c.1 ≡ f = cc in subst PlainFault z p.0
    go false ih q = ih q

block_plain : (m : Meaning) (wanted : Bool) (w c a : ℕ) → PlainChecks (block_checks m wanted w c a)
block_plain m wanted w c a = (tt, (tt, ((refl, refl), tt)))

reserve_plain : (m : Meaning) (l : Line) (more : ℕ) → PlainChecks (reserve_checks m l more)
reserve_plain m l more = (tt, (tt, ((refl, refl), tt)))

own_plain : (st : State) (c : Call) → PlainChecks (own st c)
own_plain st (WithCapacity k c a p) = (tt, block_plain st.meaning true k.width c (max a p))
own_plain st (Zeroed k mutable n a p) = (tt, block_plain st.meaning true k.width n (max a p))
own_plain st (CopyFrom k mutable vs a p) = (tt, block_plain st.meaning true k.width (length vs) (max a p))
own_plain st (EmptyShared k a) = (tt, tt)
own_plain st (Reserve h n) = reserve_plain st.meaning (line st h) n
own_plain st (Append h vs) = reserve_plain st.meaning (line st h) (length vs)
own_plain st (Truncate h n) = tt
own_plain st (Clear h) = tt
own_plain st (Set h i v) = (tt, tt)
own_plain st (Take h) = tt
own_plain st (AlignedMut h a) = (tt, block_plain st.meaning (not (is_aligned (line st h) a)) (line st h).kind.width (line st h).capacity (max a 256))
own_plain st (Freeze h) = tt
own_plain st (IntoBytes h) = tt
own_plain st (FromBytes h k a) = (tt, (tt, (tt, tt)))
own_plain st (Share h) = tt
own_plain st (Slice h first last a) = (tt, (tt, (tt, (tt, (tt, (tt, (tt, tt)))))))
own_plain st (TryIntoMut h) = (tt, tt)
own_plain st (IntoMut h) = block_plain st.meaning (shared_by st (line st h)) (line st h).kind.width (line st h).len (max (line st h).claim 256)
own_plain st (Aligned h a) = (tt, block_plain st.meaning (not (is_aligned (line st h) a)) (line st h).kind.width (line st h).len (max a 256))
own_plain st (EnsureAligned h a) = (tt, (tt, tt))
own_plain st (Read h) = tt
own_plain st (Release h) = tt

strangers_plain : (st : State) (hs : List Handle) (cs : List Check) → PlainChecks cs → PlainChecks (strangers st hs ++ cs)
strangers_plain st [] cs p = p
strangers_plain st (h ∷ hs) cs p = (tt, strangers_plain st hs cs p)

pub faults_law : FaultsLaw
faults_law st n c f st' (e, q) = first_plain (checks st n c) f (tt, (tt, strangers_plain st (brings c).handles _ (tt, own_plain st c))) e
