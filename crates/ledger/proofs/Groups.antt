-- Checks come in groups: what the groups of a call say is what its checks say.
use Rattle.std.proofs.Common.{◌≡◌, ℕ, Bool, true, false, cond, not, ◌&&◌, eqb, List, [], ◌∷◌, ◌++◌, length, Some, None, Option, refl, ap, ◌∙◌, arith}
use Rattle.std.proofs.lemmas.Bool.{eqb-true, not-false}
use Rattle.allocation.specs.declared.fault.Fault.{Fault}
use Rattle.allocation.specs.declared.fault.Fault.TheVariants.{Alone}
use Rattle.allocation.specs.declared.fault.Refusal.TheVariants.{RegionDiffers, UnknownHandle, NoHandleLeft}
use Rattle.checks.proofs.Joins.{passes, stops}
use Rattle.model.specs.declared.line.Handle.{Handle}
use Rattle.model.specs.declared.line.Line.{Line}
use Rattle.model.specs.Book.{State, agrees, known, look_up}
use Rattle.model.specs.Calls.{Call, done, read}
use Rattle.model.specs.Checks.{Check, Brings, refusal, brings, strangers, full, own, checks}
use Rattle.model.proofs.Checks.{passed}
use Rattle.ledger.specs.Entry.{region_check, entry, handle_check, opening}
use Rattle.ledger.specs.Results.{Grants}

-- behind the checks that all calls have
abbrev pub behind : State → Brings → List Check → List Check
behind st b rest =
    (not (eqb (length st.bytes) st.meaning.extent), Alone RegionDiffers)
    ∷ (not b.fitting, Alone UnknownHandle)
    ∷ (strangers st b.handles ++ ((b.makes && full st, Alone NoHandleLeft) ∷ rest))

abbrev pub bringing : List Handle → Bool → Brings
bringing hs makes = record { handles = hs; fitting = true; makes = makes }

-- a call on a handle that the store knows
module _ (st : State) (h : Handle) (c : Call) where
  -- .. that makes no handle
  pub used : (e : brings c ≡ bringing (h ∷ []) false) → refusal (entry st h) ≡ None → refusal (checks st (length st.bytes) c) ≡ refusal (own st c)
  used e p = ap (λ (b : Brings). refusal (behind st b (own st c))) e ∙ passes (entry st h) (own st c) p

  pub unused : (makes : Bool) (f : Fault) → brings c ≡ bringing (h ∷ []) makes → refusal (entry st h) ≡ Some f → refusal (checks st (length st.bytes) c) ≡ Some f
  unused makes f e p = ap (λ (b : Brings). refusal (behind st b (own st c))) e ∙ stops (entry st h) ((makes && full st, Alone NoHandleLeft) ∷ own st c) f p

  -- .. that makes one
  pub used_free : brings c ≡ bringing (h ∷ []) true → refusal (entry st h) ≡ None → refusal (handle_check st.next st.lines) ≡ None → refusal (checks st (length st.bytes) c) ≡ refusal (own st c)
  used_free e p q = ap (λ (b : Brings). refusal (behind st b (own st c))) e ∙ passes (entry st h) (handle_check st.next st.lines ++ own st c) p ∙ passes (handle_check st.next st.lines) (own st c) q

  pub unfree : (f : Fault) → brings c ≡ bringing (h ∷ []) true → refusal (entry st h) ≡ None → refusal (handle_check st.next st.lines) ≡ Some f → refusal (checks st (length st.bytes) c) ≡ Some f
  unfree f e p q = ap (λ (b : Brings). refusal (behind st b (own st c))) e ∙ passes (entry st h) (handle_check st.next st.lines ++ own st c) p ∙ stops (handle_check st.next st.lines) (own st c) f q

-- a reading that no check refuses
pub granted_reading : (st : State) (h : Handle) → refusal (checks st (length st.bytes) (read h)) ≡ None → Grants st (read h) 0 st
granted_reading st h p = (done, refl, (p, (refl, refl)))

-- a call that brings no handle and makes one
module _ (st : State) (c : Call) (e : brings c ≡ bringing [] true) where
  pub opened : refusal (opening st) ≡ None → refusal (checks st (length st.bytes) c) ≡ refusal (own st c)
  opened p = ap (λ (b : Brings). refusal (behind st b (own st c))) e ∙ passes (opening st) (own st c) p

  pub unopened : (f : Fault) → refusal (opening st) ≡ Some f → refusal (checks st (length st.bytes) c) ≡ Some f
  unopened f p = ap (λ (b : Brings). refusal (behind st b (own st c))) e ∙ stops (opening st) (own st c) f p

-- the region that was brought has the allocator's length
pub long_by : (st : State) → refusal (region_check st) ≡ None → length st.bytes ≡ st.meaning.extent
long_by st e = eqb-true (length st.bytes) st.meaning.extent (not-false (eqb (length st.bytes) st.meaning.extent) (passed (region_check st) e).0)

-- the handle is known
pub known_by : (st : State) (h : Handle) → refusal (entry st h) ≡ None → not (known st h) ≡ false
known_by st h e = (passed (entry st h) e).1.0

-- another region
pub other_region : (st : State) (h : Handle) (f : Fault) → refusal (region_check st) ≡ Some f → refusal (entry st h) ≡ Some f
other_region st h f e = stops (region_check st) ((not (known st h), Alone UnknownHandle) ∷ []) f e

-- past the region, the handle is a stranger or is known
pub strange : (st : State) (h : Handle) → refusal (region_check st) ≡ None → known st h ≡ false → refusal (entry st h) ≡ Some (Alone UnknownHandle)
strange st h e k = passes (region_check st) ((not (known st h), Alone UnknownHandle) ∷ []) e ∙ rw k

pub enters : (st : State) (h : Handle) → refusal (region_check st) ≡ None → known st h ≡ true → refusal (entry st h) ≡ None
enters st h e k = passes (region_check st) ((not (known st h), Alone UnknownHandle) ∷ []) e ∙ rw k

pub stranger_none : (st : State) (h : Handle) → look_up h.serial st ≡ None → known st h ≡ false
stranger_none st h e = go (eqb h.store st.number) (look_up h.serial st) e
  where
    go : (b : Bool) (o : Option Line) → o ≡ None → cond b (agrees h o) false ≡ false
    go true None q = refl
    go true (Some l) q = let z : ◌≡◌ {A = ℕ} 0 1 = cc in absurd (omega arith)
    go false o q = refl

pub known_line : (st : State) (h : Handle) (l : Line) → look_up h.serial st ≡ Some l → known st h ≡ cond (eqb h.store st.number) (agrees h (Some l)) false
known_line st h l e = ap (λ (o : Option Line). cond (eqb h.store st.number) (agrees h o) false) e
