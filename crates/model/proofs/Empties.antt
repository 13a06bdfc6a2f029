-- Empty backings: their numbers are serials that were given out, and a mutable handle is alone on its own.
use Rattle.std.proofs.Common.{◌≡◌, ℕ, ◌+◌, ◌-◌, ◌≤◌, max, Bool, true, false, not, ltb, leb, ◌⊎◌, List, [], ◌∷◌, ◌++◌, length, Some, None, Option, sym, refl, ap, ◌∙◌, subst, inl, inr, ⊎_elim, true≢false, arith}
use mathlib.Core.Bool.{false≢true}
use Rattle.std.proofs.lemmas.Bool.{not-true, cases_eq, eqb-true, eq-eqb, not-false}
use Rattle.allocation.specs.declared.block.Block.{Block}
use Rattle.allocation.specs.Meaning.{Meaning}
use Rattle.model.specs.declared.line.Backing.{Backing}
use Rattle.model.specs.declared.line.Backing.TheVariants.{Empty, Owned, Unbacked}
use Rattle.model.specs.declared.line.Handle.{Handle}
use Rattle.model.specs.declared.line.Kind.{Kind}
use Rattle.model.specs.declared.line.Line.{Line}
use Rattle.model.specs.Book.{State, block_of, line, look_up, one_backing, serial_of, shared_by}
use Rattle.model.specs.Calls.{Aligned, AlignedMut, Append, Call, Clear, CopyFrom, EmptyShared, EnsureAligned, Freeze, FromBytes, Grant, IntoBytes, IntoMut, Read, Release, Reserve, Set, Share, Slice, Take, Truncate, TryIntoMut, WithCapacity, Zeroed}
use Rattle.model.specs.Checks.{begin, checks, claimed, enough, finish, is_aligned}
use Rattle.model.specs.Effects.{Copies, Does, Made, Reserves, StaysOr, add_line, appended, backing_in, copied_into, empty_line, end_line, frozen, made, made_as, put_line, relocated, shared_with, shortened, slice_line, unbacked_line, unfrozen, with_backing, with_bytes, with_claim, with_len, with_meaning, with_serial, with_state}
use Rattle.model.specs.Keyed.{find, update}
use Rattle.model.specs.Pedigree.{Table}
use Rattle.model.specs.Runs.{Sound}
use Rattle.model.proofs.Backings.{same_block_eq}
use Rattle.model.proofs.Checks.{Passed, held, line_is, not_not}
use Rattle.model.proofs.Invariant.{Inv}
use Rattle.model.proofs.Keeps.{no_other}
use Rattle.model.proofs.Lines.{LinesKeep, kept_line, reserves_to}
use Rattle.model.proofs.Moves.{Only, only_add, only_end, only_put}
use Rattle.model.proofs.Reserving.{reserved}
use Rattle.model.proofs.Shapes.{never, pin}

-- one more than the number of an empty backing that has one; 0 for any other
abbrev pub number_in : Backing → ℕ
number_in Unbacked = 0
number_in (Empty None) = 0
number_in (Empty (Some n)) = n + 1
number_in (Owned b) = 0

pub record Named (st : State) : Type 0 where
  pub below : (s : ℕ) (l : Line) → look_up s st ≡ Some l → number_in l.backing ≤ st.next
  pub alone : (s t : ℕ) (l m : Line) → (t ≡ s → ⊥) → look_up s st ≡ Some l → look_up t st ≡ Some m → 1 ≤ number_in l.backing → number_in l.backing ≡ number_in m.backing → l.mutable ≡ false

-- one number, one backing
numbers_one : (b c : Backing) → 1 ≤ number_in b → number_in b ≡ number_in c → one_backing b c ≡ true
numbers_one Unbacked c h e = absurd (omega arith)
numbers_one (Owned b) c h e = absurd (omega arith)
numbers_one (Empty None) c h e = absurd (omega (arith, h))
numbers_one (Empty (Some m)) Unbacked h e = absurd (omega (arith, h, e))
numbers_one (Empty (Some m)) (Owned b) h e = absurd (omega (arith, h, e))
numbers_one (Empty (Some m)) (Empty None) h e = absurd (omega (arith, h, e))
numbers_one (Empty (Some m)) (Empty (Some n)) h e = eq-eqb m n (omega (arith, e))

pub one_numbers : (b c : Backing) → one_backing b c ≡ true → ((d : Block) × (block_of b ≡ Some d) × (block_of c ≡ Some d)) ⊎ ((1 ≤ number_in b) × (number_in b ≡ number_in c))
unfolding block_of
one_numbers Unbacked c e = absurd (false≢true e)
one_numbers (Owned b) Unbacked e = absurd (false≢true e)
one_numbers (Owned b) (Empty n) e = absurd (false≢true e)
one_numbers (Owned b) (Owned c) e = inl (b, refl, ap {B = Option Block} Some (sym (same_block_eq b c e)))
one_numbers (Empty None) Unbacked e = absurd (false≢true e)
one_numbers (Empty None) (Owned b) e = absurd (false≢true e)
one_numbers (Empty None) (Empty n) e = absurd (false≢true e)
one_numbers (Empty (Some m)) Unbacked e = absurd (false≢true e)
one_numbers (Empty (Some m)) (Owned b) e = absurd (false≢true e)
one_numbers (Empty (Some m)) (Empty None) e = absurd (false≢true e)
one_numbers (Empty (Some m)) (Empty (Some n)) e = inr (omega arith, ap (λ k. k + 1) (eqb-true m n e))

number_shared : (s : ℕ) (b : Backing) → (number_in (shared_with s b) ≡ number_in b) ⊎ ((number_in b ≡ 0) × (number_in (shared_with s b) ≡ s + 1))
number_shared s Unbacked = inl refl
number_shared s (Owned b) = inl refl
number_shared s (Empty None) = inr (refl, refl)
number_shared s (Empty (Some n)) = inl refl

-- one line changes
module _ (st st' : State) (s : ℕ) (new : Option Line) (k : Named st) (more : st.next ≤ st'.next) (same : (t : ℕ) → (t ≡ s → ⊥) → look_up t st' ≡ look_up t st) (at : look_up s st' ≡ new)
    (low : (l : Line) → new ≡ Some l → number_in l.backing ≤ st'.next)
    (pair : (l : Line) (t : ℕ) (m : Line) → new ≡ Some l → (t ≡ s → ⊥) → look_up t st ≡ Some m → 1 ≤ number_in l.backing → number_in l.backing ≡ number_in m.backing → (l.mutable ≡ false) × (m.mutable ≡ false)) where
  pub named_at : Named st'
  named_at = record { below = λ t l e. below t l e (cases_eq t s); alone = λ a t l m d e f h q. alone a t l m d e f h q (cases_eq a s) (cases_eq t s) }
    where
      below : (t : ℕ) (l : Line) → look_up t st' ≡ Some l → (t ≡ s) ⊎ (t ≡ s → ⊥) → number_in l.backing ≤ st'.next
      below t l e (inl q) = low l (sym at ∙ ap (λ z. look_up z st') (sym q) ∙ e)
      below t l e (inr d) = omega (arith, k.below t l (sym (same t d) ∙ e), more)

      alone : (a t : ℕ) (l m : Line) → (t ≡ a → ⊥) → look_up a st' ≡ Some l → look_up t st' ≡ Some m → 1 ≤ number_in l.backing → number_in l.backing ≡ number_in m.backing → (a ≡ s) ⊎ (a ≡ s → ⊥) → (t ≡ s) ⊎ (t ≡ s → ⊥) → l.mutable ≡ false
      alone a t l m d e f h q (inl x) (inl y) = absurd (d (y ∙ sym x))
      alone a t l m d e f h q (inl x) (inr y) = (pair l t m (sym at ∙ ap (λ z. look_up z st') (sym x) ∙ e) y (sym (same t y) ∙ f) h q).0
      alone a t l m d e f h q (inr x) (inl y) = (pair m a l (sym at ∙ ap (λ z. look_up z st') (sym y) ∙ f) x (sym (same a x) ∙ e) (omega (arith, h, q)) (sym q)).1
      alone a t l m d e f h q (inr x) (inr y) = k.alone a t l m d (sym (same a x) ∙ e) (sym (same t y) ∙ f) h q

-- the same book
named_same : (st st' : State) → st'.next ≡ st.next → st'.lines ≡ st.lines → Named st → Named st'
named_same st st' n l k = record {
  below = λ s x e. subst (λ z. number_in x.backing ≤ z) (sym n) (k.below s x (sym (ap (find serial_of s) l) ∙ e));
  alone = λ s t x y d e f h q. k.alone s t x y d (sym (ap (find serial_of s) l) ∙ e) (sym (ap (find serial_of t) l) ∙ f) h q;
}

module _ (st : State) (tb : Table) (inv : Inv st tb) (each : LinesKeep st) (k : Named st) where
  -- the two lines on one number are shared
  both : (s t : ℕ) (l m : Line) → (t ≡ s → ⊥) → look_up s st ≡ Some l → look_up t st ≡ Some m → 1 ≤ number_in l.backing → number_in l.backing ≡ number_in m.backing → (l.mutable ≡ false) × (m.mutable ≡ false)
  both s t l m d e f h q = (k.alone s t l m d e f h q, k.alone t s m l (λ z. d (sym z)) f e (omega (arith, h, q)) (sym q))

  put_named : (s : ℕ) (l l' : Line) → look_up s st ≡ Some l → l'.serial ≡ s → number_in l'.backing ≤ st.next
      → ((t : ℕ) (m : Line) → (t ≡ s → ⊥) → look_up t st ≡ Some m → 1 ≤ number_in l'.backing → number_in l'.backing ≡ number_in m.backing → (l'.mutable ≡ false) × (m.mutable ≡ false)) → Named (put_line st l')
  unfolding put_line
  put_named s l l' e q low pair =
      let only = only_put st.next st.lines s l l' inv.order e q in
      named_at st (put_line st l') s (Some l') k (omega arith) only.same only.at (λ x z. pin refl (λ y. number_in y.backing ≤ st.next) low x z)
      (λ x t m z d f h w. pin refl (λ y. 1 ≤ number_in y.backing → number_in y.backing ≡ number_in m.backing → (y.mutable ≡ false) × (m.mutable ≡ false)) (pair t m d f) x z h w)

  -- the backing stays, and a shared line stays shared
  quiet : (s : ℕ) (l l' : Line) → look_up s st ≡ Some l → l'.serial ≡ s → number_in l'.backing ≡ number_in l.backing → (l.mutable ≡ false → l'.mutable ≡ false) → Named (put_line st l')
  quiet s l l' e q n f = put_named s l l' e q (omega (arith, n, k.below s l e)) (λ t m d g h w. let b = both s t l m d e g (omega (arith, h, n)) (sym n ∙ w) in (f b.0, b.1))

  -- a backing without a number
  zero_put : (s : ℕ) (l l' : Line) → look_up s st ≡ Some l → l'.serial ≡ s → number_in l'.backing ≡ 0 → Named (put_line st l')
  zero_put s l l' e q n = put_named s l l' e q (omega (arith, n, each.1.begun)) (λ t m d g h w. absurd (omega (arith, h, n)))

  add_named : (l : Line) → l.serial ≡ st.next → number_in l.backing ≤ st.next
      → ((t : ℕ) (m : Line) → look_up t st ≡ Some m → 1 ≤ number_in l.backing → number_in l.backing ≡ number_in m.backing → (l.mutable ≡ false) × (m.mutable ≡ false)) → Named (add_line st l)
  unfolding add_line
  add_named l q low pair =
      let only = only_add st.next st.lines l inv.order q in
      named_at st (add_line st l) st.next (Some l) k (omega arith) only.same only.at (λ x z. pin refl (λ y. number_in y.backing ≤ st.next + 1) (omega arith) x z)
      (λ x t m z d f h w. pin refl (λ y. 1 ≤ number_in y.backing → number_in y.backing ≡ number_in m.backing → (y.mutable ≡ false) × (m.mutable ≡ false)) (pair t m f) x z h w)

  zero-add : (l : Line) → l.serial ≡ st.next → number_in l.backing ≡ 0 → Named (add_line st l)
  zero-add l q n = add_named l q (omega (arith, n)) (λ t m g h w. absurd (omega (arith, h, n)))

  end_named : (m : Meaning) (s : ℕ) → Named (end_line (with_meaning st m) s)
  unfolding end_line with_meaning
  end_named m s =
      let only = only_end st.next st.lines s inv.order in
      named_at st (end_line (with_meaning st m) s) s None k (omega arith) only.same only.at (λ x z. absurd (never refl z)) (λ x t y z d f h w. absurd (never refl z))

got_number : (got : Option Block) → number_in (backing_in got) ≡ 0
got_number None = refl
got_number (Some b) = refl

is_named : {st st' : State} → st' ≡ st → Named st → Named st'
is_named e k = subst Named (sym e) k

-- bytes and meaning aside
moved_put : (st : State) (m : Meaning) (xs : List ℕ) (l : Line) → Named (put_line st l) → Named (put_line (with_bytes (with_meaning st m) xs) l)
unfolding put_line with_bytes with_meaning
moved_put st m xs l k = named_same (put_line st l) (put_line (with_bytes (with_meaning st m) xs) l) refl refl k

moved_add : (st : State) (m : Meaning) (xs : List ℕ) (l : Line) → Named (add_line st l) → Named (add_line (with_bytes (with_meaning st m) xs) l)
unfolding add_line with_bytes with_meaning
moved_add st m xs l k = named_same (add_line st l) (add_line (with_bytes (with_meaning st m) xs) l) refl refl k

moved_bytes : (st : State) (xs : List ℕ) → Named st → Named (with_bytes st xs)
unfolding with_bytes
moved_bytes st xs k = named_same st (with_bytes st xs) refl refl k

moved_appended : (st : State) (l : Line) (vs : List (List ℕ)) → Named (put_line st (with_len l (l.len + length vs))) → Named (appended st l vs)
unfolding appended put_line with_bytes
moved_appended st l vs k = named_same (put_line st (with_len l (l.len + length vs))) (appended st l vs) refl refl k

module _ (st : State) (tb : Table) (inv : Inv st tb) (each : LinesKeep st) (k : Named st) (st' : State) where
  made_named : (kind : Kind) (mutable : Bool) (c claim m n : ℕ) (writes : Option Block → List ℕ) (g : Grant) → Made st kind mutable c claim m n writes g st' → Named st'
  made_named kind mutable c claim m n writes g d =
      is_named d.is (moved_add st d.meaning (writes d.got) (made_as mutable (made st kind claim m n d.got)) (zero-add st tb inv each k (made_as mutable (made st kind claim m n d.got)) refl (got_number d.got)))

  copies_named : (s : ℕ) (l : Line) (c claim : ℕ) (mutable : Bool) (capacity : Option Block → ℕ) (g : Grant) → look_up s st ≡ Some l → l.serial ≡ s → Copies st l c claim mutable capacity g st' → Named st'
  unfolding copied_into
  copies_named s l c claim mutable capacity g e q d =
      let l' = copied_into st.meaning.base l mutable claim (max claim 256) (capacity d.got) d.got in
      is_named d.is (moved_put st d.meaning _ l' (zero_put st tb inv each k s l l' e q (got_number d.got)))

  stays_named : (b : Bool) (l : Line) (g : Grant) (Else : Type 0) → (b ≡ true → Named (put_line st l)) → (Else → Named st') → StaysOr b st l g st' Else → Named st'
  stays_named true l g Else f o (p, q) = is_named q (f refl)
  stays_named false l g Else f o d = o d

  reserves_named : (b : Bool) (s : ℕ) (l : Line) (n : ℕ) (bs : List Block) → look_up s st ≡ Some l → l.serial ≡ s → Reserves b st l n bs st' → Named st'
  reserves_named true s l n bs e q (p, r) = is_named r k
  reserves_named false s l n bs e q d = is_named d.is (moved_put st d.meaning d.bytes _ (zero_put st tb inv each k s l (relocated l d.block _ _) e q refl))

  unfrozen_named : (s : ℕ) (l : Line) (b : Backing) → look_up s st ≡ Some l → l.serial ≡ s → l.backing ≡ b → shared_by st l ≡ false → Named (put_line st (unfrozen st l b))
  unfrozen_named s l Unbacked e q i sole = zero_put st tb inv each k s l (unfrozen st l Unbacked) e q refl
  unfrozen_named s l (Empty n) e q i sole =
      put_named st tb inv each k s l (with_state l true 0) e q (k.below s l e)
      (λ t m d f h w. absurd (true≢false (sym (numbers_one l.backing m.backing h w) ∙ no_other st l sole t m (λ z. d (z ∙ q)) f)))
  unfrozen_named s l (Owned c) e q i sole = zero_put st tb inv each k s l (unfrozen st l (Owned c)) e q (ap number_in i)

  shortened_named : (b : Bool) (n s : ℕ) (l : Line) → look_up s st ≡ Some l → l.serial ≡ s → Named (put_line st (shortened b n l))
  shortened_named true n s l e q = quiet st tb inv each k s l (with_len l n) e q refl (λ z. z)
  shortened_named false n s l e q = quiet st tb inv each k s l l e q refl (λ z. z)

  sliced_named : (b : Bool) (s : ℕ) (l : Line) (first n a : ℕ) → look_up s st ≡ Some l → l.mutable ≡ false → Named (add_line st (slice_line b st l first n a))
  sliced_named true s l first n a e shared =
      add_named st tb inv each k (slice_line true st l first n a) refl (omega (arith, k.below s l e)) (λ t m f h w. (refl, other t m f h w (cases_eq t s)))
    where
      other : (t : ℕ) (m : Line) → look_up t st ≡ Some m → 1 ≤ number_in l.backing → number_in l.backing ≡ number_in m.backing → (t ≡ s) ⊎ (t ≡ s → ⊥) → m.mutable ≡ false
      other t m f h w (inl z) = pin e (λ x. x.mutable ≡ false) shared m (ap (λ y. look_up y st) (sym z) ∙ f)
      other t m f h w (inr d) = (both st tb inv each k s t l m d e f h w).1
  sliced_named false s l first n a e shared = zero-add st tb inv each k (slice_line false st l first n a) refl refl

-- appending: reserved first, and then the length alone changes
append_named : (st : State) (tb : Table) (inv : Inv st tb) (each : LinesKeep st) (k : Named st) (st' : State) (n : ℕ) (h : Handle) (vs : List (List ℕ)) (g : Grant) → Sound (Append h vs) → Passed (checks st n (Append h vs)) → Does st (Append h vs) g st' → Named st'
append_named st tb inv each k st' n h vs g s ps (between, bs, res, p, q) =
    let x = held st h ps.1.1.0 in
    let d = reserved st tb inv h.serial (line st h) x.at (length vs) (enough (line st h) (length vs)) bs between (x.state ∙ not-false h.mutable ps.1.0) x.serial refl res in
    let kept = reserves_to st each between (enough (line st h) (length vs)) (line st h) (length vs) bs (kept_line st each h) (x.state ∙ not-false h.mutable ps.1.0) res in
    let named = reserves_named st tb inv each k between (enough (line st h) (length vs)) h.serial (line st h) (length vs) bs x.at x.serial res in
    is_named q (subst (λ z. Named (appended between z vs)) (line_is between h d.line d.at)
    (moved_appended between d.line vs (quiet between d.table d.keeps kept named h.serial d.line (with_len d.line (d.line.len + length vs)) d.at d.serial refl (λ z. z))))

module _ (st : State) (tb : Table) (inv : Inv st tb) (each : LinesKeep st) (k : Named st) (st' : State) where
  -- taken: the backing goes with the new serial, and the old one has an empty backing of its own
  taken_named : (s : ℕ) (l l₀ l' : Line) → look_up s st ≡ Some l → l₀.serial ≡ s → number_in l₀.backing ≡ 0 → l'.serial ≡ st.next → number_in l'.backing ≡ number_in l.backing → l'.mutable ≡ l.mutable → Named (add_line (put_line st l₀) l')
  unfolding add_line put_line
  taken_named s l l₀ l' e q zero q' n mut =
      named_at (put_line st l₀) (add_line (put_line st l₀) l') st.next (Some l') (zero_put st tb inv each k s l l₀ e q zero) (omega arith) added.same added.at
      (λ x z. pin refl (λ y. number_in y.backing ≤ st.next + 1) (omega (arith, n, k.below s l e)) x z)
      (λ x t m z d f h w. pin refl (λ y. 1 ≤ number_in y.backing → number_in y.backing ≡ number_in m.backing → (y.mutable ≡ false) × (m.mutable ≡ false)) (λ h w. other t m f h w (cases_eq t s)) x z h w)
    where
      put : Only st.next st.lines (update serial_of l₀.serial (λ _. l₀) st.lines) s (Some l₀)
      put = only_put st.next st.lines s l l₀ inv.order e q

      added : Only (st.next + 1) (update serial_of l₀.serial (λ _. l₀) st.lines) (update serial_of l₀.serial (λ _. l₀) st.lines ++ (l' ∷ [])) st.next (Some l')
      added = only_add st.next (update serial_of l₀.serial (λ _. l₀) st.lines) l' put.order q'

      other : (t : ℕ) (m : Line) → find serial_of t (update serial_of l₀.serial (λ _. l₀) st.lines) ≡ Some m → 1 ≤ number_in l'.backing → number_in l'.backing ≡ number_in m.backing → (t ≡ s) ⊎ (t ≡ s → ⊥) → (l'.mutable ≡ false) × (m.mutable ≡ false)
      other t m f h w (inl z) =
          let none : number_in m.backing ≡ 0 = pin put.at (λ y. number_in y.backing ≡ 0) zero m (ap (λ y. find serial_of y (update serial_of l₀.serial (λ _. l₀) st.lines)) (sym z) ∙ f) in
          absurd (omega (arith, h, w, none))
      other t m f h w (inr d) = let b = both st tb inv each k s t l m d e (sym (put.same t d) ∙ f) (omega (arith, h, n)) (sym n ∙ w) in (mut ∙ b.0, b.1)

  -- shared: an empty backing that had no number takes the new serial
  shared_named : (s : ℕ) (l : Line) → look_up s st ≡ Some l → l.serial ≡ s → l.mutable ≡ false
      → Named (add_line (put_line st (with_backing l (shared_with st.next l.backing))) (with_serial (with_backing l (shared_with st.next l.backing)) st.next))
  unfolding add_line put_line
  shared_named s l e q mut =
      named_at between (add_line (put_line st l₁) l₂) st.next (Some l₂) named (omega arith) added.same added.at
      (λ x z. pin refl (λ y. number_in y.backing ≤ st.next + 1) (named.below s l₁ put.at) x z)
      (λ x t m z d f h w. pin refl (λ y. 1 ≤ number_in y.backing → number_in y.backing ≡ number_in m.backing → (y.mutable ≡ false) × (m.mutable ≡ false)) (λ h w. (mut, other t m f h w (cases_eq t s))) x z h w)
    where
      l₁ : Line
      l₁ = with_backing l (shared_with st.next l.backing)

      l₂ : Line
      l₂ = with_serial l₁ st.next

      between : State
      between = record { number = st.number; next = st.next + 1; lines = update serial_of l.serial (λ _. with_backing l (shared_with st.next l.backing)) st.lines; meaning = st.meaning; bytes = st.bytes }

      put : Only st.next st.lines (update serial_of l.serial (λ _. l₁) st.lines) s (Some l₁)
      put = only_put st.next st.lines s l l₁ inv.order e q

      added : Only (st.next + 1) (update serial_of l.serial (λ _. l₁) st.lines) (update serial_of l.serial (λ _. l₁) st.lines ++ (l₂ ∷ [])) st.next (Some l₂)
      added = only_add st.next (update serial_of l.serial (λ _. l₁) st.lines) l₂ put.order refl

      low : number_in l₁.backing ≤ st.next + 1
      low = ⊎_elim (λ n. omega (arith, n, k.below s l e)) (λ n. omega (arith, n.1)) (number_shared st.next l.backing)

      pairs : (t : ℕ) (m : Line) → (t ≡ s → ⊥) → look_up t st ≡ Some m → 1 ≤ number_in l₁.backing → number_in l₁.backing ≡ number_in m.backing → (l₁.mutable ≡ false) × (m.mutable ≡ false)
      pairs t m d f h w = ⊎_elim (λ n. both st tb inv each k s t l m d e f (omega (arith, h, n)) (sym n ∙ w)) (λ n. absurd (omega (arith, n.1, w, k.below t m f))) (number_shared st.next l.backing)

      named : Named between
      named = named_at st between s (Some l₁) k (omega arith) put.same put.at (λ x z. pin refl (λ y. number_in y.backing ≤ st.next + 1) low x z)
          (λ x t m z d f h w. pin refl (λ y. 1 ≤ number_in y.backing → number_in y.backing ≡ number_in m.backing → (y.mutable ≡ false) × (m.mutable ≡ false)) (pairs t m d f) x z h w)

      other : (t : ℕ) (m : Line) → look_up t between ≡ Some m → 1 ≤ number_in l₁.backing → number_in l₁.backing ≡ number_in m.backing → (t ≡ s) ⊎ (t ≡ s → ⊥) → m.mutable ≡ false
      other t m f h w (inl z) = pin put.at (λ y. y.mutable ≡ false) mut m (ap (λ y. look_up y between) (sym z) ∙ f)
      other t m f h w (inr d) = named.alone t s m l₁ (λ z. d (sym z)) f put.at (omega (arith, h, w)) (sym w)

  pub named_on : (n : ℕ) (c : Call) (g : Grant) → Sound c → Passed (checks st n c) → Does st c g st' → Named st'
  named_on n (WithCapacity kd c a p) g s ps d = made_named st tb inv each k st' kd true c a (max a p) 0 _ g d
  named_on n (Zeroed kd mutable c a p) g s ps d = made_named st tb inv each k st' kd mutable c a (max a p) c _ g d
  named_on n (CopyFrom kd mutable vs a p) g s ps d = made_named st tb inv each k st' kd mutable (length vs) a (max a p) (length vs) _ g d
  named_on n (EmptyShared kd a) g s ps (p, q) = is_named q (zero-add st tb inv each k (unbacked_line st.next kd a) refl refl)
  named_on n (Reserve h more) g s ps (bs, res, p) = let x = held st h ps.1.1.0 in reserves_named st tb inv each k st' (enough (line st h) more) h.serial (line st h) more bs x.at x.serial res
  named_on n (Append h vs) g s ps d = append_named st tb inv each k st' n h vs g s ps d
  named_on n (Truncate h len) g s ps (p, q) = let x = held st h ps.1.1.0 in is_named q (shortened_named st tb inv each k st' (leb len (line st h).len) len h.serial (line st h) x.at x.serial)
  named_on n (Clear h) g s ps (p, q) = let x = held st h ps.1.1.0 in is_named q (quiet st tb inv each k h.serial (line st h) (with_len (line st h) 0) x.at x.serial refl (λ z. z))
  named_on n (Set h i v) g s ps (p, q) = is_named q (moved_bytes st _ k)
  named_on n (Take h) g s ps (p, q) =
      let x = held st h ps.1.1.0 in
      is_named q (taken_named h.serial (line st h) (empty_line h.serial (line st h).kind (line st h).claim) (with_serial (line st h) st.next) x.at refl refl refl refl refl)
  named_on n (AlignedMut h a) g s ps d =
      let x = held st h ps.1.1.0 in
      stays_named st tb inv each k st' (is_aligned (line st h) a) (with_claim (line st h) a) g _ (λ f. quiet st tb inv each k h.serial (line st h) (with_claim (line st h) a) x.at x.serial refl (λ z. z)) (copies_named st tb inv each k st' h.serial (line st h) (line st h).capacity a true _ g x.at x.serial) d
  named_on n (Freeze h) g s ps (p, q) = let x = held st h ps.1.1.0 in is_named q (quiet st tb inv each k h.serial (line st h) (frozen (line st h)) x.at x.serial refl (λ z. refl))
  named_on n (IntoBytes h) g s ps (p, q) = let x = held st h ps.1.1.0 in is_named q (quiet st tb inv each k h.serial (line st h) _ x.at x.serial refl (λ z. z))
  named_on n (FromBytes h kd a) g s ps (p, q) = let x = held st h ps.1.1.0 in is_named q (quiet st tb inv each k h.serial (line st h) _ x.at x.serial refl (λ z. z))
  named_on n (Share h) g s ps (p, q) = let x = held st h ps.1.1.0 in is_named q (shared_named h.serial (line st h) x.at x.serial (x.state ∙ not_not h.mutable ps.1.0))
  named_on n (Slice h first last a) g s ps (p, q) =
      let x = held st h ps.1.1.0 in
      is_named q (sliced_named st tb inv each k st' (ltb (begin first) (finish last (line st h).len)) h.serial (line st h) (begin first) (finish last (line st h).len - begin first) (claimed a (line st h)) x.at (x.state ∙ not_not h.mutable ps.1.0))
  named_on n (TryIntoMut h) g s ps (p, q) = let x = held st h ps.1.1.0 in is_named q (unfrozen_named st tb inv each k st' h.serial (line st h) (line st h).backing x.at x.serial refl ps.1.1.1.1.0)
  named_on n (IntoMut h) g s ps d =
      let x = held st h ps.1.1.0 in
      stays_named st tb inv each k st' (not (shared_by st (line st h))) (unfrozen st (line st h) (line st h).backing) g _ (λ f. unfrozen_named st tb inv each k st' h.serial (line st h) (line st h).backing x.at x.serial refl (not-true (shared_by st (line st h)) f))
      (copies_named st tb inv each k st' h.serial (line st h) (line st h).len (line st h).claim true _ g x.at x.serial) d
  named_on n (Aligned h a) g s ps d =
      let x = held st h ps.1.1.0 in
      stays_named st tb inv each k st' (is_aligned (line st h) a) (with_claim (line st h) a) g _ (λ f. quiet st tb inv each k h.serial (line st h) (with_claim (line st h) a) x.at x.serial refl (λ z. z)) (copies_named st tb inv each k st' h.serial (line st h) (line st h).len a false _ g x.at x.serial) d
  named_on n (EnsureAligned h a) g s ps (p, q) = let x = held st h ps.1.1.0 in is_named q (quiet st tb inv each k h.serial (line st h) (with_claim (line st h) a) x.at x.serial refl (λ z. z))
  named_on n (Read h) g s ps (p, q) = is_named q k
  named_on n (Release h) g s ps (m, w, p, q) = is_named q (end_named st tb inv each k m h.serial)
