-- Every run keeps the invariant: new stores have it, and every answer keeps it.
use Rattle.std.proofs.Common.{◌≡◌, ℕ, [], ◌∷◌, length, None, sym, ap, ◌∙◌, subst, inl, inr, arith}
use Rattle.allocation.specs.declared.block.Block.{Block}
use Rattle.allocation.specs.Meaning.{Among}
use Rattle.model.specs.Answers.{Answers}
use Rattle.model.specs.Book.{State, look_up, serial_of}
use Rattle.model.specs.Calls.{Answer, Call, granted, refused}
use Rattle.model.specs.Checks.{checks}
use Rattle.model.specs.Invariant.{KeptLine}
use Rattle.model.specs.Keyed.{All, Rising, find}
use Rattle.model.specs.Pedigree.{Table, feed, key_of, row}
use Rattle.model.specs.Runs.{In, New, Reached, Sound, Step, Store, World, here, next, start, there}
use Rattle.model.proofs.Calls.{keeps}
use Rattle.model.proofs.Checks.{passed}
use Rattle.model.proofs.Empties.{Named, named_on}
use Rattle.model.proofs.Invariant.{Inv}
use Rattle.model.proofs.Keyed.{find_nil}
use Rattle.model.proofs.Lines.{LinesKeep, kept_on}
use Rattle.model.proofs.Shapes.{never}

rising_none : (n : ℕ) → Rising serial_of 0 n []
unfolding Rising
rising_none n = tt

line_none : (st : State) (t : ℕ) → st.lines ≡ [] → look_up t st ≡ None
line_none st t e = ap (find serial_of t) e ∙ find_nil serial_of t

row_none : (tb : Table) (t : ℕ) → tb ≡ [] → row t tb ≡ None
unfolding row
row_none tb t e = ap (find key_of t) e ∙ find_nil key_of t

block_none : (B : Block) → Among B [] → ⊥
unfolding Among
block_none B a = a

-- a call, granted or refused
pub answered : (st : State) (tb : Table) → Inv st tb → LinesKeep st → (extent : ℕ) (c : Call) (a : Answer) (st' : State) → Sound c → Answers st extent c a st' → Inv st' (feed tb c a)
answered st tb inv each extent c (refused n) st' s (p, q) = subst (λ z. Inv z tb) (sym q) inv
answered st tb inv each extent c (granted g) st' s (p, d) = keeps st tb inv each st' extent c g s (passed (checks st extent c) p) d

abbrev pub InvOf : Store → Type 0
InvOf s = Inv s.state s.table

abbrev pub Holds : Store → Type 0
Holds s = InvOf s × LinesKeep s.state × Named s.state

new_inv : (s : Store) → New s → InvOf s
new_inv s n = record {
  law = n.lawful;
  long = n.fits;
  order = subst (Rising serial_of 0 s.state.next) (sym n.lines) (rising_none s.state.next);
  spelled = λ t l e. absurd (never (line_none s.state t n.lines) e);
  live = λ t r e. absurd (never (row_none s.table t n.rows) e);
  held = λ t l B e b. absurd (never (line_none s.state t n.lines) e);
  used = λ B a. absurd (block_none B (subst (Among B) n.vacant a));
  alone = λ a t l m B d e f g h. absurd (never (line_none s.state a n.lines) e);
}

new_lines : (s : Store) → New s → LinesKeep s.state
new_lines s n = (subst (All KeptLine) (sym n.lines) tt, record { begun = omega (arith, n.first); unspent = omega (arith, n.first); few = omega (arith, ap length n.lines) })

new_named : (s : Store) → New s → Named s.state
new_named s n = record { below = λ t l e. absurd (never (line_none s.state t n.lines) e); alone = λ a t l m d e f h q. absurd (never (line_none s.state a n.lines) e) }

all_new : (w : World) → All New w → All Holds w
all_new [] n = tt
all_new (s ∷ ss) n = ((new_inv s n.0, new_lines s n.0, new_named s n.0), all_new ss n.1)

pub holds_in : (w : World) → All Holds w → (s : Store) → In s w → Holds s
holds_in [] g s i = absurd i
holds_in (x ∷ xs) g s (inl e) = subst Holds e g.0
holds_in (x ∷ xs) g s (inr i) = holds_in xs g.1 s i

pub lines_answered : (st : State) → LinesKeep st → (extent : ℕ) (c : Call) (a : Answer) (st' : State) → Sound c → Answers st extent c a st' → LinesKeep st'
lines_answered st e extent c (refused n) st' s (p, q) = subst LinesKeep (sym q) e
lines_answered st e extent c (granted g) st' s (p, d) = kept_on st e st' extent c g s (passed (checks st extent c) p) d

named_answered : (st : State) (tb : Table) → Inv st tb → LinesKeep st → Named st → (extent : ℕ) (c : Call) (a : Answer) (st' : State) → Sound c → Answers st extent c a st' → Named st'
named_answered st tb inv each k extent c (refused n) st' s (p, q) = subst Named (sym q) k
named_answered st tb inv each k extent c (granted g) st' s (p, d) = named_on st tb inv each k st' extent c g s (passed (checks st extent c) p) d

stepped : (w w' : World) → Step w w' → All Holds w → All Holds w'
stepped w w' (here {s = s} extent c a st' k x) g = ((answered s.state s.table g.0.0 g.0.1 extent c a st' k x, lines_answered s.state g.0.1 extent c a st' k x, named_answered s.state s.table g.0.0 g.0.1 g.0.2 extent c a st' k x), g.1)
stepped w w' (there {ss = ss} {ss' = ss'} x) g = (g.0, stepped ss ss' x g.1)

pub reached_holds : (w : World) → Reached w → All Holds w
reached_holds w (start n d) = all_new w n
reached_holds w (next {w = v} r x) = stepped v w x (reached_holds v r)

pub inv_at : (w : World) → Reached w → (s : Store) → In s w → InvOf s
inv_at w r s i = (holds_in w (reached_holds w r) s i).0
