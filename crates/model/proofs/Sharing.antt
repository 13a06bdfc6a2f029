-- Sharing a line, and taking its contents.
use Rattle.std.proofs.Common.{◌≡◌, ℕ, ◌+◌, ◌*◌, ◌≤◌, false, ◌⊎◌, ◌∷◌, length, Some, None, sym, refl, ap, ◌∙◌, subst, inl, inr, arith}
use Rattle.std.proofs.lemmas.Bool.{cases_eq}
use Rattle.allocation.specs.declared.block.Block.{Block}
use Rattle.allocation.specs.Meaning.{Among, Lawful}
use Rattle.model.specs.declared.line.Line.{Line}
use Rattle.model.specs.Book.{State, block_of, look_up, serial_of}
use Rattle.model.specs.Effects.{add_line, put_line, shared_with, with_backing, with_serial}
use Rattle.model.specs.Keyed.{Rising}
use Rattle.model.specs.Pedigree.{Row, Table, named, row}
use Rattle.model.proofs.Backings.{shared_with_block}
use Rattle.model.proofs.Fitting.{fits_like, sits_off, sits_on}
use Rattle.model.proofs.Invariant.{Fits, HasRow, Inv, Under}
use Rattle.model.proofs.Keeps.{branch_off, fit, own_share, recast}
use Rattle.model.proofs.Moves.{only_put, rows_none}
use Rattle.model.proofs.Shapes.{never, pin}

module _ (st : State) (tb : Table) (inv : Inv st tb) where
  pub share : (s : ℕ) (l : Line) (r : Row) → look_up s st ≡ Some l → l.serial ≡ s → l.mutable ≡ false → row s tb ≡ Some r
      → Inv (add_line (put_line st (with_backing l (shared_with st.next l.backing))) (with_serial (with_backing l (shared_with st.next l.backing)) st.next)) (named r st.next ∷ tb)
  unfolding named put_line
  share s l r e q mut re = branch_off (put_line st l₁) tb inv₁ s l₁ (with_serial l₁ st.next) (named r st.next) at₁ mut mut refl refl (λ C x. x) (like (with_serial l₁ st.next) (named r st.next) refl refl refl refl refl refl refl refl refl refl)
    where
      l₁ : Line
      l₁ = with_backing l (shared_with st.next l.backing)

      f : Fits st.meaning.base st.bytes l r
      f = fit st tb inv s l r e re

      like : (l' : Line) (r' : Row) → l'.kind ≡ l.kind → l'.backing ≡ l₁.backing → l'.start ≡ l.start → l'.len ≡ l.len → l'.claim ≡ l.claim → l'.capacity ≡ l.capacity → l'.mutable ≡ l.mutable → r'.kind ≡ r.kind → r'.block ≡ r.block → r'.list ≡ r.list
          → Fits st.meaning.base st.bytes l' r'
      like l' r' k b i c a p mm rk rb rl =
          fits_like st.meaning.base st.bytes l l' r r' f k (ap block_of b ∙ shared_with_block st.next l.backing) i c (subst (λ z. 1 ≤ z) (sym a) f.claims) rk rb rl
          (λ B x. let z = sits_on st.meaning.base l B x f.sits in let w : l'.start + l'.capacity * l.kind.width ≡ l.start + l.capacity * l.kind.width = (λ j. i j + p j * l.kind.width) in omega (arith, z.2))
          (λ x. p ∙ (sits_off st.meaning.base l x f.sits).1) (λ m. absurd (mathlib.Core.Bool.true≢false (sym m ∙ mm ∙ mut)))

      inv₁ : Inv (put_line st l₁) tb
      inv₁ = recast st tb inv s l l₁ r r tb e q (rows_none tb s r re) (shared_with_block st.next l.backing) (like l₁ r refl refl refl refl refl refl refl refl refl refl) (own_share st tb inv s l l₁ e refl)

      at₁ : look_up s (put_line st l₁) ≡ Some l₁
      at₁ = (only_put st.next st.lines s l l₁ inv.order e q).at

-- the line at s goes to the new serial n, and an empty one takes its place
module _ (st st' : State) (tb tb' : Table) (inv : Inv st tb) (s n : ℕ) (l l' l₀ : Line) (r' r₀ : Row)
    (meaning : st'.meaning ≡ st.meaning) (bytes : st'.bytes ≡ st.bytes) (order : Rising serial_of 0 st'.next st'.lines)
    (was : look_up s st ≡ Some l) (vacant : look_up n st ≡ None) (same_mutable : l'.mutable ≡ l.mutable) (same_block : block_of l'.backing ≡ block_of l.backing) (no_block : block_of l₀.backing ≡ None)
    (at_n : look_up n st' ≡ Some l') (at_s : look_up s st' ≡ Some l₀) (same_look_up : (t : ℕ) → (t ≡ n → ⊥) → (t ≡ s → ⊥) → look_up t st' ≡ look_up t st)
    (row_n : row n tb' ≡ Some r') (row_s : row s tb' ≡ Some r₀) (same_row : (t : ℕ) → (t ≡ n → ⊥) → (t ≡ s → ⊥) → row t tb' ≡ row t tb)
    (fits' : Fits st.meaning.base st.bytes l' r') (fits₀ : Fits st.meaning.base st.bytes l₀ r₀) where
  -- where a line on a block was before
  Origin : ℕ → Line → Block → Type 0
  Origin t m B = (t₀ : ℕ) × (m₀ : Line) × (look_up t₀ st ≡ Some m₀) × (block_of m₀.backing ≡ Some B) × (m.mutable ≡ m₀.mutable) × (((t ≡ n) × (t₀ ≡ s)) ⊎ ((t ≡ s → ⊥) × (t₀ ≡ t)))

  apart : (s ≡ n) → ⊥
  apart q = never vacant (ap (λ z. look_up z st) (sym q) ∙ was)

  origin : (t : ℕ) (m : Line) (B : Block) → look_up t st' ≡ Some m → block_of m.backing ≡ Some B → (t ≡ n) ⊎ (t ≡ n → ⊥) → (t ≡ s) ⊎ (t ≡ s → ⊥) → Origin t m B
  unfolding Origin
  origin t m B e b (inl p) c =
      let i : l' ≡ m = pin at_n (λ z. l' ≡ z) refl m (ap (λ z. look_up z st') (sym p) ∙ e) in
      (s, l, was, sym same_block ∙ ap (λ z. block_of z.backing) i ∙ b, ap (λ z. z.mutable) (sym i) ∙ same_mutable, inl (p, refl))
  origin t m B e b (inr p) (inl q) = absurd (never no_block (pin at_s (λ z. block_of l₀.backing ≡ block_of z.backing) refl m (ap (λ z. look_up z st') (sym q) ∙ e) ∙ b))
  origin t m B e b (inr p) (inr q) = (t, m, sym (same_look_up t p q) ∙ e, b, refl, inr (q, refl))

  spelled' : (t : ℕ) (m : Line) → look_up t st' ≡ Some m → (t ≡ n) ⊎ (t ≡ n → ⊥) → (t ≡ s) ⊎ (t ≡ s → ⊥) → HasRow st.meaning.base st.bytes m t tb'
  spelled' t m e (inl p) c = (r', ap (λ z. row z tb') p ∙ row_n, pin at_n (λ z. Fits st.meaning.base st.bytes z r') fits' m (ap (λ z. look_up z st') (sym p) ∙ e))
  spelled' t m e (inr p) (inl q) = (r₀, ap (λ z. row z tb') q ∙ row_s, pin at_s (λ z. Fits st.meaning.base st.bytes z r₀) fits₀ m (ap (λ z. look_up z st') (sym q) ∙ e))
  spelled' t m e (inr p) (inr q) = let h = inv.spelled t m (sym (same_look_up t p q) ∙ e) in (h.0, same_row t p q ∙ h.1, h.2)

  live' : (t : ℕ) (r : Row) → row t tb' ≡ Some r → (t ≡ n) ⊎ (t ≡ n → ⊥) → (t ≡ s) ⊎ (t ≡ s → ⊥) → (m : Line) × (look_up t st' ≡ Some m)
  live' t r e (inl p) c = (l', ap (λ z. look_up z st') p ∙ at_n)
  live' t r e (inr p) (inl q) = (l₀, ap (λ z. look_up z st') q ∙ at_s)
  live' t r e (inr p) (inr q) = let h = inv.live t r (sym (same_row t p q) ∙ e) in (h.0, same_look_up t p q ∙ h.1)

  used' : (B : Block) → Under st B → Under st' B
  used' B u = go (cases_eq u.0 s)
    where
      go : (u.0 ≡ s) ⊎ (u.0 ≡ s → ⊥) → Under st' B
      go (inl q) = (n, l', at_n, same_block ∙ pin was (λ z. block_of l.backing ≡ block_of z.backing) refl u.1 (ap (λ z. look_up z st) (sym q) ∙ u.2) ∙ u.3)
      go (inr q) = (u.0, u.1, same_look_up u.0 (λ p. never vacant (ap (λ z. look_up z st) (sym p) ∙ u.2)) q ∙ u.2, u.3)

  alone' : (a t : ℕ) (k m : Line) (B : Block) → (t ≡ a → ⊥) → Origin a k B → Origin t m B → k.mutable ≡ false
  unfolding Origin
  alone' a t k m B d o u = o.4 ∙ inv.alone o.0 u.0 o.1 u.1 B (differ o.5 u.5) o.2 u.2 o.3 u.3
    where
      differ : ((a ≡ n) × (o.0 ≡ s)) ⊎ ((a ≡ s → ⊥) × (o.0 ≡ a)) → ((t ≡ n) × (u.0 ≡ s)) ⊎ ((t ≡ s → ⊥) × (u.0 ≡ t)) → u.0 ≡ o.0 → ⊥
      differ (inl p) (inl q) z = d (q.0 ∙ sym p.0)
      differ (inl p) (inr q) z = q.0 (sym q.1 ∙ z ∙ p.1)
      differ (inr p) (inl q) z = p.0 (sym p.1 ∙ sym z ∙ q.1)
      differ (inr p) (inr q) z = d (sym q.1 ∙ z ∙ p.1)

  pub taken : Inv st' tb'
  unfolding Origin
  taken = record {
    law = subst Lawful (sym meaning) inv.law;
    long = ap length bytes ∙ inv.long ∙ ap (λ z. z.extent) (sym meaning);
    order = order;
    spelled = λ t m e. let h = spelled' t m e (cases_eq t n) (cases_eq t s) in (h.0, h.1, subst (λ z. Fits z.base st'.bytes m h.0) (sym meaning) (subst (λ z. Fits st.meaning.base z m h.0) (sym bytes) h.2));
    live = λ t r e. live' t r e (cases_eq t n) (cases_eq t s);
    held = λ t m B e b. let o = origin t m B e b (cases_eq t n) (cases_eq t s) in subst (λ z. Among B z.live) (sym meaning) (inv.held o.0 o.1 B o.2 o.3);
    used = λ B a. used' B (inv.used B (subst (λ z. Among B z.live) meaning a));
    alone = λ a t k m B d e f g h. alone' a t k m B d (origin a k B e g (cases_eq a n) (cases_eq a s)) (origin t m B f h (cases_eq t n) (cases_eq t s));
  }
