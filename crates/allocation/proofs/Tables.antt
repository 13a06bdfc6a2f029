-- Blocks in a list: what an allocator that keeps its live blocks in one shows of them.
use Rattle.std.proofs.Common.{◌≡◌, true, false, ◌&&◌, eqb, ◌⊎◌, ◌↔◌, List, [], ◌∷◌, ◌++◌, sym, refl, subst, inl, inr, ⊎_elim}
use Rattle.std.proofs.lemmas.Bool.{and_parts, and_from, or_cases, or_left, or_right, eqb-true, eq-eqb, cases_Bool, both_ways}
use Rattle.allocation.specs.declared.block.Block.{Block}
use Rattle.allocation.specs.Faults.{same_block, is_among}
use Rattle.allocation.specs.Meaning.{Among}

pub same_block_refl : (b : Block) → same_block b b ≡ true
same_block_refl b = and_from _ _ (eq-eqb b.place b.place refl) (and_from _ _ (eq-eqb b.size b.size refl) (eq-eqb b.align b.align refl))

pub same_block_is : (b c : Block) → same_block b c ≡ true → b ≡ c
same_block_is b c h =
    let p = and_parts (eqb b.place c.place) (eqb b.size c.size && eqb b.align c.align) h in
    let q = and_parts (eqb b.size c.size) (eqb b.align c.align) p.1 in
    let place = eqb-true b.place c.place p.0 in
    let size = eqb-true b.size c.size q.0 in
    let align = eqb-true b.align c.align q.1 in
    let e : ◌≡◌ {A = Block} (record { place = b.place; size = b.size; align = b.align }) (record { place = c.place; size = c.size; align = c.align }) = cc in e

pub cases_block : (b c : Block) → (b ≡ c) ⊎ (b ≡ c → ⊥)
cases_block b c =
    elim (cases_Bool (same_block b c)) [
      | inl same ↦ inl (same_block_is b c same)
      | inr other ↦ inr (λ e. both_ways (same_block b c) other (subst (λ x. same_block b x ≡ true) e (same_block_refl b)))
    ]

pub among_true : (b : Block) (xs : List Block) → is_among b xs ≡ true → Among b xs
unfolding Among
among_true b [] h = both_ways false refl h
among_true b (x ∷ xs) h = elim (or_cases (same_block x b) (is_among b xs) h) [ inl e ↦ inl (same_block_is x b e) | inr e ↦ inr (among_true b xs e) ]

pub among_from : (b : Block) (xs : List Block) → Among b xs → is_among b xs ≡ true
unfolding Among
among_from b [] a = absurd a
among_from b (x ∷ xs) (inl e) = or_left _ _ (subst (λ y. same_block x y ≡ true) e (same_block_refl x))
among_from b (x ∷ xs) (inr a) = or_right _ _ (among_from b xs a)

-- a list of no block
pub none_among : (xs : List Block) → ((b : Block) → Among b xs → ⊥) → xs ≡ []
unfolding Among
none_among [] h = refl
none_among (x ∷ xs) h = absurd (h x (inl refl))

-- one block more at the end
pub among_snoc : (c b : Block) (xs : List Block) → Among c (xs ++ (b ∷ [])) ↔ ((c ≡ b) ⊎ Among c xs)
unfolding Among
among_snoc c b [] = (⊎_elim (λ e. inl (sym e)) (λ a. absurd a), ⊎_elim (λ e. inl (sym e)) (λ a. absurd a))
among_snoc c b (x ∷ xs) =
    let ih = among_snoc c b xs in (
      ⊎_elim (λ e. inr (inl e)) (λ a. ⊎_elim inl (λ t. inr (inr t)) (ih.0 a)),
      ⊎_elim (λ e. inr (ih.1 (inl e))) (⊎_elim inl (λ a. inr (ih.1 (inr a)))),
    )
