-- When a request is granted, and at which place.
use Rattle.std.specs.Prelude.{◌≡◌, ℕ, zero, suc, ◌+◌, ◌-◌, ◌%◌, ◌<◌, ◌≤◌, max, Bool, true, false, ◌&&◌, List, [], ◌∷◌, ◌++◌, length, Some, None, Option, fold, MatchOption, nat_le, nat_lt, refl}
use Rattle.std.proofs.Common.{inl, inr, subst, arith, lit<}
use Rattle.std.proofs.lemmas.Bool.{and_from, and_left, and_right, and_parts, or_left, or_right, or_from, or_cases, ltb-true, lt-ltb, leb-true, le-leb, lt-leb, cases_eq, cases_lt, both_ways}
use Rattle.allocation.specs.declared.block.Block.{Block}
use Rattle.allocation.specs.declared.block.Request.{Request}
use Rattle.allocation.specs.Alignments.{round_up}
use Rattle.allocation.specs.Meaning.{Among, end_of}
use Rattle.allocation.proofs.Rounding.{round_up_low, round_up_high, round_up_multiple}
use Rattle.allocators.specs.Fitting.{fits, Fits, Lowest, some_below, grants_from, highest_end}
use Rattle.allocators.specs.Blocks.{fits_true, fits_from}

some_below_at : (t : ℕ → Bool) (n p : ℕ) → p < n → t p ≡ true → some_below t n ≡ true
some_below_at t zero p l h = absurd (omega arith)
some_below_at t (suc k) p l h =
    elim (cases_eq p k) [ inl e ↦ or_left _ _ (rw e at h) | inr e ↦ or_right (t k) _ (some_below_at t k p (omega arith) h) ]

some_below_none : (t : ℕ → Bool) (n : ℕ) → ((q : ℕ) → t q ≡ false) → some_below t n ≡ false
some_below_none t zero h = refl
some_below_none t (suc k) h = or_from _ _ (h k) (some_below_none t k h)

some_below_place : (t : ℕ → Bool) (n : ℕ) → some_below t n ≡ true → (p : ℕ) × (t p ≡ true)
some_below_place t zero h = absurd (both_ways false refl h)
some_below_place t (suc k) h = elim (or_cases (t k) (some_below t k) h) [ inl e ↦ (k, e) | inr e ↦ some_below_place t k e ]

module _ (base n : ℕ) (live : List Block) (start : ℕ) (r : Request) where
  pub granted : (p : ℕ) → length live < 64 → start ≤ p → Fits base n live r p → grants_from base n live start r ≡ true
  granted p free le f =
      and_from _ _ (lt-ltb _ _ free) (some_below_at (λ q. nat_le start q && fits base n live r q) n p (omega (arith, f.filled, f.within)) (and_from _ _ (le-leb _ _ le) (fits_from base n live r p f)))

  pub granted_only : grants_from base n live start r ≡ true → (length live < 64) × ((p : ℕ) × (start ≤ p) × Fits base n live r p)
  granted_only h =
      let p = and_parts (nat_lt (length live) 64) (some_below (λ q. nat_le start q && fits base n live r q) n) h in
      let q = some_below_place (λ q. nat_le start q && fits base n live r q) n p.1 in
      let s = and_parts (nat_le start q.0) (fits base n live r q.0) q.1 in
      (ltb-true _ _ p.0, (q.0, leb-true _ _ s.0, fits_true base n live r q.0 s.1))

  not_granted : ((q : ℕ) → start ≤ q → fits base n live r q ≡ false) → grants_from base n live start r ≡ false
  not_granted h =
      and_right _ _ (some_below_none (λ q. nat_le start q && fits base n live r q) n (λ q. elim (cases_lt q start) [ inl low ↦ and_left _ _ (lt-leb _ _ low) | inr high ↦ and_right _ _ (h q high) ]))

  -- what a search for the lowest place says of the rule
  grants_cases : (o : Option ℕ) → length live < 64
      → MatchOption o ((q : ℕ) → start ≤ q → fits base n live r q ≡ false) (λ p. (start ≤ p) × (fits base n live r p ≡ true) × ((q : ℕ) → start ≤ q → q < p → fits base n live r q ≡ false))
      → MatchOption o (grants_from base n live start r ≡ false) (λ p. (grants_from base n live start r ≡ true) × (length live < 64) × Lowest base n live start r p)
  grants_cases None free h = not_granted h
  grants_cases (Some p) free h =
      let f = fits_true base n live r p h.1 in (
        granted p free h.0 f,
        free,
        record {
          above = h.0;
          fitting = f;
          least = λ q high g. elim (cases_lt q p) [ inl below ↦ absurd (both_ways (fits base n live r q) (h.2 q high below) (fits_from base n live r q g)) | inr le ↦ le ];
        },
      )

  -- the same, with what the search was called on
  pub grants_found : (o : Option ℕ) (start' : ℕ) (r' : Request) → start' ≡ start → r' ≡ r → length live < 64
      → MatchOption o ((q : ℕ) → start' ≤ q → fits base n live r' q ≡ false) (λ p. (start' ≤ p) × (fits base n live r' p ≡ true) × ((q : ℕ) → start' ≤ q → q < p → fits base n live r' q ≡ false))
      → MatchOption o (grants_from base n live start r ≡ false) (λ p. (grants_from base n live start r ≡ true) × (length live < 64) × Lowest base n live start r p)
  grants_found o start' r' s e free h =
      let Search : ℕ → Request → Type 0 = λ k x. MatchOption o ((q : ℕ) → k ≤ q → fits base n live x q ≡ false) (λ p. (k ≤ p) × (fits base n live x p ≡ true) × ((q : ℕ) → k ≤ q → q < p → fits base n live x q ≡ false)) in
      grants_cases o free (subst (λ x. Search start x) e (subst (λ k. Search k r') s h))

-- a place below the alignment is a multiple of it
first_aligned : (base a : ℕ) → 0 < a → (p : ℕ) × (p < a) × ((base + p) % a ≡ 0)
first_aligned base a pos =
    let low = round_up_low base a in
    let high = round_up_high base a (omega arith) in
    let there : base + (round_up base a - base) ≡ round_up base a = omega arith in
    (round_up base a - base, omega arith, rw there (round_up_multiple base a (omega arith)))

pub empty_grants : (base n : ℕ) (r : Request) → 0 < r.align → 1 ≤ r.size → r.size + r.align - 1 ≤ n → grants_from base n [] 0 r ≡ true
unfolding Among
empty_grants base n r pos some le =
    let p = first_aligned base r.align pos in
    granted base n [] 0 r p.0 (lit< tt) (omega arith) (record { filled = some; within = omega arith; aligned = p.2; apart = λ c a. absurd a })

-- ---- the end of the highest block
pub highest_push : (xs : List Block) (b : Block) → highest_end (xs ++ b ∷ []) ≡ max (highest_end xs) (end_of b)
highest_push [] b = omega arith
highest_push (x ∷ xs) b = let h = highest_push xs b in omega arith

pub fold_highest : (a : ℕ) (xs : List Block) → fold (λ e b. max e (end_of b)) a xs ≡ max a (highest_end xs)
fold_highest a [] = omega arith
fold_highest a (x ∷ xs) = let h = fold_highest (max a (end_of x)) xs in omega arith

pub highest_within : (n : ℕ) (xs : List Block) → ((b : Block) → Among b xs → end_of b ≤ n) → highest_end xs ≤ n
unfolding Among
highest_within n [] h = omega arith
highest_within n (x ∷ xs) h =
    let here = h x (inl refl) in
    let rest = highest_within n xs (λ b a. h b (inr a)) in
    omega arith

pub highest_among : (xs : List Block) (b : Block) → Among b xs → end_of b ≤ highest_end xs
unfolding Among
highest_among [] b a = absurd a
highest_among (x ∷ xs) b (inl e) = let h : end_of x ≤ max (end_of x) (highest_end xs) = omega arith in subst (λ y. end_of y ≤ max (end_of x) (highest_end xs)) e h
highest_among (x ∷ xs) b (inr a) = let h = highest_among xs b a in omega arith
