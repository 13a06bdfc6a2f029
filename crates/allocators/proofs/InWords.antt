-- The rules of General and Shelf in words.
use Rattle.std.proofs.Common.{◌≡◌, ℕ, zero, suc, ◌<◌, ◌≤◌, Bool, true, false, ◌&&◌, ◌||◌, eqb, ltb, leb, List, [], ◌∷◌, length, refl, ap, ◌∙◌, inl, inr, ⊎_elim, arith}
use Rattle.std.proofs.lemmas.Bool.{and_parts, and_from, or_cases, or_left, or_right, leb-true, le-leb, eqb-true, eq-eqb, cases_Bool, cases_lt, cases_eq, both_ways}
use Rattle.allocation.specs.declared.block.Block.{Block}
use Rattle.allocation.specs.declared.block.Request.{Request}
use Rattle.allocation.specs.Faults.{block_at, is_among}
use Rattle.allocation.specs.Meaning.{Among, end_of}
use Rattle.allocation.proofs.Tables.{among_true, among_from, none_among}
use Rattle.allocators.specs.Fitting.{lies, fits, some_below, grants_from, highest_end}
use Rattle.allocators.specs.Placings.{Placing, lowest, above_highest, may_grow, stays, meaning_by}
use Rattle.allocators.specs.Rules.{Granting, GeneralRule, Stays, ShelfRule}
use Rattle.allocators.specs.Blocks.{lies_true, lies_from, fits_true, fits_from}
use Rattle.allocators.specs.Grants.{granted, granted_only, highest_among}

-- the least number of which a test holds
least_below : (t : ℕ → Bool) (n : ℕ) → some_below t n ≡ true → (p : ℕ) × (t p ≡ true) × ((q : ℕ) → t q ≡ true → p ≤ q)
least_below t zero h = absurd (both_ways false refl h)
least_below t (suc k) h =
    elim (cases_Bool (some_below t k)) [
      | inl below ↦ least_below t k below
      | inr none ↦
          let here : t k ≡ true = elim (or_cases (t k) (some_below t k) h) [ inl e ↦ e | inr e ↦ absurd (both_ways (some_below t k) none e) ] in
          (k, here, λ q e. elim (cases_lt q k) [ inl l ↦ absurd (both_ways (some_below t k) none (some_at k q l e)) | inr le ↦ le ])
    ]
  where
    some_at : (n q : ℕ) → q < n → t q ≡ true → some_below t n ≡ true
    some_at zero q l e = absurd (omega arith)
    some_at (suc m) q l e = elim (cases_eq q m) [ inl same ↦ or_left _ _ (rw same at e) | inr other ↦ or_right (t m) _ (some_at m q (omega arith) e) ]

granting : (k : Placing) (base n : ℕ) (live : List Block) (r : Request) → Granting (meaning_by k base n live) (k.start live) r
granting k base n live r =
    let start = k.start live in
    let test : ℕ → Bool = λ p. leb start p && fits base n live r p in
    record {
      granted = (granted_only base n live start r, λ h. granted base n live start r h.1.0 h.0 h.1.1 h.1.2);
      lowest = λ h.
          let least = least_below test n (and_parts (ltb (length live) 64) (some_below test n) h).1 in
          let p = and_parts (leb start least.0) (fits base n live r least.0) least.1 in (
            least.0,
            record {
              above = leb-true _ _ p.0;
              fitting = fits_true base n live r least.0 p.1;
              least = λ q high f. least.2 q (and_from _ _ (le-leb _ _ high) (fits_from base n live r q f));
            },
          );
      one = λ p q f g. let a = f.least q g.above g.fitting in let b = g.least p f.above f.fitting in omega arith;
    }

may_parts : (live : List Block) (b : Block) (r : Request) (t : Bool) → (may_grow live b r && t) ≡ true → Among b live × (b.size ≤ r.size) × (t ≡ true)
may_parts live b r t h =
    let p = and_parts (may_grow live b r) t h in
    let q = and_parts (is_among b live) (leb b.size r.size) p.0 in
    (among_true b live q.0, leb-true _ _ q.1, p.1)

may_from : (live : List Block) (b : Block) (r : Request) (t : Bool) → Among b live → b.size ≤ r.size → t ≡ true → (may_grow live b r && t) ≡ true
may_from live b r t a le h = and_from _ _ (and_from _ _ (among_from b live a) (le-leb _ _ le)) h

pub general_holds : GeneralRule
general_holds base n live b r = (
  granting lowest base n live r,
  (may_parts live b r (grants_from base n live 0 r), λ h. may_from live b r (grants_from base n live 0 r) h.0 h.1 h.2),
)

reached_end : (live : List Block) (c : Block) → Among c live → (d : Block) × Among d live × (end_of d ≡ highest_end live)
unfolding Among
reached_end [] c a = absurd a
reached_end (x ∷ []) c a = (x, inl refl, omega arith)
reached_end (x ∷ (y ∷ ys)) c a =
    let rest = reached_end (y ∷ ys) y (inl refl) in
    elim (cases_lt (end_of x) (highest_end (y ∷ ys))) [
      | inl below ↦ (rest.0, inr rest.1, rest.2 ∙ omega arith)
      | inr above ↦ (x, inl refl, omega arith)
    ]

stays_true : (base n : ℕ) (live : List Block) (b : Block) (r : Request) → stays base n live b r ≡ true → Stays base n live b r
stays_true base n live b r h =
    let p = and_parts (eqb (end_of b) (highest_end live)) (lies base n (block_at b.place r)) h in
    let l = lies_true base n (block_at b.place r) p.1 in
    record { highest = eqb-true _ _ p.0; filled = l.some; within = l.within; aligned = l.aligned }

stays_from : (base n : ℕ) (live : List Block) (b : Block) (r : Request) → Stays base n live b r → stays base n live b r ≡ true
stays_from base n live b r s =
    and_from _ _ (eq-eqb _ _ s.highest) (lies_from base n (block_at b.place r) (record { some = s.filled; within = s.within; aligned = s.aligned }))

pub shelf_holds : ShelfRule
shelf_holds base n live b r =
    let grants = grants_from base n live (highest_end live) r in (
      record {
        above = highest_among live;
        reached = reached_end live;
        bottom = λ none. ap highest_end (none_among live none);
      },
      granting above_highest base n live r,
      (
        λ h.
            let p = may_parts live b r (stays base n live b r || grants) h in
            (p.0, p.1, ⊎_elim (λ s. inl (stays_true base n live b r s)) inr (or_cases (stays base n live b r) grants p.2)),
        λ h. may_from live b r (stays base n live b r || grants) h.0 h.1 (⊎_elim (λ s. or_left _ _ (stays_from base n live b r s)) (λ g. or_right (stays base n live b r) _ g) h.2),
      ),
    )
