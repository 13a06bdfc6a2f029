-- The tests on blocks as facts, and lists of blocks that share no byte.
use Rattle.std.specs.Prelude.{◌≡◌, ℕ, zero, suc, ◌+◌, ◌%◌, ◌<◌, ◌≤◌, Bool, true, false, cond, ◌&&◌, ◌⊎◌, ◌↔◌, List, [], ◌∷◌, ◌++◌, length, get_or, ◌==◌, ◌≢◌, nat_le, nat_lt, slice_index_or, Some, None}
use Rattle.std.proofs.Math.Logic.{inl, inr, ⊎_elim}
use Rattle.std.proofs.Math.Path.{refl, sym, subst}
use Rattle.std.proofs.Common.{ap, ◌∙◌, arith}
use Rattle.std.specs.List.{remove, position, position_or_len}
use Rattle.std.proofs.lemmas.List.Quantifiers.{position-Some}
use Rattle.std.proofs.lemmas.List.Folds.{list_any-append, list_any_at, list_any_none}
use Rattle.std.proofs.lemmas.List.Sums.{fails_before_first}
use Rattle.std.proofs.lemmas.Bool.{and_parts, and_from, or_cases, or_left, or_right, or_from, or_parts, leb-true, leb-false, ltb-true, eqb-true, le-leb, lt-ltb, eq-eqb, cases_Bool, cases_lt, cond_both, both_ways}
use Rattle.allocation.specs.declared.block.Block.{Block}
use Rattle.allocation.specs.declared.block.Request.{Request}
use Rattle.allocation.specs.Faults.{block_at, same_block, is_among}
use Rattle.allocation.specs.Meaning.{Among, Apart, end_of}
use Rattle.allocation.proofs.Tables.{same_block_refl, same_block_is, among_true}
use Rattle.allocators.specs.Fitting.{clear, lies, clear_of, sound, fits, Fits}
use Rattle.allocators.specs.Placings.{may_grow}
use Rattle.allocators.specs.Tables.{without, no_block}

pub record Lies (base n : ℕ) (b : Block) : Type 0 where
  pub some : 1 ≤ b.size
  pub within : end_of b ≤ n
  pub aligned : (base + b.place) % b.align ≡ 0

pub lies_true : (base n : ℕ) (b : Block) → lies base n b ≡ true → Lies base n b
lies_true base n b h =
    let p = and_parts (nat_lt 0 b.size && nat_le (end_of b) n) ((base + b.place) % b.align == 0) h in
    let q = and_parts (nat_lt 0 b.size) (nat_le (end_of b) n) p.0 in
    let some' = ltb-true _ _ q.0 in
    record { some = omega arith; within = leb-true _ _ q.1; aligned = eqb-true _ _ p.1 }

pub lies_from : (base n : ℕ) (b : Block) → Lies base n b → lies base n b ≡ true
lies_from base n b h =
    and_from _ _ (and_from _ _ (lt-ltb 0 b.size (omega (arith, h.some))) (le-leb _ _ h.within)) (eq-eqb _ _ h.aligned)

pub clear_true : (b c : Block) → clear b c ≡ true → Apart b c
clear_true b c h =
    elim (or_cases (nat_le (end_of b) c.place) (nat_le (end_of c) b.place) h) [ inl e ↦ inl (leb-true _ _ e) | inr e ↦ inr (leb-true _ _ e) ]

pub clear_from : (b c : Block) → Apart b c → clear b c ≡ true
clear_from b c (inl h) = or_left _ _ (le-leb _ _ h)
clear_from b c (inr h) = or_right _ _ (le-leb _ _ h)

pub clear_of_among : (b : Block) (xs : List Block) → clear_of b xs ≡ true → (c : Block) → Among c xs → Apart b c
unfolding Among
clear_of_among b [] h c a = absurd a
clear_of_among b (x ∷ xs) h c (inl e) = subst (λ y. Apart b y) e (clear_true b x (and_parts _ _ h).0)
clear_of_among b (x ∷ xs) h c (inr a) = clear_of_among b xs (and_parts (clear b x) (clear_of b xs) h).1 c a

pub clear_of_from : (b : Block) (xs : List Block) → ((c : Block) → Among c xs → Apart b c) → clear_of b xs ≡ true
unfolding Among
clear_of_from b [] h = refl
clear_of_from b (x ∷ xs) h = and_from _ _ (clear_from b x (h x (inl refl))) (clear_of_from b xs (λ c a. h c (inr a)))

clear_of_at : (b : Block) (xs : List Block) (i : ℕ) (d : Block) → clear_of b xs ≡ true → i < length xs → Apart b (slice_index_or xs i d)
clear_of_at b [] i d h l = absurd (omega arith)
clear_of_at b (c ∷ cs) zero d h l = clear_true b c (and_parts _ _ h).0
clear_of_at b (c ∷ cs) (suc i) d h l = clear_of_at b cs i d (and_parts _ _ h).1 (omega arith)

pub clear_of_push : (b : Block) (xs : List Block) (c : Block) → clear_of b xs ≡ true → clear b c ≡ true → clear_of b (xs ++ c ∷ []) ≡ true
clear_of_push b [] c h k = and_from _ _ k refl
clear_of_push b (x ∷ xs) c h k = and_from _ _ (and_parts _ _ h).0 (clear_of_push b xs c (and_parts _ _ h).1 k)

-- a block that holds a byte shares it with itself
not_clear : (b : Block) → 1 ≤ b.size → Apart b b → ⊥
not_clear b some h = elim h [ inl e ↦ omega arith | inr e ↦ omega arith ]

pub fits_true : (base n : ℕ) (live : List Block) (r : Request) (p : ℕ) → fits base n live r p ≡ true → Fits base n live r p
fits_true base n live r p h =
    let q = and_parts (lies base n (block_at p r)) (clear_of (block_at p r) live) h in
    let l = lies_true base n (block_at p r) q.0 in
    record { filled = l.some; within = l.within; aligned = l.aligned; apart = clear_of_among (block_at p r) live q.1 }

pub fits_lies : (base n : ℕ) (live : List Block) (r : Request) (p : ℕ) → Fits base n live r p → lies base n (block_at p r) ≡ true
fits_lies base n live r p f = lies_from base n (block_at p r) (record { some = f.filled; within = f.within; aligned = f.aligned })

pub fits_from : (base n : ℕ) (live : List Block) (r : Request) (p : ℕ) → Fits base n live r p → fits base n live r p ≡ true
fits_from base n live r p f = and_from _ _ (fits_lies base n live r p f) (clear_of_from (block_at p r) live f.apart)

module _ (base n : ℕ) where
  sound_parts : (x : Block) (xs : List Block) → sound base n (x ∷ xs) ≡ true → (lies base n x ≡ true) × (clear_of x xs ≡ true) × (sound base n xs ≡ true)
  sound_parts x xs h =
      let p = and_parts (lies base n x && clear_of x xs) (sound base n xs) h in
      let q = and_parts (lies base n x) (clear_of x xs) p.0 in
      (q.0, q.1, p.1)

  pub sound_at : (xs : List Block) (i : ℕ) (d : Block) → sound base n xs ≡ true → i < length xs → Lies base n (slice_index_or xs i d)
  sound_at [] i d h l = absurd (omega arith)
  sound_at (c ∷ cs) zero d h l = lies_true base n c (sound_parts c cs h).0
  sound_at (c ∷ cs) (suc i) d h l = sound_at cs i d (sound_parts c cs h).2 (omega arith)

  pub sound_among : (xs : List Block) → sound base n xs ≡ true → (b : Block) → Among b xs → Lies base n b
  unfolding Among
  sound_among [] h b a = absurd a
  sound_among (x ∷ xs) h b (inl e) = subst (Lies base n) e (lies_true base n x (sound_parts x xs h).0)
  sound_among (x ∷ xs) h b (inr a) = sound_among xs (sound_parts x xs h).2 b a

  pub sound_apart : (xs : List Block) → sound base n xs ≡ true → (b c : Block) → Among b xs → Among c xs → (b ≢ c) → Apart b c
  unfolding Among
  sound_apart [] h b c a d ne = absurd a
  sound_apart (x ∷ xs) h b c (inl p) (inl q) ne = absurd (ne (sym p ∙ q))
  sound_apart (x ∷ xs) h b c (inl p) (inr d) ne = subst (λ y. Apart y c) p (clear_of_among x xs (sound_parts x xs h).1 c d)
  sound_apart (x ∷ xs) h b c (inr a) (inl q) ne = subst (λ y. Apart b y) q (⊎_elim inr inl (clear_of_among x xs (sound_parts x xs h).1 b a))
  sound_apart (x ∷ xs) h b c (inr a) (inr d) ne = sound_apart xs (sound_parts x xs h).2 b c a d ne

  -- no block stands twice in a sound list
  sound_once : (x : Block) (xs : List Block) → sound base n (x ∷ xs) ≡ true → Among x xs → ⊥
  sound_once x xs h a =
      let p = sound_parts x xs h in
      not_clear x (lies_true base n x p.0).some (clear_of_among x xs p.1 x a)

  -- a block that shares no byte with a sound list makes it longer
  pub sound_push : (xs : List Block) (b : Block) → sound base n xs ≡ true → lies base n b ≡ true → clear_of b xs ≡ true → sound base n (xs ++ b ∷ []) ≡ true
  sound_push [] b h l k = and_from _ _ (and_from _ _ l refl) refl
  sound_push (x ∷ xs) b h l k =
      let p = sound_parts x xs h in
      let r = and_parts (clear b x) (clear_of b xs) k in
      let swapped : clear x b ≡ true = clear_from x b (⊎_elim inr inl (clear_true b x r.0)) in
      and_from _ _ (and_from _ _ p.0 (clear_of_push x xs b p.1 swapped)) (sound_push xs b p.2 l r.1)

  clear_of_without : (c : Block) (xs : List Block) (b : Block) → clear_of c xs ≡ true → clear_of c (without xs b) ≡ true
  clear_of_without c [] b h = refl
  clear_of_without c (x ∷ xs) b h =
      let p = and_parts (clear c x) (clear_of c xs) h in
      cond_both (same_block x b) xs (x ∷ without xs b) (λ ys. clear_of c ys ≡ true) (λ e. p.1) (λ e. and_from _ _ p.0 (clear_of_without c xs b p.1))

  pub sound_without : (xs : List Block) (b : Block) → sound base n xs ≡ true → sound base n (without xs b) ≡ true
  sound_without [] b h = refl
  sound_without (x ∷ xs) b h =
      let p = sound_parts x xs h in
      cond_both (same_block x b) xs (x ∷ without xs b) (λ ys. sound base n ys ≡ true) (λ e. p.2)
      (λ e. and_from _ _ (and_from _ _ p.0 (clear_of_without x xs b p.1)) (sound_without xs b p.2))

  pub among_without : (c b : Block) (xs : List Block) → sound base n xs ≡ true → Among c (without xs b) ↔ (Among c xs × (c ≢ b))
  unfolding Among
  among_without c b [] h = (λ a. absurd a, λ a. a.0)
  among_without c b (x ∷ xs) h = go (same_block x b) refl (among_without c b xs (sound_parts x xs h).2)
    where
      go : (t : Bool) → same_block x b ≡ t → Among c (without xs b) ↔ (Among c xs × (c ≢ b)) → Among c (cond t xs (x ∷ without xs b)) ↔ (((x ≡ c) ⊎ Among c xs) × (c ≢ b))
      go true q ih =
          let i : x ≡ b = same_block_is x b q in (
            λ a. (inr a, λ j. sound_once x xs h (subst (λ y. Among y xs) (j ∙ sym i) a)),
            λ a. ⊎_elim (λ j. absurd (a.1 (sym j ∙ i))) (λ t. t) a.0,
          )
      go false q ih = (
        ⊎_elim (λ j. (inl j, λ k. both_ways (same_block x b) q (subst (λ y. same_block x y ≡ true) (j ∙ k) (same_block_refl x)))) (λ a. let t = ih.0 a in (inr t.0, t.1)),
        λ a. ⊎_elim inl (λ t. inr (ih.1 (t, a.1))) a.0,
      )

  -- a block that may grow lies in the region
  pub may_grow_within : (xs : List Block) (b : Block) (r : Request) → sound base n xs ≡ true → may_grow xs b r ≡ true → end_of b ≤ n
  may_grow_within xs b r h m = (sound_among xs h b (among_true b xs (and_parts (is_among b xs) (nat_le b.size r.size) m).0)).within

-- what fits at q, above a place p that a live block is in the way of, lies behind that block
pub behind : (base n : ℕ) (live : List Block) (r : Request) (p q i : ℕ) (d : Block) → fits base n live r q ≡ true → i < length live → p ≤ q → (get_or live i d).place < p + r.size → (end_of (slice_index_or live i d) ≤ q) × ((base + q) % r.align ≡ 0)
behind base n live r p q i d h l le k =
    let f = and_parts (lies base n (block_at q r)) (clear_of (block_at q r) live) h in (
      elim (clear_of_at (block_at q r) live i d f.1 l) [ inl e ↦ absurd (omega arith) | inr e ↦ e ],
      (lies_true base n (block_at q r) f.0).aligned,
    )

pub not_clear_place : (b c : Block) → clear b c ≡ false → (c.place < end_of b) × (b.place < end_of c)
not_clear_place b c h =
    let p = or_parts (nat_le (end_of b) c.place) (nat_le (end_of c) b.place) h in
    (leb-false _ _ p.0, leb-false _ _ p.1)

-- ---- looking for a block in a list
pub is_among_more : (xs : List Block) (c b : Block) → is_among b xs ≡ false → same_block c b ≡ false → is_among b (xs ++ c ∷ []) ≡ false
is_among_more xs c b h k = list_any-append (λ x. same_block x b) xs (c ∷ []) ∙ or_from _ _ h (or_from _ _ k refl)

pub is_among_at : (xs : List Block) (i : ℕ) (b : Block) → i < length xs → same_block (slice_index_or xs i no_block) b ≡ true → is_among b xs ≡ true
is_among_at xs i b l h = list_any_at (λ c. same_block c b) xs i no_block l h

pub found_among : (xs : List Block) (i : ℕ) (b : Block) → position (λ c. same_block c b) xs ≡ Some i → is_among b xs ≡ true
found_among xs i b h = let p = position-Some (λ c. same_block c b) xs i no_block h in is_among_at xs i b p.0 p.1

pub missing_among : (xs : List Block) (b : Block) → position (λ c. same_block c b) xs ≡ None → is_among b xs ≡ false
missing_among xs b h =
    let same : Block → Bool = λ c. same_block c b in
    let i = position_or_len same xs in
    elim (cases_lt i (length xs)) [
      | inl below ↦ let e = rw (lt-ltb i (length xs) below) at h in cc
      | inr above ↦ list_any_none same xs (λ k d l. fails_before_first same xs k d (omega arith))
    ]

-- ---- taking a block out of a list
without_at : (xs : List Block) (i : ℕ) (b : Block) → i < length xs → same_block (get_or xs i no_block) b ≡ true → ((k : ℕ) → k < i → same_block (get_or xs k no_block) b ≡ false) → without xs b ≡ remove xs i
without_at [] i b l here before = absurd (omega arith)
without_at (x ∷ xs) zero b l here before = rw here
without_at (x ∷ xs) (suc i) b l here before =
    rw (before 0 (omega arith)) (ap (λ ys. x ∷ ys) (without_at xs i b (omega arith) here (λ k h. before (suc k) (omega arith))))

pub without_none : (xs : List Block) (b : Block) → is_among b xs ≡ false → without xs b ≡ xs
without_none [] b h = refl
without_none (x ∷ xs) b h = let p = or_parts (same_block x b) (is_among b xs) h in rw p.0 (ap (λ ys. x ∷ ys) (without_none xs b p.1))

-- a block that was looked for by its first index
pub without_found : (xs : List Block) (b : Block) (i : ℕ) → position (λ c. same_block c b) xs ≡ Some i → without xs b ≡ remove xs i
without_found xs b i h = let p = position-Some (λ c. same_block c b) xs i no_block h in without_at xs i b p.0 p.1 p.2

pub without_missing : (xs : List Block) (b : Block) → position (λ c. same_block c b) xs ≡ None → without xs b ≡ xs
without_missing xs b h = without_none xs b (missing_among xs b h)

pub without_length : (xs : List Block) (b : Block) → is_among b xs ≡ true → length (without xs b) + 1 ≡ length xs
without_length [] b h = absurd (both_ways false refl h)
without_length (x ∷ xs) b h =
    elim (cases_Bool (same_block x b)) [
      | inl same ↦ rw same (omega arith)
      | inr other ↦
          let rest : is_among b xs ≡ true = elim (or_cases (same_block x b) (is_among b xs) h) [ inl e ↦ absurd (both_ways (same_block x b) other e) | inr e ↦ e ] in
          let ih = without_length xs b rest in
          rw other (omega arith)
    ]
