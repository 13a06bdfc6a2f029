-- The laws of what General and Shelf mean, and what each operation makes of it, for both ways to choose places.
use Rattle.std.specs.Prelude.{◌≡◌, ℕ, ◌+◌, ◌-◌, ◌<◌, ◌≤◌, true, false, ◌⊎◌, ◌↔◌, List, [], ◌∷◌, ◌++◌, length, ◌==◌, ◌≢◌, nat_le, refl}
use Rattle.std.proofs.Common.{inl, inr, ⊎_elim, sym, subst, arith, pow_pos}
use Rattle.std.proofs.lemmas.Bool.{and_parts, and_from, or_right, leb-true, le-leb, eqb-true, cases_Bool, both_ways}
use Rattle.region.specs.Bytes.{part, overwrite, Outside}
use Rattle.region.proofs.Writes.{length_part}
use Rattle.region.proofs.Copies.{part_overwrite, outside_overwrite}
use Rattle.allocation.specs.declared.block.Block.{Block}
use Rattle.allocation.specs.declared.block.Request.{Request}
use Rattle.allocation.specs.Faults.{block_at, is_among}
use Rattle.allocation.specs.Meaning.{Lawful, Allocates, Frees, Grows, Among, Valid, end_of}
use Rattle.allocation.proofs.Tables.{cases_block, among_true, among_from, none_among, among_snoc}
use Rattle.allocators.specs.Fitting.{lies, sound, Fits, grants_from, highest_end}
use Rattle.allocators.specs.Placings.{Placing, Free, Fair, lowest, above_highest, may_grow, meaning_by, Regrown}
use Rattle.allocators.specs.Tables.{without}
use Rattle.allocators.specs.Blocks.{lies_true, fits_lies, clear_of_among, clear_of_from, sound_among, sound_apart, sound_push, sound_without, among_without}
use Rattle.allocators.specs.Grants.{empty_grants, highest_among}

first_grant : (k : Placing) → Fair k → (base n : ℕ) (xs : List Block) → xs ≡ [] → (r : Request) → Valid r → 1 ≤ r.size → r.size + r.align - 1 ≤ n → grants_from base n xs (k.start xs) r ≡ true
first_grant k fair base n xs e r valid some le =
    let pos : 0 < r.align = subst (λ x. 0 < x) (sym valid.0.2) (pow_pos valid.0.0) in
    subst (λ ys. grants_from base n ys (k.start ys) r ≡ true) (sym e) (subst (λ s. grants_from base n [] s r ≡ true) (sym fair.bottom) (empty_grants base n r pos some le))

pub lowest_fair : Fair lowest
lowest_fair = record { bottom = refl; room = λ base n xs ok b r live h. absurd (both_ways false refl h) }

-- where the highest block stands, none is in the way behind it
pub above_highest_fair : Fair above_highest
above_highest_fair =
    record {
      bottom = refl;
      room = λ base n xs ok b r live h.
          let q = and_parts (end_of b == highest_end xs) (lies base n (block_at b.place r)) h in
          let top = eqb-true (end_of b) (highest_end xs) q.0 in
          record {
            inside = q.1;
            clear = clear_of_from (block_at b.place r) (without xs b) (λ c a.
                let w = (among_without base n c b xs ok).0 a in
                let low = highest_among xs c w.0 in
                let some = (sound_among base n xs ok c w.0).some in
                elim (sound_apart base n xs ok c b w.0 live w.1) [ inl below ↦ inr (omega arith) | inr above ↦ absurd (omega arith) ]);
          };
    }

module _ (base n : ℕ) (xs : List Block) (ok : sound base n xs ≡ true) where
  pub sound_added : (r : Request) (p : ℕ) → Fits base n xs r p → (ys : List Block) → ys ≡ xs ++ block_at p r ∷ [] → sound base n ys ≡ true
  sound_added r p f ys e = rw e (sound_push base n xs (block_at p r) ok (fits_lies base n xs r p f) (clear_of_from (block_at p r) xs f.apart))

  pub sound_regrown : (b d : Block) → Free base n xs b d → (ys : List Block) → ys ≡ without xs b ++ d ∷ [] → sound base n ys ≡ true
  sound_regrown b d f ys e = rw e (sound_push base n (without xs b) d (sound_without base n xs b ok) f.inside f.clear)

  -- where the lowest place is
  fits_free : (b : Block) (r : Request) (p : ℕ) → Fits base n xs r p → Free base n xs b (block_at p r)
  fits_free b r p f =
      record {
        inside = fits_lies base n xs r p f;
        clear = clear_of_from (block_at p r) (without xs b) (λ c a. f.apart c ((among_without base n c b xs ok).0 a).0);
      }

  -- the place of a block that was grown
  pub regrown_free : (k : Placing) → Fair k → (b : Block) (r : Request) (p : ℕ) → may_grow xs b r ≡ true → Regrown k base n xs b r p → Free base n xs b (block_at p r)
  regrown_free k fair b r p may g =
      let live = among_true b xs (and_parts (is_among b xs) (nat_le b.size r.size) may).0 in
      elim (cases_Bool (k.staying base n xs b r)) [
        | inl stay ↦ subst (λ q. Free base n xs b (block_at q r)) (sym (g.stayed stay)) (fair.room base n xs ok b r live stay)
        | inr move ↦ fits_free b r p (g.moved move).fitting
      ]

  -- both parts that a growth moves bytes between lie in the region
  pub regrown_within : (b : Block) (r : Request) (p : ℕ) → may_grow xs b r ≡ true → Free base n xs b (block_at p r) → (end_of b ≤ n) × (p + b.size ≤ n) × (b.size ≤ r.size)
  regrown_within b r p may f =
      let q = and_parts (is_among b xs) (nat_le b.size r.size) may in
      let old = sound_among base n xs ok b (among_true b xs q.0) in
      let new = lies_true base n (block_at p r) f.inside in
      let le = leb-true b.size r.size q.1 in
      (old.within, omega arith, le)

  module _ (k : Placing) (fair : Fair k) (long : 1024 ≤ n) where
    pub lawful_by : Lawful (meaning_by k base n xs)
    lawful_by =
        record {
          roomy = long;
          filled = λ b a. (sound_among base n xs ok b a).some;
          within = λ b a. (sound_among base n xs ok b a).within;
          aligned = λ b a. (sound_among base n xs ok b a).aligned;
          apart = sound_apart base n xs ok;
          first = λ none. first_grant k fair base n xs (none_among xs none);
          growth = λ b r a valid le g. and_from _ _ (and_from _ _ (among_from b xs a) (le-leb _ _ le)) (or_right _ _ g);
        }

-- What each operation makes of the meaning.
module _ (k : Placing) (fair : Fair k) (base n : ℕ) (long : 1024 ≤ n) (xs : List Block) (ok : sound base n xs ≡ true) (ys : List Block) where
  pub allocates : (r : Request) (p : ℕ) → Fits base n xs r p → ys ≡ xs ++ block_at p r ∷ [] → Allocates (meaning_by k base n xs) r (block_at p r) (meaning_by k base n ys)
  allocates r p f e =
      record {
        fixed = record { base = refl; extent = refl; room = refl; copies = refl };
        lawful = lawful_by base n ys (sound_added base n xs ok r p f ys e) k fair long;
        size = refl;
        align = refl;
        new = λ a. elim (f.apart (block_at p r) a) [ inl h ↦ omega (arith, f.filled) | inr h ↦ omega (arith, f.filled) ];
        live = λ c. subst (λ zs. Among c zs ↔ ((c ≡ block_at p r) ⊎ Among c xs)) (sym e) (among_snoc c (block_at p r) xs);
      }

  pub frees : (b : Block) → ys ≡ without xs b → Frees (meaning_by k base n xs) b (meaning_by k base n ys)
  frees b e =
      record {
        fixed = record { base = refl; extent = refl; room = refl; copies = refl };
        lawful = lawful_by base n ys (subst (λ zs. sound base n zs ≡ true) (sym e) (sound_without base n xs b ok)) k fair long;
        live = λ c. subst (λ zs. Among c zs ↔ (Among c xs × (c ≢ b))) (sym e) (among_without base n c b xs ok);
      }

  pub grows_by : (b : Block) (r : Request) (p : ℕ) (before after : List ℕ) → may_grow xs b r ≡ true → Free base n xs b (block_at p r) → length before ≡ n → ys ≡ without xs b ++ block_at p r ∷ []
      → after ≡ overwrite p (part b.place b.size before) before → Grows (meaning_by k base n xs) b r (block_at p r) (meaning_by k base n ys) before after
  grows_by b r p before after may f len e moved =
      let d = block_at p r in
      let w = regrown_within base n xs ok b r p may f in
      let bytes = part b.place b.size before in
      let count : length bytes ≡ b.size = length_part b.place b.size before (omega arith) in
      let some = (lies_true base n d f.inside).some in
      let both : (c : Block) → Among c (without xs b ++ d ∷ []) ↔ ((c ≡ d) ⊎ (Among c xs × (c ≢ b))) =
      λ c.
      let s = among_snoc c d (without xs b) in
      let o = among_without base n c b xs ok in (
        λ a. ⊎_elim inl (λ t. inr (o.0 t)) (s.0 a),
        ⊎_elim (λ t. s.1 (inl t)) (λ t. s.1 (inr (o.1 t))),
      ) in
      record {
        fixed = record { base = refl; extent = refl; room = refl; copies = refl };
        lawful = lawful_by base n ys (sound_regrown base n xs ok b d f ys e) k fair long;
        size = refl;
        align = refl;
        new = λ a. elim (cases_block d b) [
          | inl same ↦ same
          | inr other ↦ absurd (elim (clear_of_among d (without xs b) f.clear d ((among_without base n d b xs ok).1 (a, other))) [ inl h ↦ omega arith | inr h ↦ omega arith ])
        ];
        live = λ c. subst (λ zs. Among c zs ↔ ((c ≡ d) ⊎ (Among c xs × (c ≢ b)))) (sym e) (both c);
        kept = subst (λ zs. part p b.size zs ≡ bytes) (sym moved) (part_overwrite p bytes before (omega arith) b.size count);
        outside = subst (λ zs. Outside p r.size before zs) (sym moved) (outside_overwrite p bytes before (omega arith) r.size (omega arith));
      }
