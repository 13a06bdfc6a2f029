-- The laws of the lone block's meaning, and what each operation makes of it.
use Rattle.std.specs.Prelude.{◌≡◌, ℕ, ◌+◌, ◌-◌, ◌%◌, ◌<◌, ◌≤◌, true, false, ◌&&◌, List, [], ◌∷◌, Some, None, Option, ◌==◌, nat_le, nat_lt}
use Rattle.std.proofs.Math.Logic.{inl, ⊎_elim}
use Rattle.std.proofs.Common.{◌∙◌, arith, pow_pos}
use Rattle.std.proofs.Math.Path.{refl, sym, subst}
use Rattle.std.proofs.lemmas.Bool.{and_parts, and_from, leb-true, ltb-true, eqb-true, le-leb, lt-ltb, eq-eqb, both_ways}
use Rattle.region.specs.Bytes.{part}
use Rattle.allocation.specs.Alignments.{round_up}
use Rattle.allocation.specs.declared.block.Block.{Block}
use Rattle.allocation.specs.declared.block.Request.{Request}
use Rattle.allocation.specs.Faults.{block_at, is_among}
use Rattle.allocation.specs.Meaning.{Lawful, Allocates, Frees, Grows, Among, Valid, end_of}
use Rattle.allocation.proofs.Rounding.{round_up_high, round_up_multiple}
use Rattle.allocation.proofs.Tables.{among_true}
use Rattle.lone_block.specs.Blocks.{blocks, inside, sits, first_place}
use Rattle.lone_block.specs.Lone.{lone_grants, lone_meaning}

module _ (base n : ℕ) where
  inside_parts : (b : Block) → inside base n b ≡ true → (1 ≤ b.size) × (end_of b ≤ n) × ((base + b.place) % b.align ≡ 0)
  inside_parts b h =
      let p = and_parts (nat_lt 0 b.size) (nat_le (end_of b) n && (base + b.place) % b.align == 0) h in
      let q = and_parts (nat_le (end_of b) n) ((base + b.place) % b.align == 0) p.1 in
      let some = ltb-true 0 b.size p.0 in
      (omega arith, leb-true _ _ q.0, eqb-true _ _ q.1)

  -- with no block, what the region can hold is granted
  first_grant : (r : Request) → Valid r → 1 ≤ r.size → r.size + r.align - 1 ≤ n → lone_grants base n [] r ≡ true
  unfolding round_up
  first_grant r valid some le =
      let pos : 0 < r.align = subst (λ x. 0 < x) (sym valid.0.2) (pow_pos valid.0.0) in
      let near = round_up_high base r.align (omega arith) in
      and_from _ _ (lt-ltb 0 r.size (omega arith)) (and_from _ _ (le-leb _ _ (omega arith)) (eq-eqb _ _ (round_up_multiple base r.align (omega arith))))

  pub lawful_alone : 1024 ≤ n → (live : Option Block) → sits base n live ≡ true → Lawful (lone_meaning base n (blocks live))
  unfolding Among
  lawful_alone long None h =
      record {
        roomy = long;
        filled = λ c a. absurd a;
        within = λ c a. absurd a;
        aligned = λ c a. absurd a;
        apart = λ c d a e ne. absurd a;
        first = λ none. first_grant;
        growth = λ c r a valid le g. absurd a;
      }
  lawful_alone long (Some b) h =
      let p = inside_parts b h in
      record {
        roomy = long;
        filled = λ c. ⊎_elim (λ e. subst (λ x. 1 ≤ x.size) e p.0) (λ a. absurd a);
        within = λ c. ⊎_elim (λ e. subst (λ x. end_of x ≤ n) e p.1) (λ a. absurd a);
        aligned = λ c. ⊎_elim (λ e. subst (λ x. (base + x.place) % x.align ≡ 0) e p.2) (λ a. absurd a);
        apart = λ c d. ⊎_elim (λ e. ⊎_elim (λ f ne. absurd (ne (sym e ∙ f))) (λ a. absurd a)) (λ a. absurd a);
        first = λ none r valid some le. absurd (none b (inl refl));
        growth = λ c r a valid le g. absurd (both_ways false refl g);
      }

  pub allocated : 1024 ≤ n → (live : Option Block) (r : Request) (d : Block) → d ≡ block_at (first_place base r.align) r → lone_grants base n (blocks live) r ≡ true
      → Allocates (lone_meaning base n (blocks live)) r (block_at d.place r) (lone_meaning base n (d ∷ []))
  unfolding Among
  allocated long None r d e h =
      let same : d ≡ block_at d.place r = e ∙ subst (λ x. block_at (first_place base r.align) r ≡ block_at x.place r) (sym e) refl in
      record {
        fixed = record { base = refl; extent = refl; room = refl; copies = refl };
        lawful = lawful_alone long (Some d) (subst (λ x. inside base n x ≡ true) (sym e) h);
        size = refl;
        align = refl;
        new = λ a. a;
        live = λ c. (⊎_elim (λ f. inl (sym f ∙ same)) (λ a. absurd a), ⊎_elim (λ f. inl (same ∙ sym f)) (λ a. absurd a));
      }
  allocated long (Some b) r d e h = absurd (both_ways false refl h)

  pub freed : 1024 ≤ n → (live : Option Block) (b : Block) → is_among b (blocks live) ≡ true → Frees (lone_meaning base n (blocks live)) b (lone_meaning base n [])
  unfolding Among
  freed long None b h = absurd (both_ways false refl h)
  freed long (Some x) b h =
      let same : x ≡ b = ⊎_elim (λ e. e) (λ a. absurd a) (among_true b (x ∷ []) h) in
      record {
        fixed = record { base = refl; extent = refl; room = refl; copies = refl };
        lawful = lawful_alone long None refl;
        live = λ c. (λ a. absurd a, λ a. ⊎_elim (λ e. absurd (a.1 (sym e ∙ same))) (λ f. f) a.0);
      }

  pub grown : 1024 ≤ n → (live : Option Block) (b : Block) (r : Request) (d : Block) (bytes : List ℕ) → d ≡ block_at b.place r → is_among b (blocks live) ≡ true → inside base n d ≡ true
      → Grows (lone_meaning base n (blocks live)) b r (block_at d.place r) (lone_meaning base n (d ∷ [])) bytes bytes
  unfolding Among
  grown long None b r d bytes e h fit = absurd (both_ways false refl h)
  grown long (Some x) b r d bytes e h fit =
      let here : d.place ≡ b.place = subst (λ y. y.place ≡ b.place) (sym e) refl in
      let same : d ≡ block_at d.place r = e ∙ subst (λ (p : ℕ). block_at b.place r ≡ block_at p r) (sym here) refl in
      let old : x ≡ b = ⊎_elim (λ f. f) (λ a. absurd a) (among_true b (x ∷ []) h) in
      record {
        fixed = record { base = refl; extent = refl; room = refl; copies = refl };
        lawful = lawful_alone long (Some d) fit;
        size = refl;
        align = refl;
        new = ⊎_elim (λ f. sym f ∙ old) (λ a. absurd a);
        live = λ c. (
          ⊎_elim (λ f. inl (sym f ∙ same)) (λ a. absurd a),
          ⊎_elim (λ f. inl (same ∙ sym f)) (λ a. ⊎_elim (λ f. absurd (a.1 (sym f ∙ old))) (λ t. absurd t) a.0),
        );
        kept = subst (λ (p : ℕ). part p b.size bytes ≡ part b.place b.size bytes) (sym here) refl;
        outside = record { long = refl; same = λ i far. refl };
      }
