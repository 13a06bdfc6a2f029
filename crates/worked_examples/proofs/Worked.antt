-- The nine examples, by computing.
use Rattle.std.proofs.Common.{◌≡◌, ℕ, ◌+◌, ◌≤◌, List, [], ◌∷◌, length, Some, None, refl, ap, ◌∙◌, subst, inl, inr, ⊎_elim, arith, lit≤}
use native.Mathlib.Nat.{mod-one}
use Rattle.std.proofs.lemmas.List.{append-nil}
use Rattle.region.specs.Bytes.{overwrite}
use Rattle.region.proofs.Writes.{length_overwrite}
use Rattle.allocation.specs.Alignments.{round_up}
use Rattle.allocation.specs.declared.block.Block.{Block}
use Rattle.allocation.specs.Meaning.{Among, Apart}
use Rattle.allocators.specs.Fitting.{Fits, Lowest}
use Rattle.allocators.specs.Placings.{Shelved}
use Rattle.allocators.proofs.Own.{general_allocates, general_frees, shelf_allocates, shelf_grows}
use Rattle.model.specs.Book.{block_of, line, or_blank, shared_by}
use Rattle.model.specs.Checks.{request_for}
use Rattle.model.specs.Effects.{add_line, put_line, end_line, with_meaning, with_bytes, appended}
use Rattle.model.specs.Patterns.{joined}
use Rattle.model.specs.Keyed.{find, update, without, any_other}
use Rattle.worked_examples.specs.Worked.{extent, block, general, One, Two, Three, Four, Parent, Five, Six, Seven, Eight, Nine, NineExamples}

none : (c : Block) → Among c [] → ⊥
unfolding Among
none c a = a

-- a request at alignment 1 fits at place 0 of an empty region
first_fit : (base n : ℕ) → 1 ≤ n → n ≤ extent → Fits base extent [] (request_for n) 0
first_fit base n h k = record { filled = h; within = omega arith; aligned = mod-one (base + 0); apart = λ c a. absurd (none c a) }

first_place : (base n : ℕ) → 1 ≤ n → n ≤ extent → Lowest base extent [] 0 (request_for n) 0
first_place base n h k = record { above = lit≤ tt; fitting = first_fit base n h k; least = λ q a f. a }

-- behind the first block
second_apart : (c : Block) → Among c (block 0 296 ∷ []) → Apart (block 296 596) c
unfolding Among
second_apart c (inl e) = subst (Apart (block 296 596)) e (inr (lit≤ tt))
second_apart c (inr a) = absurd a

second_fit : Fits 65536 extent (block 0 296 ∷ []) (request_for 596) 296
second_fit = record { filled = lit≤ tt; within = lit≤ tt; aligned = mod-one (65536 + 296); apart = second_apart }

first_among : Among (block 0 296) (block 0 296 ∷ [])
unfolding Among
first_among = inl refl

second_place : Lowest 65536 extent (block 0 296 ∷ []) 0 (request_for 596) 296
second_place = record { above = lit≤ tt; fitting = second_fit; least = λ q a f. ⊎_elim (λ (h : q + 596 ≤ 0). absurd (omega arith)) (λ (h : 0 + 296 ≤ q). omega arith) (f.apart (block 0 296) first_among) }

-- the highest block of a shelf stays where it is
long_stays : Shelved 65537 extent (block 0 264 ∷ []) (block 0 264) (request_for 264) 0
long_stays = record { stayed = λ e. refl; moved = λ e. let z : ◌≡◌ {A = ℕ} 0 1 = cc in absurd (omega arith) }

one_joined : (v : List ℕ) → length (joined (v ∷ [])) ≡ length v
unfolding joined
one_joined v = ap length (append-nil v)

module _ (bytes : List ℕ) where
  one : One bytes
  unfolding add_line with_meaning with_bytes round_up
  one =
      record {
        place = first_place 65536 296 (lit≤ tt) (lit≤ tt);
        made = (refl, record { got = Some (block 0 296); meaning = general 65536 (block 0 296 ∷ []); gets = (block 0 296, refl, general_allocates 65536 extent (lit≤ tt) [] refl (request_for 296) 0 (first_fit 65536 296 (lit≤ tt) (lit≤ tt))); grant = refl; is = refl });
      }

  two : Two bytes
  unfolding add_line with_meaning with_bytes round_up
  two =
      record {
        place = first_place 65540 296 (lit≤ tt) (lit≤ tt);
        made = (refl, record { got = Some (block 0 296); meaning = general 65540 (block 0 296 ∷ []); gets = (block 0 296, refl, general_allocates 65540 extent (lit≤ tt) [] refl (request_for 296) 0 (first_fit 65540 296 (lit≤ tt) (lit≤ tt))); grant = refl; is = refl });
      }

  three : Three bytes
  unfolding add_line with_meaning with_bytes
  three = (refl, record { got = None; meaning = general 65536 []; gets = (refl, refl); grant = refl; is = refl })

  five : Five bytes
  unfolding add_line find line or_blank
  five = record { at_four = (refl, (refl, refl)); at_eight = (refl, refl) }

  six : Six bytes
  unfolding add_line find line or_blank
  six = record { reversed = (refl, refl); empty = (refl, (refl, refl)) }

  seven : Seven bytes
  unfolding add_line put_line end_line with_meaning find update without line or_blank shared_by any_other
  seven =
      record {
        slices = (refl, (refl, refl));
        releases = (refl, (general 65536 (block 0 296 ∷ []), refl, refl, refl));
        thaws = (refl, (refl, refl));
      }

  nine : Nine bytes
  nine = record { overflows = (refl, refl); too_large = (refl, refl) }

  four : (v : List ℕ) → Four bytes v
  unfolding put_line with_meaning with_bytes appended find update line or_blank block_of round_up
  four v =
      record {
        filled = _;
        fills = (refl, (_, _, (refl, refl), refl, refl));
        place = second_place;
        after = _;
        grows = (
          refl,
          (
            _,
            _,
            record {
              block = block 296 596;
              meaning = general 65536 (block 296 596 ∷ []);
              bytes = _;
              by_new = λ e. record { between = general 65536 (block 0 296 ∷ block 296 596 ∷ []); gets = general_allocates 65536 extent (lit≤ tt) (block 0 296 ∷ []) refl (request_for 596) 296 second_fit; gives = general_frees 65536 extent (lit≤ tt) (block 0 296 ∷ block 296 596 ∷ []) refl (block 0 296); writes = refl };
              by_growth = λ e. let z : ◌≡◌ {A = ℕ} 0 1 = cc in absurd (omega arith);
              got = refl;
              is = refl;
            },
            refl,
            refl,
          ),
        );
      }

  the_parent : (v : List ℕ) → Parent bytes v
  unfolding put_line with_meaning with_bytes appended find update line or_blank
  the_parent v =
      record {
        filled = _;
        fills = (refl, (_, _, (refl, refl), refl, refl));
        freezes = (refl, (refl, refl));
      }

  eight : (v : List ℕ) → length bytes ≡ extent → length v ≡ 8 → Eight bytes v
  unfolding add_line put_line with_meaning with_bytes appended find update line or_blank block_of round_up
  eight v len e =
      let put : List ℕ = overwrite 255 (joined (v ∷ [])) bytes in
      let long : length put ≡ extent = length_overwrite 255 (joined (v ∷ [])) bytes (omega (arith, one_joined v)) ∙ len in
      record {
        place = first_place 65537 264 (lit≤ tt) (lit≤ tt);
        made = (refl, record { got = Some (block 0 264); meaning = _; gets = (block 0 264, refl, shelf_allocates 65537 extent (lit≤ tt) [] refl (request_for 264) 0 (first_fit 65537 264 (lit≤ tt) (lit≤ tt))); grant = refl; is = refl });
        first = put;
        fits = (refl, (_, _, (refl, refl), refl, refl));
        stays = long_stays;
        after = _;
        grows = (
          refl,
          (
            _,
            _,
            record {
              block = block 0 264;
              meaning = _;
              bytes = _;
              by_new = λ x. let z : ◌≡◌ {A = ℕ} 0 1 = cc in absurd (omega arith);
              by_growth = λ x. record { from = block 0 264; was = refl; between = _; grows = shelf_grows 65537 extent (lit≤ tt) (block 0 264 ∷ []) refl (block 0 264) (request_for 264) 0 put refl long_stays long; moves = refl };
              got = refl;
              is = refl;
            },
            refl,
            refl,
          ),
        );
      }

pub all_nine : NineExamples
all_nine bytes len v w ev ew = (one bytes, two bytes, three bytes, four bytes v, the_parent bytes v, five bytes, six bytes, seven bytes, eight bytes w len ew, nine bytes)
