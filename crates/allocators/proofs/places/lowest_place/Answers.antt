use Rattle.std.proofs.Common.{◌≡◌, ℕ, ◌≤◌, true, get_or, take, sym, subst, inl, inr, arith}
use Rattle.std.proofs.lemmas.List.{take_more, take_all}
use Rattle.std.proofs.lemmas.Bool.{and_from, cases_Bool, cases_lt}
use Rattle.allocation.specs.Faults.{block_at}
use Rattle.allocators.specs.Fitting.{fits, lies}
use Rattle.allocators.specs.Tables.{no_block}
use Rattle.allocators.specs.Blocks.{lies_from, sound_at, behind, clear_of_push, not_clear_place}
use Rattle.allocators.proofs.places.lowest_place.Goals as goal

pub apart-requires : goal.apart-requires
apart-requires c =
    let h = sound_at c.args.base c.args.extent c.args.live.now c.loop-b.b-index no_block c.requires.sound c.loop-b-test.true in
    record { one = omega arith; other = omega arith }

pub overflow_add-b : goal.overflow_add-b
overflow_add-b c =
    let h = sound_at c.args.base c.args.extent c.args.live.now c.loop-b.b-index no_block c.requires.sound c.loop-b-test.true in
    omega arith

pub align_up-place-requires-then-not-apart : goal.align_up-place-requires-then-not-apart
align_up-place-requires-then-not-apart c =
    let h = sound_at c.args.base c.args.extent c.args.live.now c.loop-b.b-index no_block c.requires.sound c.loop-b-test.true in
    record { base = omega arith; from = omega arith; align = omega arith; small = omega arith }

pub candidates-smaller : goal.candidates-smaller
candidates-smaller c =
    let blocked = not_clear_place (block_at c.candidates.place c.args.request) (get_or c.args.live.now c.loop-b.b-index no_block) (sym c.if-not-apart.ensures) in
    omega (arith, blocked.1)

pub candidates-preserved : goal.candidates-preserved
candidates-preserved c =
    let blocked = not_clear_place (block_at c.candidates.place c.args.request) (get_or c.args.live.now c.loop-b.b-index no_block) (sym c.if-not-apart.ensures) in (
      omega (arith, blocked.1, c.candidates.invariant.0),
      c.align_up-place-then-not-apart.ensures.aligned,
      λ q high l. elim (cases_Bool (fits c.args.base c.args.extent c.args.live.now c.args.request q)) [
        | inr never ↦ never
        | inl fit ↦ elim (cases_lt q c.candidates.place) [
          | inl below ↦ c.candidates.invariant.2 q high below
          | inr above ↦
              let p = behind c.args.base c.args.extent c.args.live.now c.args.request c.candidates.place q c.loop-b.b-index no_block fit c.loop-b-test.true above blocked.0 in
              let first : c.align_up-place-then-not-apart.result ≤ q = c.align_up-place-then-not-apart.ensures.first q p.0 p.1 in
              absurd (omega arith)
        ]
      ],
    )

pub loop-b-preserved : goal.loop-b-preserved
loop-b-preserved c =
    let candidate = block_at c.candidates.place c.args.request in (
      c.loop-b.invariant.0,
      rw (take_more c.args.live.now c.loop-b.b-index no_block c.loop-b-test.true)
          (clear_of_push candidate _ (get_or c.args.live.now c.loop-b.b-index no_block) c.loop-b.invariant.1 (sym c.if-not-apart.ensures)),
    )

pub returns-after-loop-b : goal.returns-after-loop-b
returns-after-loop-b c =
    let all : take c.loop-b.b-index c.args.live.now ≡ c.args.live.now = take_all _ _ c.loop-b-test.false in
    let here : c.loop-b.place ≡ c.candidates.place = c.loop-b.invariant.0 in
    let inside : lies c.args.base c.args.extent (block_at c.candidates.place c.args.request) ≡ true =
    lies_from c.args.base c.args.extent (block_at c.candidates.place c.args.request) (record { some = omega arith; within = omega arith; aligned = c.candidates.invariant.1 }) in
    let fit : fits c.args.base c.args.extent c.args.live.now c.args.request c.candidates.place ≡ true = and_from _ _ inside (rw all at c.loop-b.invariant.1) in (
      omega (arith, c.candidates.invariant.0),
      subst (λ (p : ℕ). fits c.args.base c.args.extent c.args.live.now c.args.request p ≡ true) (sym here) fit,
      λ q high l. c.candidates.invariant.2 q high (omega arith),
    )
