use Rattle.std.proofs.Common.{◌≡◌, ℕ, ◌+◌, ◌-◌, ◌%◌, ◌<◌, ◌≤◌, true, false, take}
use Rattle.allocators.specs.Fitting.{clear_of, fits}
use Rattle.allocators.proofs.places.lowest_place.Given as goal

-- no live block so far is in the way
abbrev pub invariant-loop-b : goal.invariant-loop-b
invariant-loop-b l =
    (l.place ≡ l.initial.place)
    × (clear_of l.candidate (take l.b-index l.live) ≡ true)

-- the place is aligned, and no place from the start up to it will do
abbrev pub invariant-candidates : goal.invariant-candidates
invariant-candidates l =
    (l.start ≤ l.place)
    × ((l.base + l.place) % l.request.align ≡ 0)
    × ((q : ℕ) → l.start ≤ q → q < l.place → fits l.base l.extent l.live l.request q ≡ false)

abbrev pub decreases-candidates : goal.decreases-candidates
decreases-candidates l = l.last + 1 - l.place
