-- What an arena means by the way in which its places are chosen, and what General and Shelf mean.
use Rattle.std.specs.Prelude.{ℕ}
use Rattle.allocation.specs.declared.block.Block.{Block}
use Rattle.allocation.specs.declared.block.Request.{Request}
use Rattle.allocation.specs.Meaning.{Meaning}
use Rattle.allocators.specs.declared.arena.Arena.{Arena}
use Rattle.allocators.specs.Fitting.{Lowest, highest_end}
use Rattle.allocators.specs.Placings.{Placing, general_meaning, shelf_meaning, meaning_by, Regrown, Shelved}

abbrev pub meant : Placing → Arena → Meaning
meant k a = meaning_by k a.base a.extent a.live.items

-- p is the lowest place for the request
abbrev pub Placed : Placing → Arena → Request → ℕ → Type 0
Placed k a r p = Lowest a.base a.extent a.live.items (k.start a.live.items) r p

-- p is the place for the grown block
abbrev pub Replaced : Placing → Arena → Block → Request → ℕ → Type 0
Replaced k a b r p = Regrown k a.base a.extent a.live.items b r p

abbrev pub general : Arena → Meaning
general a = general_meaning a.base a.extent a.live.items

-- p is the lowest place that fits
abbrev pub GeneralPlaces : Arena → Request → ℕ → Type 0
GeneralPlaces a r p = Lowest a.base a.extent a.live.items 0 r p

abbrev pub shelf : Arena → Meaning
shelf a = shelf_meaning a.base a.extent a.live.items

-- p is the lowest place at or above the end of the highest block that fits
abbrev pub ShelfPlaces : Arena → Request → ℕ → Type 0
ShelfPlaces a r p = Lowest a.base a.extent a.live.items (highest_end a.live.items) r p

-- p is the block's own place where it can stay, else the lowest one as above
abbrev pub ShelfRegrows : Arena → Block → Request → ℕ → Type 0
ShelfRegrows a b r p = Shelved a.base a.extent a.live.items b r p
