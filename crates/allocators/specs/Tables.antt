-- Taking a block out of others.
use Rattle.std.specs.Prelude.{cond, List, [], ◌∷◌}
use Rattle.allocation.specs.declared.block.Block.{Block}
use Rattle.allocation.specs.Faults.{same_block}

-- the blocks without one of them
abbrev pub without : List Block → Block → List Block
without [] b = []
without (c ∷ cs) b = cond (same_block c b) cs (c ∷ without cs b)

-- what stands past the end of a list of blocks
abbrev pub no_block : Block
no_block = record { place = 0; size = 0; align = 0 }
