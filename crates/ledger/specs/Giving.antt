-- When a block is not taken back.
use Rattle.std.specs.Prelude.{ℕ, Some, None, Option}
use Rattle.allocation.specs.Faults.{deallocate_fault}
use Rattle.allocation.specs.Meaning.{Meaning}
use Rattle.allocation.specs.declared.block.Block.{Block}
use Rattle.allocation.specs.declared.fault.Fault.{Fault}

abbrev pub give_fault : Meaning → ℕ → Option Block → Option Fault
give_fault m n None = None
give_fault m n (Some b) = deallocate_fault m n b
