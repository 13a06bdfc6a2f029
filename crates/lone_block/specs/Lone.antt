-- What the lone block means: a request is granted while no block is live, and a block grows where it stands.
use Rattle.std.specs.Prelude.{ℕ, Bool, false, ◌&&◌, List, [], ◌∷◌, nat_le}
use Rattle.allocation.specs.declared.block.Block.{Block}
use Rattle.allocation.specs.declared.block.Request.{Request}
use Rattle.allocation.specs.Faults.{block_at, is_among}
use Rattle.allocation.specs.Meaning.{Meaning}
use Rattle.lone_block.specs.declared.lone.LoneBlock.{LoneBlock}
use Rattle.lone_block.specs.Blocks.{blocks, inside, first_place}

abbrev pub lone_grants : ℕ → ℕ → List Block → Request → Bool
lone_grants base n [] r = inside base n (block_at (first_place base r.align) r)
lone_grants base n (b ∷ bs) r = false

abbrev pub lone_grows : ℕ → ℕ → List Block → Block → Request → Bool
lone_grows base n live b r = (is_among b live && nat_le b.size r.size) && inside base n (block_at b.place r)

abbrev pub lone_meaning : ℕ → ℕ → List Block → Meaning
lone_meaning at n held =
    record {
      base = at;
      extent = n;
      room = n;
      copies = false;
      live = held;
      grants = lone_grants at n held;
      grows = lone_grows at n held;
    }

abbrev pub lone : LoneBlock → Meaning
lone a = lone_meaning a.base a.extent (blocks a.live)
