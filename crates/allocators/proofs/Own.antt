-- What each operation makes of General's meaning and of Shelf's, for proofs outside the crate.
use Rattle.std.proofs.Common.{◌≡◌, ℕ, ◌≤◌, true, List, [], ◌∷◌, ◌++◌, length, refl}
use Rattle.region.specs.Bytes.{part, overwrite}
use Rattle.allocation.specs.declared.block.Block.{Block}
use Rattle.allocation.specs.declared.block.Request.{Request}
use Rattle.allocation.specs.Faults.{block_at}
use Rattle.allocation.specs.Meaning.{Allocates, Frees, Grows}
use Rattle.allocators.specs.Fitting.{sound, Fits}
use Rattle.allocators.specs.Placings.{lowest, above_highest, may_grow, general_meaning, shelf_meaning, Shelved}
use Rattle.allocators.specs.Tables.{without}
use Rattle.allocators.specs.Laws.{lowest_fair, above_highest_fair, allocates, frees, grows_by, regrown_free}

module _ (base n : ℕ) (long : 1024 ≤ n) (xs : List Block) (ok : sound base n xs ≡ true) where
  pub general_allocates : (r : Request) (p : ℕ) → Fits base n xs r p → Allocates (general_meaning base n xs) r (block_at p r) (general_meaning base n (xs ++ block_at p r ∷ []))
  general_allocates r p f = allocates lowest lowest_fair base n long xs ok (xs ++ block_at p r ∷ []) r p f refl

  pub general_frees : (b : Block) → Frees (general_meaning base n xs) b (general_meaning base n (without xs b))
  general_frees b = frees lowest lowest_fair base n long xs ok (without xs b) b refl

  pub shelf_allocates : (r : Request) (p : ℕ) → Fits base n xs r p → Allocates (shelf_meaning base n xs) r (block_at p r) (shelf_meaning base n (xs ++ block_at p r ∷ []))
  shelf_allocates r p f = allocates above_highest above_highest_fair base n long xs ok (xs ++ block_at p r ∷ []) r p f refl

  -- a growth that leaves the block's old bytes at its new place
  pub shelf_grows : (b : Block) (r : Request) (p : ℕ) (before : List ℕ) → may_grow xs b r ≡ true → Shelved base n xs b r p → length before ≡ n
      → Grows (shelf_meaning base n xs) b r (block_at p r) (shelf_meaning base n (without xs b ++ block_at p r ∷ [])) before (overwrite p (part b.place b.size before) before)
  shelf_grows b r p before may s len = grows_by above_highest above_highest_fair base n long xs ok (without xs b ++ block_at p r ∷ []) b r p before (overwrite p (part b.place b.size before) before) may (regrown_free base n xs ok above_highest above_highest_fair b r p may s) len refl refl
