use Rattle.std.proofs.Common.{rules, ℕ, ◌<◌, length, MatchOption, ◌≢◌}
use Rattle.book.specs.Held.{line_at, At}
use Rattle.book.proofs.Walks.{found_or_none}
use Rattle.book.proofs.book.Book.position.Goals as goal

pub returns : goal.returns
returns c =
    let ls = c.args.self.now.lines.items in
    let last : MatchOption c.rposition.result ((k : ℕ) → k < length ls → (line_at ls k).serial ≢ c.args.serial) (λ i. At ls i c.args.serial) = search rules in
    found_or_none ls c.args.serial c.rposition.result last
