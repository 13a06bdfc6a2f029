use Rattle.std.proofs.Common.{rules, not, ◌&&◌, ◌==◌, sym, ◌∙◌}
use borrow.Author.Tests.{tests}
use Rattle.std.proofs.lemmas.Iterator.{YieldsList-from_slice}
use Rattle.std.proofs.lemmas.Iterator.Search.{any_from_yields_List}
use Rattle.model.specs.Book.{serial_of, one_backing}
use Rattle.book.proofs.Walks.{any_other_any}
use Rattle.book.proofs.book.Book.shares.Goals as goal

pub returns : goal.returns
returns c =
    let ls = c.args.self.now.lines.items in
    any_from_yields_List (λ l. not (l.serial == c.args.serial) && one_backing c.args.backing l.backing) _ _ c.any.result c.any.ensures.ran (YieldsList-from_slice ls cc) (λ x b q k. search (rules, tests))
    ∙ sym (any_other_any serial_of (λ m. one_backing c.args.backing m.backing) c.args.serial ls)
