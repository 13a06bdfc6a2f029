-- The lines that a book holds, oldest first.
use Rattle.std.specs.Prelude.{◌≡◌, ℕ, ◌<◌, List, length, slice_index_or}
use Rattle.model.specs.declared.line.Line.{Line}
use Rattle.model.specs.Book.{blank}
use Rattle.book.specs.declared.book.Book.{Book}

abbrev pub lines_of : Book → List Line
lines_of b = b.lines.items

-- the line at a place
abbrev pub line_at : List Line → ℕ → Line
line_at ls i = slice_index_or ls i blank

-- the line of a serial stands at a place
abbrev pub At : List Line → ℕ → ℕ → Type 0
At ls i s = (i < length ls) × ((line_at ls i).serial ≡ s)
