use Rattle.std.proofs.Common.{◌≡◌, length}
use Rattle.sheet.specs.Sheet.{header, put}
use Rattle.sheet.specs.Made.{sheet_of}
use Rattle.sheet.specs.Whole.{rows, sheet_at}
use Rattle.sheet.proofs.whole.write_film.Given as goal

-- the rows above `row` stand after the header
abbrev pub invariant-loop-row : goal.invariant-loop-row
invariant-loop-row g l = (sheet_of l.sheet ≡ sheet_at (g.F.Film.meaning l.film) l.row)
    × (l.out ≡ put (length (header (g.F.Film.meaning l.film).frame.width (g.F.Film.meaning l.film).frame.height)) (rows (g.F.Film.meaning l.film) l.row) l.initial.out)
