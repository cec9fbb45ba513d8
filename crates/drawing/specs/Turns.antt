-- Reading on to the end, over the record tables.
use Rattle.std.specs.Prelude.{◌≡◌, ℕ, suc, List, map, length, Some, None, Ok, Err, Option, Result}
use Rattle.drawing.specs.Faults.{drawing_told}
use Rattle.drawing.specs.declared.fault.DrawingFault.{DrawingFault}
use Rattle.contour.specs.declared.pieces.Piece.{Piece}
use Rattle.drawing.specs.Reading.{Outcome, read_on}
use Rattle.drawing.specs.Taken.{KeptAll, books_of, rooms_of}
use Rattle.records.specs.Records.{seen_aperture, seen_object, seen_piece}
use Rattle.records.specs.declared.kinds.Aperture.{Aperture}
use Rattle.records.specs.declared.kinds.Object.{Object}
use Rattle.rules.specs.Rules.{start}
use Rattle.table.specs.Tables.{records}
use Rattle.table.specs.declared.Table.{Table}
use Rattle.words.specs.Words.{Told}

abbrev pub refusal_of : {X : Type 0} → Result X DrawingFault → Option Told
refusal_of (Ok x) = None
refusal_of (Err f) = Some (drawing_told f)

-- A good answer tells how many objects are laid.
abbrev pub Laid : Result ℕ DrawingFault → ℕ → Type 0
Laid (Ok n) m = n ≡ m
Laid (Err f) m = Unit {0}

-- The answer and the records in the tables are those of the outcome u.
pub record Comes (u : Outcome) (r : Result ℕ DrawingFault) (b : Table Aperture) (q : Table Object) (t : Table Piece) : Type 0 where
  pub refusal : refusal_of r ≡ u.refusal
  pub apertures : map seen_aperture (records b) ≡ u.books.apertures
  pub objects : map seen_object (records q) ≡ u.books.objects
  pub pieces : map seen_piece (records t) ≡ u.books.pieces
  pub laid : Laid r u.books.laid

-- A file read from its start on.
abbrev pub from_start : List ℕ → Table Aperture → Table Object → Table Piece → Outcome
from_start xs a o p = read_on (suc (length xs)) (rooms_of a o p) xs 0 0 (record { state = start; books = books_of a o p 0 })

-- What reading a file does to the tables, and answers.
pub record Running (xs : List ℕ) (a : Table Aperture) (o : Table Object) (p : Table Piece) (r : Result ℕ DrawingFault)
    (b : Table Aperture) (q : Table Object) (t : Table Piece) : Type 0 where
  pub kept : KeptAll a o p b q t
  pub comes : Comes (from_start xs a o p) r b q t
