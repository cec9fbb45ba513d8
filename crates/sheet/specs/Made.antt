-- Sheets as the code holds them.
use Rattle.std.specs.Prelude.{◌≡◌, ◌<◌, Ok, Err, Result, MatchResult}
use Rattle.film.specs.Faults.{Told, call}
use Rattle.sheet.specs.declared.fault.SheetFault.{SheetFault}
use Rattle.sheet.specs.declared.open.OpenSheet.{OpenSheet}
use Rattle.sheet.specs.declared.closed.ClosedSheet.{ClosedSheet}
use Rattle.sheet.specs.declared.closed.Unclosed.{Unclosed}
use Rattle.sheet.specs.Faults.{sheet_told}
use Rattle.sheet.specs.Sheet.{Sheet, sheet_length}

-- the sheet that the code holds
abbrev pub sheet_of : OpenSheet → Sheet
sheet_of s = record { width = s.size.width; height = s.size.height; written = s.written }

-- an answer of opening, with what its refusal tells
abbrev pub told_sheet : Result OpenSheet SheetFault → Result Sheet Told
told_sheet (Ok s) = Ok (sheet_of s)
told_sheet (Err e) = Err (sheet_told e)

-- a sheet with all its rows is closed; before that, closing is refused with 6 and hands it back as it was
abbrev pub CloseAnswer : Sheet → Result ClosedSheet Unclosed → Type 0
CloseAnswer s r = MatchResult r
    (λ d. (s.written ≡ s.height) × (d.length ≡ sheet_length s.width s.height))
    (λ u. (s.written < s.height) × (sheet_of u.sheet ≡ s) × (sheet_told u.fault ≡ call 6))
