-- What a refusal tells.
use Rattle.std.specs.Prelude.{Ok, Err, Result}
use Rattle.film.specs.Faults.{Told, call}
use Rattle.sheet.specs.declared.fault.SheetFault.{SheetFault}
use Rattle.sheet.specs.declared.fault.SheetFault.TheVariants.{Limits, Off, Short, Order}

-- its number; the place is 0, since no byte of a file is to blame
abbrev pub sheet_told : SheetFault → Told
sheet_told Limits = call 1
sheet_told Off = call 4
sheet_told Short = call 5
sheet_told Order = call 6

-- an answer with what its refusal tells
abbrev pub told : {A : Type 0} → Result A SheetFault → Result A Told
told (Ok a) = Ok a
told (Err e) = Err (sheet_told e)
