-- A whole film as a sheet.
use Rattle.std.specs.Prelude.{ℕ, zero, suc, cond, List, [], ◌++◌, length, Ok, Err, Result, nat_le}
use Rattle.film.specs.Faults.{Told, call}
use Rattle.film.specs.Film.{Meaning}
use Rattle.film.specs.Packed.{row_bytes}
use Rattle.sheet.specs.Sheet.{Sheet, header, sheet_length, put, opened, row_output}

-- the bytes of rows 0 to n − 1 of a film
abbrev pub rows : Meaning → ℕ → List ℕ
rows m zero = []
rows m (suc n) = rows m n ++ row_bytes m n

-- a film's sheet: the header, then every row from the top
abbrev pub sheet_bytes : Meaning → List ℕ
sheet_bytes m = header m.frame.width m.frame.height ++ rows m m.frame.height

-- writing a film answers how many bytes its sheet takes; an output too short is refused with 5
abbrev pub film_answer : Meaning → ℕ → Result ℕ Told
film_answer m room =
    cond (nat_le (sheet_length m.frame.width m.frame.height) room) (Ok (sheet_length m.frame.width m.frame.height)) (Err (call 5))

-- the output then has the sheet at its front, or is as it was
abbrev pub film_output : Meaning → List ℕ → List ℕ
film_output m out =
    cond (nat_le (sheet_length m.frame.width m.frame.height) (length out)) (put 0 (sheet_bytes m) out) out

-- a sheet of the film's size with n rows written
abbrev pub sheet_at : Meaning → ℕ → Sheet
sheet_at m n = record { width = m.frame.width; height = m.frame.height; written = n }

-- what an output holds once a sheet of the film's size is opened and rows 0 to n − 1 are written, call by call
abbrev pub row_by_row : Meaning → ℕ → List ℕ → List ℕ
row_by_row m zero out = opened m.frame.width m.frame.height out
row_by_row m (suc n) out = row_output (sheet_at m n) m n (row_by_row m n out)
