-- A PBM sheet in the form P4: its header, its length, and what its calls answer and write.
use Rattle.std.specs.Prelude.{◌≡◌, ℕ, ◌+◌, ◌*◌, Bool, cond, ◌&&◌, List, [], ◌∷◌, ◌++◌, length, take, drop, Ok, Err, decimal, Result, ◌==◌, nat_le, nat_lt}
use Rattle.film.specs.Faults.{Told, call}
use Rattle.film.specs.Film.{Meaning}
use Rattle.film.specs.Packed.{bytes_for, row_bytes}

-- a sheet's width and height in pixels, and how many of its rows are written
pub record Sheet : Type 0 where
  pub width : ℕ
  pub height : ℕ
  pub written : ℕ

-- width and height are 1 to 30,000
abbrev pub sheet_sized : ℕ → ℕ → Bool
sheet_sized w h = nat_le 1 w && nat_le w 30000 && nat_le 1 h && nat_le h 30000

-- `P4`, LF, the width, a space, the height, LF
unfoldable pub header : ℕ → ℕ → List ℕ
header w h = 80 ∷ 52 ∷ 10 ∷ (decimal w ++ (32 ∷ (decimal h ++ (10 ∷ []))))

-- the bytes of a whole sheet
unfoldable pub sheet_length : ℕ → ℕ → ℕ
sheet_length w h = length (header w h) + h * bytes_for w

-- that many, or refusal 1
abbrev pub length_answer : ℕ → ℕ → Result ℕ Told
length_answer w h = cond (sheet_sized w h) (Ok (sheet_length w h)) (Err (call 1))

-- an output with bytes put in from a place on, the others as they were
abbrev pub put : ℕ → List ℕ → List ℕ → List ℕ
put at bytes out = take at out ++ (bytes ++ drop (at + length bytes) out)

-- putting bytes into an output leaves `left` and ends at `end`
pub record Put (at : ℕ) (bytes out left : List ℕ) (end : ℕ) : Type 0 where
  pub output : left ≡ put at bytes out
  pub ends : end ≡ at + length bytes

-- opening answers a sheet without rows; other sizes are refused with 1, an output too short with 5
abbrev pub open_answer : ℕ → ℕ → ℕ → Result Sheet Told
open_answer w h room =
    cond (sheet_sized w h)
    (cond (nat_le (sheet_length w h) room) (Ok (record { width = w; height = h; written = 0 })) (Err (call 5)))
    (Err (call 1))

-- the output then has the header at its front, or is as it was
abbrev pub opened : ℕ → ℕ → List ℕ → List ℕ
opened w h out = cond (sheet_sized w h && nat_le (sheet_length w h) (length out)) (put 0 (header w h) out) out

-- where the next row of a sheet stands in its output
abbrev pub row_place : Sheet → ℕ
row_place s = length (header s.width s.height) + s.written * bytes_for s.width

-- the film has the sheet's width, and a row is still to come
abbrev pub row_fits : Sheet → Meaning → Bool
row_fits s m = m.frame.width == s.width && nat_lt s.written s.height

-- a row off the film is refused with 4, then an output too short for the whole sheet with 5,
-- then a film of another width and a row after the last with 6
abbrev pub row_answer : Sheet → Meaning → ℕ → ℕ → Result (Unit {0}) Told
row_answer s m row room =
    cond (nat_lt row m.frame.height)
    (cond (nat_le (sheet_length s.width s.height) room)
    (cond (row_fits s m) (Ok tt) (Err (call 6)))
    (Err (call 5)))
    (Err (call 4))

-- none of these holds
abbrev pub row_taken : Sheet → Meaning → ℕ → ℕ → Bool
row_taken s m row room = nat_lt row m.frame.height && (nat_le (sheet_length s.width s.height) room && row_fits s m)

-- the output then has the row's bytes in their place, or is as it was
abbrev pub row_output : Sheet → Meaning → ℕ → List ℕ → List ℕ
row_output s m row out = cond (row_taken s m row (length out)) (put (row_place s) (row_bytes m row) out) out

-- the sheet then has one row more, or is as it was
abbrev pub row_sheet : Sheet → Meaning → ℕ → ℕ → Sheet
row_sheet s m row room =
    cond (row_taken s m row room) (record { width = s.width; height = s.height; written = s.written + 1 }) s
