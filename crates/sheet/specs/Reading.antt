-- Reading a sheet by the rules of the form P4.
use Rattle.std.specs.Prelude.{◌≡◌, ℕ, ◌+◌, ◌-◌, ◌*◌, ◌/◌, ◌%◌, ◌^◌, ◌<◌, ◌≤◌, Bool, true, List, ◌++◌, length, take, drop, codes, ◌==◌, slice_index}
use Rattle.std.specs.Str.Parse.{digits_value}
use Rattle.std.specs.Char.{is_ascii_digit}
use Rattle.std.specs.List.{prefix_len}
use Rattle.film.specs.Film.{Meaning}
use Rattle.sheet.specs.Sheet.{sheet_sized, header, sheet_length, put}
use Rattle.sheet.specs.Whole.{rows, row_by_row}

-- the decimal number at the front of some bytes
abbrev pub number_at : List ℕ → ℕ
number_at xs = digits_value 10 (take (prefix_len is_ascii_digit xs) xs)

-- what follows that number and the one white byte after it
abbrev pub past : List ℕ → List ℕ
past xs = drop (prefix_len is_ascii_digit xs + 1) xs

-- `P4` and a white byte, then the width
abbrev pub read_width : List ℕ → ℕ
read_width xs = number_at (drop 3 xs)

-- a white byte, then the height
abbrev pub read_height : List ℕ → ℕ
read_height xs = number_at (past (drop 3 xs))

-- a white byte, then the rows
abbrev pub raster : List ℕ → List ℕ
raster xs = past (past (drop 3 xs))

-- each row takes whole bytes; the pixel of column c is bit 7 − c mod 8 of byte c / 8, and 1 is dark
abbrev pub read_pixel : List ℕ → ℕ → ℕ → Bool
read_pixel xs c r = slice_index (raster xs) (r * ((read_width xs + 7) / 8) + c / 8) / 2 ^ (7 - c % 8) % 2 == 1

-- the bytes read back as the film: its width, its height and every pixel
pub record ReadsBack (xs : List ℕ) (m : Meaning) : Type 0 where
  pub magic : take 2 xs ≡ codes "P4"
  pub width : read_width xs ≡ m.frame.width
  pub height : read_height xs ≡ m.frame.height
  pub pixels : (c r : ℕ) → c < m.frame.width → r < m.frame.height → read_pixel xs c r ≡ m.pixel c r

-- with rows 0 to n − 1 of a film written in turn, an output has the header and these rows, and after
-- them what it had
abbrev pub RowsSoFar : Type 0
RowsSoFar = (m : Meaning) (n : ℕ) (out : List ℕ) → sheet_sized m.frame.width m.frame.height ≡ true
    → sheet_length m.frame.width m.frame.height ≤ length out → n ≤ m.frame.height
    → row_by_row m n out ≡ put 0 (header m.frame.width m.frame.height ++ rows m n) out

-- a sheet opened at a film's size, with all the film's rows written to it in turn, reads back as the film
abbrev pub RowsReadBack : Type 0
RowsReadBack = (m : Meaning) (out : List ℕ) → sheet_sized m.frame.width m.frame.height ≡ true
    → sheet_length m.frame.width m.frame.height ≤ length out
    → ReadsBack (row_by_row m m.frame.height out) m
