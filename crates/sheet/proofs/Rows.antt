-- Rows in their places.
use Rattle.std.proofs.Common.{◌≡◌, ℕ, ◌+◌, ◌*◌, ◌<◌, ◌≤◌, length, add-mul, arith}
use Rattle.std.proofs.lemmas.Nat.{mul-le}
use Rattle.film.specs.Packed.{bytes_for}
use Rattle.sheet.specs.Sheet.{header, sheet_length}

-- a row still to come ends within the sheet
pub row_within : (w h written : ℕ) → written < h → length (header w h) + written * bytes_for w + bytes_for w ≤ sheet_length w h
unfolding sheet_length
row_within w h written l = omega (arith, add-mul written 1 (bytes_for w), mul-le (written + 1) (bytes_for w) h (bytes_for w) (omega arith) (omega arith))

-- so that there is room for it where there is room for the sheet
pub row_room : (w h written place width whole room : ℕ) → written < h → place ≡ length (header w h) + written * bytes_for w
    → width ≡ w → whole ≡ sheet_length w h → whole ≤ room → place + bytes_for width ≤ room
row_room w h written place width whole room l p e q r = let k = row_within w h written l in rw e (omega arith)

pub header_within : (w h : ℕ) → length (header w h) ≤ sheet_length w h
unfolding sheet_length
header_within w h = omega arith
