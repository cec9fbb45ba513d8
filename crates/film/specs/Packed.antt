-- A row as bitmap bytes: the leftmost pixel in the highest bit, 1 dark, padding bits 0.
use Rattle.std.specs.Prelude.{◌≡◌, ℕ, zero, suc, ◌+◌, ◌*◌, ◌/◌, ◌≤◌, Bool, cond, ◌&&◌, List, ◌++◌, map, length, drop, Ok, Err, Result, nat_le, nat_lt}
use Rattle.std.specs.List.{range_with_len}
use Rattle.film.specs.Frame.{Frame}
use Rattle.film.specs.Film.{Meaning}
use Rattle.film.specs.Faults.{Told, call}

-- the bytes of a row of w pixels
abbrev pub bytes_for : ℕ → ℕ
bytes_for w = (w + 7) / 8

-- n is that number, which is small
pub record RowLength (w n : ℕ) : Type 0 where
  pub is : n ≡ bytes_for w
  pub small : n ≤ 3750

-- column c of the row is a dark pixel of the film
abbrev pub inked : Meaning → ℕ → ℕ → Bool
inked m row c = nat_lt c m.frame.width && m.pixel c row

-- the number that n bits make, from bit c on, the first one the highest
abbrev pub binary : (ℕ → Bool) → ℕ → ℕ → ℕ
binary p c zero = 0
binary p c (suc n) = 2 * binary p c n + cond (p (c + n)) 1 0

-- byte k of the row
unfoldable pub byte_of : (ℕ → Bool) → ℕ → ℕ
byte_of p k = binary p (8 * k) 8

-- the bytes of the row
unfoldable pub row_bytes : Meaning → ℕ → List ℕ
row_bytes m row = map (byte_of (inked m row)) (range_with_len 0 (bytes_for m.frame.width))

-- a row off the film is refused with 4, an output of too few bytes with 5
abbrev pub pack_answer : Meaning → ℕ → ℕ → Result (Unit {0}) Told
pack_answer m row room =
    cond (nat_lt row m.frame.height) (cond (nat_le (bytes_for m.frame.width) room) (Ok tt) (Err (call 5))) (Err (call 4))

-- the bytes of a row, unless it is refused so
abbrev pub packed_length : Frame → ℕ → ℕ → Result ℕ Told
packed_length f row room =
    cond (nat_lt row f.height) (cond (nat_le (bytes_for f.width) room) (Ok (bytes_for f.width)) (Err (call 5))) (Err (call 4))

-- what an output then holds: the row's bytes at its front, or all as it was
abbrev pub packed : Meaning → ℕ → List ℕ → List ℕ
packed m row out =
    cond (nat_lt row m.frame.height && nat_le (bytes_for m.frame.width) (length out))
    (row_bytes m row ++ drop (bytes_for m.frame.width) out) out
