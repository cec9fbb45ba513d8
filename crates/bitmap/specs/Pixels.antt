-- The pixels in a bitmap's bytes: rows of ⌈w/8⌉ bytes, the leftmost pixel in the highest bit.
use Rattle.std.specs.Prelude.{ℕ, ◌+◌, ◌*◌, Bool, ◌&&◌, List, [], drop, nat_le, nat_lt}
use Rattle.bits.specs.Bits.{bit_of}
use Rattle.film.specs.Film.{Meaning, Beside}
use Rattle.film.specs.Made.{frame_of}
use Rattle.film.specs.Packed.{bytes_for}
use Rattle.film.specs.declared.numbers.Numbers.{Numbers}

-- bit c of row r: a pixel where c is below w, else a padding bit
abbrev pub pixel_of : List ℕ → ℕ → ℕ → ℕ → Bool
pixel_of bytes w c r = bit_of bytes (r * (8 * bytes_for w) + c)

-- bit c of row r is a padding bit
abbrev pub padding : Numbers → ℕ → ℕ → Bool
padding n c r = nat_lt r n.height && (nat_le n.width c && nat_lt c (8 * bytes_for n.width))

-- the film's own bytes
abbrev pub own_bytes : Numbers → ℕ
own_bytes n = n.height * bytes_for n.width

-- what a bitmap with these bytes and numbers means
abbrev pub bitmap_meaning : List ℕ → Numbers → Meaning
bitmap_meaning bytes n = record { frame = frame_of n; pixel = λ c r. pixel_of bytes n.width c r }

-- the bytes past the film's own
abbrev pub bitmap_beside : List ℕ → Numbers → Beside
bitmap_beside bytes n = record { memory = drop (own_bytes n) bytes; pixels = [] }
