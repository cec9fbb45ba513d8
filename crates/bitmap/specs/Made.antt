-- Making a bitmap.
use Rattle.std.specs.Prelude.{◌≡◌, ℕ, ◌*◌, ◌<◌, false, cond, List, ◌++◌, drop, replicate, Some, None, Option, nat_le}
use Rattle.film.specs.Frame.{Frame, in_limits}
use Rattle.film.specs.Faults.{Told, call}
use Rattle.film.specs.Made.{frame_of}
use Rattle.film.specs.Packed.{bytes_for}
use Rattle.film.specs.declared.numbers.Numbers.{Numbers}
use Rattle.bitmap.specs.Pixels.{bitmap_meaning, own_bytes}

-- why a bitmap of these numbers is refused over so many bytes, if it is: numbers outside their
-- limits are refused with 1, too few bytes with 2
abbrev pub bitmap_refusal : Frame → ℕ → Option Told
bitmap_refusal f room = cond (in_limits f) (cond (nat_le (f.height * bytes_for f.width) room) None (Some (call 2))) (Some (call 1))

-- a new bitmap has the numbers that it was made with, its own bytes are 0 and the others as they
-- were in the memory, and every pixel is clear
pub record NewBitmap (f : Frame) (memory : List ℕ) (n : Numbers) (held : List ℕ) : Type 0 where
  pub frame : frame_of n ≡ f
  pub bytes : held ≡ replicate (own_bytes n) 0 ++ drop (own_bytes n) memory
  pub clear : (c r : ℕ) → c < f.width → r < f.height → (bitmap_meaning held n).pixel c r ≡ false
