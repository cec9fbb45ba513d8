-- Numbers and windows as the code holds them.
use Rattle.std.specs.Prelude.{◌≡◌, ℕ, ◌+◌, ◌-◌, ◌*◌, ◌/◌, Bool, true, false, ◌&&◌, ℤ, pos, ◌+ℤ◌, Result, MatchResult, int_le, nat_le}
use Rattle.film.specs.declared.grid.Grid.{Grid}
use Rattle.film.specs.declared.numbers.Numbers.{Numbers}
use Rattle.film.specs.declared.window.Window.{Window}
use Rattle.film.specs.declared.fault.FilmFault.{FilmFault}
use Rattle.film.specs.Frame.{Frame, framed, in_limits, lowest, highest}
use Rattle.film.specs.Faults.{film_told, call}

-- the numbers that are asked for
abbrev pub grid_frame : Grid → Frame
grid_frame g = framed g.width g.height g.pitch g.ox g.oy

-- the numbers that the code holds
abbrev pub frame_of : Numbers → Frame
frame_of n = framed n.width n.height n.pitch n.ox n.oy

-- numbers within the limits are taken as they are, any others are refused with 1
abbrev pub NumbersMade : Frame → Result Numbers FilmFault → Type 0
NumbersMade f r = MatchResult r
    (λ n. (in_limits f ≡ true) × (frame_of n ≡ f))
    (λ e. (in_limits f ≡ false) × (film_told e ≡ call 1))

-- the window holds a pixel and does not go past the film's edge
abbrev pub window_on : Frame → Window → Bool
window_on f v = nat_le 1 v.width && nat_le 1 v.height && nat_le (v.x + v.width) f.width && nat_le (v.y + v.height) f.height

-- the first and the last of n centres from o on lie where a centre may
abbrev pub centred : ℤ → ℕ → ℕ → Bool
centred o p n = int_le lowest (o +ℤ pos (p * 0 + p / 2)) && int_le (o +ℤ pos (p * (n - 1) + p / 2)) highest
