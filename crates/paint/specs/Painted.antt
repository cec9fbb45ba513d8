-- What painting leaves on a film.
use Rattle.std.specs.Prelude.{◌≡◌, ℕ, ◌+◌, ◌<◌, ◌≤◌, Bool, true, false, cond, ◌&&◌, ℤ, Ok, Err, Result, nat_le, nat_lt}
use Rattle.film.specs.Faults.{call, film_told}
use Rattle.film.specs.Film.{Meaning}
use Rattle.film.specs.Frame.{Frame, centre_x, centre_y}
use Rattle.film.specs.Made.{window_on}
use Rattle.film.specs.declared.fault.FilmFault.{FilmFault}
use Rattle.film.specs.declared.window.Window.{Window}
use Rattle.paint.specs.declared.area.Area.{Area}
use Rattle.plane.specs.declared.points.Bounds.{Bounds}
use Rattle.shapes.specs.Box.{Inside}

-- column c, row r is one of columns a to b − 1 and rows t to f − 1
abbrev pub in_area : ℕ → ℕ → ℕ → ℕ → ℕ → ℕ → Bool
in_area a b t f c r = (nat_le t r && nat_lt r f) && (nat_le a c && nat_lt c b)

-- column c, row r is one of the window's
abbrev pub in_window : Window → ℕ → ℕ → Bool
in_window v c r = in_area v.x (v.x + v.width) v.y (v.y + v.height) c r

-- the centre of column c, row r is covered
abbrev pub centre_covered : Meaning → (ℤ → ℤ → Bool) → ℕ → ℕ → Bool
centre_covered m covered c r = covered (centre_x m.frame c) (centre_y m.frame r)

-- a film m then is n: its numbers as they were, the pixels where p holds as dark says, every other as it was
pub record Painted (m : Meaning) (p : ℕ → ℕ → Bool) (dark : Bool) (n : Meaning) : Type 0 where
  pub frame : n.frame ≡ m.frame
  pub pixels : (c r : ℕ) → c < m.frame.width → r < m.frame.height → n.pixel c r ≡ cond (p c r) dark (m.pixel c r)

-- Painting a shape within a window of the film m answers and leaves n: within a good window the pixels whose
-- centres are covered are written; a window that is empty or past the edge is refused with 3, and nothing changes.
abbrev pub PaintOutcome : Meaning → Window → (ℤ → ℤ → Bool) → Bool → Result (Unit {0}) FilmFault → Meaning → Type 0
PaintOutcome m v covered dark (Ok u) n = (window_on m.frame v ≡ true) × Painted m (λ c r. in_window v c r && centre_covered m covered c r) dark n
PaintOutcome m v covered dark (Err e) n = (window_on m.frame v ≡ false) × (film_told e ≡ call 3) × (n ≡ m)

-- the area a of a film f is what a box b reaches of a window v: it lies in the window, and each pixel of the
-- window whose centre lies in the box is in it
pub record Clipped (f : Frame) (v : Window) (b : Bounds) (a : Area) : Type 0 where
  pub across : a.first ≤ a.end
  pub wide : a.end ≤ f.width
  pub down : a.top ≤ a.foot
  pub tall : a.foot ≤ f.height
  pub left : v.x ≤ a.first
  pub right : a.first < a.end → a.end ≤ v.x + v.width
  pub upper : v.y ≤ a.top
  pub lower : a.top < a.foot → a.foot ≤ v.y + v.height
  pub holds : (c r : ℕ) → c < v.x + v.width → v.x ≤ c → r < v.y + v.height → v.y ≤ r → Inside b (centre_x f c) (centre_y f r)
      → (a.first ≤ c) × (c < a.end) × (a.top ≤ r) × (r < a.foot)
