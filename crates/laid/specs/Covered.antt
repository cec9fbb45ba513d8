-- Which points a laid object covers, and what laid objects leave on a film.
use Rattle.std.specs.Prelude.{◌≡◌, ℕ, ◌<◌, Bool, cond, ◌&&◌, List, [], ◌∷◌, ℤ}
use Rattle.contour.specs.Chain.{contour_at}
use Rattle.film.specs.Film.{Meaning}
use Rattle.film.specs.Frame.{Frame, centre_x, centre_y}
use Rattle.film.specs.declared.window.Window.{Window}
use Rattle.laid.specs.Laid as laid
use Rattle.laid.specs.Laid.{LaidObject, LaidOutline}
use Rattle.paint.specs.Painted.{in_window}
use Rattle.shapes.specs.Flashes.{circle_at, obround_at, rectangle_at}
use Rattle.strokes.specs.Arcs.{arc_at}
use Rattle.strokes.specs.Strokes.{stroke_at}

-- The laid object covers the point (x, y), by the rule of its shape.
abbrev pub covers_point : LaidOutline → ℤ → ℤ → Bool
covers_point (laid.circle a h) = circle_at a h
covers_point (laid.rectangle a p q) = rectangle_at a p q
covers_point (laid.obround a p q) = obround_at a p q
covers_point (laid.stroke s e h) = stroke_at h s e
covers_point (laid.arc s e c clockwise h) = arc_at h clockwise c s e
covers_point (laid.contour a es) = contour_at a es

-- It covers the centre of column c, row r, within the window v.
abbrev pub covers_pixel : Frame → Window → LaidObject → ℕ → ℕ → Bool
covers_pixel f v o c r = in_window v c r && covers_point o.outline (centre_x f c) (centre_y f r)

-- A pixel that was `before`, once these objects are laid one after another within the window v.
abbrev pub shown_by : Frame → Window → ℕ → ℕ → Bool → List LaidObject → Bool
shown_by f v c r before [] = before
shown_by f v c r before (o ∷ os) = shown_by f v c r (cond (covers_pixel f v o c r) o.dark before) os

-- A film m is n once these objects are laid on it within the window v: its numbers as they were, and every pixel as
-- the objects leave it.
pub record LaidOn (m : Meaning) (v : Window) (os : List LaidObject) (n : Meaning) : Type 0 where
  pub frame : n.frame ≡ m.frame
  pub pixels : (c r : ℕ) → c < m.frame.width → r < m.frame.height → n.pixel c r ≡ shown_by m.frame v c r (m.pixel c r) os
