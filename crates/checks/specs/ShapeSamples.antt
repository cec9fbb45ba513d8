-- worked examples of what the shapes cover
use Rattle.std.specs.Prelude.{ℕ, Bool, true, false, not, List, [], ◌∷◌, ℤ, pos, neg_ℤ}
use Rattle.plane.specs.Plane.{At, spot}
use Rattle.strokes.specs.Strokes.{stroke_at}
use Rattle.strokes.specs.Arcs.{arc_at}
use Rattle.contour.specs.Chain.{contour_at}

-- a number below 0
abbrev minus : ℕ → ℤ
minus n = neg_ℤ (pos n)

-- a point with no number below 0
abbrev point : ℕ → ℕ → At
point x y = spot (pos x) (pos y)

-- the stroke from (0, 0) to (30, 40) of half 5
abbrev pub slanted : ℤ → ℤ → Bool
slanted = stroke_at 5 (point 0 0) (point 30 40)

-- the stroke of no length at (0, 0), of half 5
abbrev pub still : ℤ → ℤ → Bool
still = stroke_at 5 (point 0 0) (point 0 0)

-- the arc about (0, 0) from (50, 0) to (0, 50) of half 10, clockwise or not
abbrev pub bow : Bool → ℤ → ℤ → Bool
bow clockwise = arc_at 10 clockwise (point 0 0) (point 50 0) (point 0 50)

-- the contour (0, 0), (10, 0), (10, 10), (0, 10), (0, 0)
abbrev pub tile : ℤ → ℤ → Bool
tile = contour_at (point 0 0) (point 10 0 ∷ point 10 10 ∷ point 0 10 ∷ point 0 0 ∷ [])

-- each of these is to be true
abbrev pub shape_samples : List Bool
shape_samples =
    slanted (pos 11) (pos 23) ∷ not (slanted (pos 11) (pos 24)) ∷
    still (pos 3) (pos 4) ∷ not (still (pos 4) (pos 4)) ∷
    bow false (pos 36) (pos 48) ∷ bow false (pos 24) (pos 32) ∷ bow false (minus 3) (pos 52) ∷ not (bow false (pos 37) (pos 48)) ∷ not (bow false (minus 36) (pos 48)) ∷
    bow true (minus 36) (pos 48) ∷ not (bow true (pos 36) (pos 48)) ∷
    tile (pos 0) (pos 0) ∷ tile (pos 0) (pos 5) ∷ not (tile (pos 10) (pos 5)) ∷ not (tile (pos 5) (pos 10)) ∷ []
