-- what follows from the definition of the contour
use Rattle.std.specs.Prelude.{◌≡◌, List, ◌++◌, map, ℤ, ◌+ℤ◌}
use Rattle.plane.specs.Plane.{At, moved}
use Rattle.contour.specs.Chain.{in_contour, contour_at, last_of}

-- a closed contour that is started at another of its points covers the same points
abbrev pub ContourRestarted : Type 0
ContourRestarted = (s : At) (es fs : List At) (p : At) → last_of s (es ++ fs) ≡ s → in_contour (last_of s es) (fs ++ es) p ≡ in_contour s (es ++ fs) p

-- moving a contour and the point together changes nothing
abbrev pub ContourMoves : Type 0
ContourMoves = (m s : At) (es : List At) (x y : ℤ) → contour_at (moved m s) (map (moved m) es) (x +ℤ m.x) (y +ℤ m.y) ≡ contour_at s es x y
