-- a contour on its placed points
use Rattle.std.specs.Prelude.{Bool, List, map, ℤ}
use Rattle.plane.specs.declared.points.Bounds.{Bounds}
use Rattle.plane.specs.declared.points.Placing.{Placing}
use Rattle.plane.specs.Plane.{At}
use Rattle.plane.specs.Points.{FilePoint, file_point_at}
use Rattle.plane.specs.Placed.{placed}
use Rattle.contour.specs.declared.pieces.Piece.{Piece}
use Rattle.contour.specs.Chain.{contour_at, single, box_from}

-- where a piece ends, once it is placed
abbrev pub piece_at : Placing → Piece → At
piece_at pl p = placed pl (file_point_at p.end)

-- the points that the placed contour covers
unfoldable pub contour_of : FilePoint → List Piece → Placing → ℤ → ℤ → Bool
contour_of s ps pl = contour_at (placed pl (file_point_at s)) (map (piece_at pl) ps)

-- the box of its placed points
abbrev pub box_of : FilePoint → List Piece → Placing → Bounds
box_of s ps pl = box_from (single (placed pl (file_point_at s))) (map (piece_at pl) ps)
