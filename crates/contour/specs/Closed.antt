-- whether the pieces of a file lead back to where the first begins
use Rattle.std.specs.Prelude.{Bool, List, [], ◌∷◌}
use Rattle.plane.specs.Plane.{At, same}
use Rattle.plane.specs.Points.{file_point_at}
use Rattle.contour.specs.declared.pieces.Piece.{Piece}

-- the chain that stands at s ends at a
abbrev pub ends_at : At → At → List Piece → Bool
ends_at a s [] = same s a
ends_at a s (p ∷ ps) = ends_at a (file_point_at p.end) ps

-- the chain from a comes back to it
abbrev pub closed_from : At → List Piece → Bool
closed_from a ps = ends_at a a ps
