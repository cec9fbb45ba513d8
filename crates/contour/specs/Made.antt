-- what making a contour answers
use Rattle.std.specs.Prelude.{cond, List, Some, None, Option}
use Rattle.plane.specs.declared.points.Placing.{Placing}
use Rattle.plane.specs.Points.{FilePoint, file_point_at}
use Rattle.contour.specs.declared.pieces.Piece.{Piece}
use Rattle.contour.specs.declared.contour.Contour.{Contour}
use Rattle.contour.specs.Closed.{closed_from}

-- where a contour begins, its pieces, and how they are placed
pub record Parts : Type 0 where
  pub start : FilePoint
  pub pieces : List Piece
  pub placing : Placing

-- what an answer shows of the contour that it holds
abbrev pub seen_contour : Option Contour → Option Parts
seen_contour (Some c) = Some (record { start = c.start; pieces = c.pieces.now; placing = c.placing })
seen_contour None = None

-- a contour that is not closed is refused
abbrev pub made_contour : FilePoint → List Piece → Placing → Option Parts
made_contour s ps pl = cond (closed_from (file_point_at s) ps) (Some (record { start = s; pieces = ps; placing = pl })) None
