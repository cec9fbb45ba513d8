use Rattle.std.proofs.Common.{◌≡◌, map, drop}
use Rattle.plane.specs.Points.{place_at, point_at}
use Rattle.contour.specs.Placed.{piece_at}
use Rattle.contour.specs.Chain.{differ}
use Rattle.contour.proofs.Parity.{parity}
use Rattle.contour.proofs.contour_shape.ContourShape.covers.Given as goal

abbrev pub invariant-loop-piece : goal.invariant-loop-piece
invariant-loop-piece l = parity (place_at l.initial.at) (map (piece_at l.self.placing) l.self.pieces.now) (point_at l.p) ≡ differ l.inside (parity (place_at l.at) (map (piece_at l.self.placing) (drop l.piece-index l.self.pieces.now)) (point_at l.p))
