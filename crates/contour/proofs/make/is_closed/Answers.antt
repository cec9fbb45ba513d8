use Rattle.std.proofs.Common.{rules}
use Rattle.plane.specs.Points.{file_point_at}
use Rattle.plane.proofs.Equal.{int_eq_is}
use Rattle.contour.proofs.Walk.{closed_is}
use Rattle.contour.proofs.make.is_closed.Goals as goal

pub returns : goal.returns
returns c = closed_is (file_point_at c.args.start) c.args.pieces.now c.last.result c.is_none_or.result c.last.ensures.item (λ x p. search (rules, int_eq_is)) c.is_none_or.ensures
