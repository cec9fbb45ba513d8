use Rattle.std.proofs.Common.{rules}
use Rattle.plane.proofs.Equal.{int_eq_is}
use Rattle.strokes.proofs.arc_shape.in_sector.Goals as goal

pub returns-else-eq : goal.returns-else-eq
returns-else-eq c = search (rules, int_eq_is)
