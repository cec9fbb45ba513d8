use Rattle.std.proofs.Common.{rules}
use Rattle.strokes.proofs.arc_shape.in_turn.Goals.{then-cross-gt0, else-cross-gt0}
use Rattle.strokes.proofs.arc_shape.in_turn.Goals as goal

pub returns-after-cross-gt0 : goal.returns-after-cross-gt0
returns-after-cross-gt0 c = elim c.if-cross-gt0.branch [ then-cross-gt0 w ↦ search rules | else-cross-gt0 w ↦ search rules ]
