use Rattle.laid.specs.Laid.{up_to}
use Rattle.laying.proofs.layers.lay_repeat.Given as goal
use Rattle.laying.specs.Lays.{Lays}
use Rattle.laying.specs.Steps.{column_at}
use Rattle.paint.specs.Panes.{seen_pane}

abbrev pub invariant-loop-a : goal.invariant-loop-a
invariant-loop-a g l = Lays (seen_pane l.initial.pane) (up_to l.a (column_at l.drawing l.repeat)) (seen_pane l.pane)
