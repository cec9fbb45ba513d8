use Rattle.laid.specs.Laid.{up_to}
use Rattle.laying.proofs.layers.lay_column.Given as goal
use Rattle.laying.specs.Lays.{Lays}
use Rattle.laying.specs.Steps.{copy_at}
use Rattle.paint.specs.Panes.{seen_pane}

abbrev pub invariant-loop-b : goal.invariant-loop-b
invariant-loop-b g l = Lays (seen_pane l.initial.pane) (up_to l.b (copy_at l.drawing l.repeat l.a)) (seen_pane l.pane)
