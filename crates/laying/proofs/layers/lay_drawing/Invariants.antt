use Rattle.laying.proofs.Leaves.{Leads}
use Rattle.laying.proofs.layers.lay_drawing.Given as goal
use Rattle.laying.specs.Steps.{from_number, whole_of}
use Rattle.paint.specs.Panes.{seen_pane}

abbrev pub invariant-loop-i : goal.invariant-loop-i
invariant-loop-i g l = Leads (seen_pane l.initial.pane) (whole_of l.drawing) (seen_pane l.pane) (from_number l.drawing l.i)
