use Rattle.laid.specs.Stacks.{left, turns_left}
use Rattle.laying.proofs.Leaves.{Leads}
use Rattle.laying.proofs.layers.lay_moved.Given as goal
use Rattle.paint.specs.Panes.{seen_pane}

abbrev pub invariant-loop-stack : goal.invariant-loop-stack
invariant-loop-stack g l = Leads (seen_pane l.initial.pane) (left l.drawing l.initial.stack) (seen_pane l.pane) (left l.drawing l.stack)

abbrev pub decreases-loop-stack : goal.decreases-loop-stack
decreases-loop-stack g l = turns_left l.drawing l.stack
