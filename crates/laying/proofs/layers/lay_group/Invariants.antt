use Rattle.laying.proofs.Leaves.{Leads}
use Rattle.laying.proofs.layers.lay_group.Given as goal
use Rattle.laying.specs.Steps.{moved_objects}
use Rattle.paint.specs.Panes.{seen_pane}
use Rattle.std.proofs.Common.{drop}

abbrev pub invariant-loop-object : goal.invariant-loop-object
invariant-loop-object g l =
    Leads (seen_pane l.initial.pane) (moved_objects l.drawing l.shift l.objects) (seen_pane l.pane) (moved_objects l.drawing l.shift (drop l.object-index l.objects))
