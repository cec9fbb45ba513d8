use Rattle.paint.proofs.pane.Pane.paint_area.Given as goal
use Rattle.paint.specs.Painted.{centre_covered, in_area}
use Rattle.paint.specs.Panes.{Repainted, seen_pane}
use Rattle.std.proofs.Common.{◌&&◌}

abbrev pub invariant-loop-row : goal.invariant-loop-row
invariant-loop-row g l =
    Repainted (seen_pane l.initial.self) (λ c r. in_area l.area.first l.area.end l.area.top l.row c r && centre_covered (g.F.Film.meaning l.initial.self.film.now) (g.S.Shape.covered l.shape) c r) l.dark (seen_pane l.self)
