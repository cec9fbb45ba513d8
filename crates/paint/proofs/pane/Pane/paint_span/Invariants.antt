use Rattle.std.proofs.Common.{◌≡◌, ℕ, ◌<◌, ◌≤◌, true, ◌&&◌}
use Rattle.film.specs.Film.{in_span}
use Rattle.paint.proofs.pane.Pane.paint_span.Given as goal
use Rattle.paint.specs.Painted.{centre_covered}
use Rattle.paint.specs.Panes.{Repainted, seen_pane}

abbrev pub invariant-loop-col : goal.invariant-loop-col
invariant-loop-col g l =
    record {
      row : l.rest.row ≡ l.span.row;
      end : l.rest.end ≡ l.span.end;
      begun : l.span.first ≤ l.rest.first;
      upto : l.rest.first ≤ l.col;
      painted : Repainted (seen_pane l.initial.self) (λ c r. in_span l.span.row l.span.first l.rest.first c r && centre_covered (g.F.Film.meaning l.initial.self.film.now) (g.S.Shape.covered l.shape) c r) l.dark (seen_pane l.self);
      covered : (k : ℕ) → l.rest.first ≤ k → k < l.col → centre_covered (g.F.Film.meaning l.initial.self.film.now) (g.S.Shape.covered l.shape) k l.span.row ≡ true;
    }
