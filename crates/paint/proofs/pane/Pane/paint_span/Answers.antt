use Rattle.std.proofs.Common.{◌≡◌, ℕ, ◌<◌, ◌≤◌, Bool, true, false, ◌∙◌, subst, ⊎_elim, arith}
use Rattle.film.specs.Film.{in_span}
use Rattle.paint.proofs.Steps.{covered_by, row_join, row_skip}
use Rattle.paint.proofs.pane.Pane.paint_span.Goals as goal
use Rattle.paint.proofs.pane.Pane.paint_span.Goals.{else-not-covers, then-not-covers}
use Rattle.paint.specs.Painted.{centre_covered}
use Rattle.paint.specs.Panes.{Repainted, seen_pane}
use Rattle.std.proofs.lemmas.Bool.{cases_lt}

pub loop-col-preserved : goal.loop-col-preserved
loop-col-preserved g c =
    let now = c.loop-col in
    let held = now.invariant in
    let row = c.args.span.row in
    let first = c.args.span.first in
    let cov : ℕ → ℕ → Bool = centre_covered (g.F.Film.meaning c.args.self.now.film.now) (g.S.Shape.covered c.args.shape.now) in
    let f = c.args.self.now.told in
    let at = covered_by _ _ (g.S.Shape.covered c.args.shape.now) now.col row f c.centre.ensures.x c.centre.ensures.y c.covers.ensures in
    elim c.if-not-covers.branch [
      | then-not-covers w ↦
          let no : cov now.col row ≡ false = at ∙ w.if-not-covers.true in
          let put = subst (λ (r : ℕ). Repainted (seen_pane now.self) (in_span r now.rest.first now.col) c.args.dark (seen_pane w.put.new.self)) held.row w.put.ensures in
          let kept = row_join cov row c.args.dark _ first now.rest.first now.col _ _ held.begun held.upto held.painted held.covered put in
          simp (w.self-is, w.rest-is) (
          record {
            row = held.row;
            end = held.end;
            begun = omega arith;
            upto = omega arith;
            painted = row_skip cov row c.args.dark _ first now.col _ (omega arith) kept no;
            covered = λ k a b. absurd (omega arith);
          }
          )
      | else-not-covers w ↦
          let yes : cov now.col row ≡ true = at ∙ w.if-not-covers.false in
          simp (w.self-is, w.rest-is) (
          record {
            row = held.row;
            end = held.end;
            begun = held.begun;
            upto = omega arith;
            painted = held.painted;
            covered = λ k a b. ⊎_elim (λ (l : k < now.col). held.covered k a l) (λ (l : now.col ≤ k). let z : k ≡ now.col = omega arith in rw z yes) (cases_lt k now.col);
          }
          )
    ]
