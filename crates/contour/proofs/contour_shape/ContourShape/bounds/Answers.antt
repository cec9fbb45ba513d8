use Rattle.std.proofs.Common.{◌≡◌, List, map, subst, refl, ap, ◌∙◌, rules}
use Rattle.std.proofs.lemmas.Fn.{fold_over, slice_gives, fronts}
use Rattle.plane.specs.declared.points.Bounds.{Bounds}
use Rattle.plane.specs.Plane.{At}
use Rattle.contour.specs.declared.pieces.Piece.{Piece}
use Rattle.contour.specs.Placed.{piece_at}
use Rattle.contour.specs.Chain.{box_from, single}
use Rattle.contour.proofs.Walk.{box_push}
use Rattle.contour.proofs.Enclosed.{contour_boxed}
use Rattle.contour.proofs.contour_shape.ContourShape.bounds.Goals as goal

pub returns : goal.returns
returns c =
    record {
      value = subst (λ (ps : List Piece). c.fold.result ≡ box_from c.box_of.result (map (piece_at c.args.self.now.placing) ps)) c.iter.ensures.rest
          (fold_over fronts (λ y. y.now) _ (λ ps b. b ≡ box_from c.box_of.result (map (piece_at c.args.self.now.placing) ps)) _
          (λ ps a x b f' j k. let m = box_push (piece_at c.args.self.now.placing) c.box_of.result ps x.now in search rules)
          _ _ _ _ (slice_gives c.iter.result) refl c.fold.ensures.ran)
          ∙ ap (λ (b : Bounds). box_from b (map (piece_at c.args.self.now.placing) c.args.self.now.pieces.now)) c.box_of.ensures
          ∙ ap (λ (s : At). box_from (single s) (map (piece_at c.args.self.now.placing) c.args.self.now.pieces.now)) c.place.ensures;
      law = contour_boxed c.args.self.now.start c.args.self.now.pieces.now c.args.self.now.placing c.args.self.now.closed;
    }
