use Rattle.std.proofs.Common.{◌≡◌, List, map, drop, sym, ap, ◌∙◌}
use Rattle.std.proofs.lemmas.List.{drop_all}
use Rattle.plane.specs.Plane.{At}
use Rattle.plane.specs.Points.{place_at, point_at}
use Rattle.contour.specs.declared.pieces.Piece.{Piece}
use Rattle.contour.specs.Placed.{piece_at, contour_of}
use Rattle.contour.specs.Chain.{differ}
use Rattle.contour.proofs.Parity.{parity, odd_parity, differ_false, differ_is}
use Rattle.contour.proofs.Walk.{parity_more}
use Rattle.contour.proofs.contour_shape.ContourShape.covers.Goals as goal

pub loop-piece-preserved : goal.loop-piece-preserved
loop-piece-preserved c =
    parity_more (piece_at c.args.self.now.placing) c.args.self.now.pieces.now c.loop-piece.piece-index c.piece-item.result (place_at c.loop-piece.at) (place_at c.place-end.result) (point_at c.args.p) c.loop-piece.inside _ _ c.loop-piece-test.true c.piece-item.is c.place-end.ensures
    (differ_is c.loop-piece.inside c.piece_counts-inside.result ∙ ap (differ c.loop-piece.inside) c.piece_counts-inside.ensures)
    c.loop-piece.invariant

pub returns : goal.returns
unfolding contour_of
returns c =
    let es : List At = map (piece_at c.args.self.now.placing) c.args.self.now.pieces.now in
    let end : drop c.loop-piece.piece-index c.args.self.now.pieces.now ≡ _ = drop_all c.loop-piece.piece-index c.args.self.now.pieces.now c.loop-piece-test.false in
    let last : parity (place_at c.place-at.result) es (point_at c.args.p) ≡ differ c.loop-piece.inside _ =
    c.loop-piece.invariant ∙ ap (λ (ps : List Piece). differ c.loop-piece.inside (parity (place_at c.loop-piece.at) (map (piece_at c.args.self.now.placing) ps) (point_at c.args.p))) end in
    sym (odd_parity _ es _ ∙ (ap (λ (s : At). parity s es (point_at c.args.p)) (sym c.place-at.ensures) ∙ (last ∙ differ_false c.loop-piece.inside)))
