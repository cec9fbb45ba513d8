use Rattle.contour.specs.declared.pieces.Piece.{Piece}
use Rattle.laid.proofs.Slices.{front_of, rest_of}
use Rattle.laying.proofs.Pieces.{seen_part}
use Rattle.laying.proofs.contours.part.Goals as goal
use Rattle.std.proofs.Common.{◌≡◌, List, Bor, drop, take, refl, ap, ◌∙◌}

pub returns : goal.returns
returns c =
    let ps = c.args.pieces.now in
    let rest : c.unwrap_or-rest.result.now ≡ drop c.args.first ps =
    ap (λ (s : Bor (List Piece)). s.now) c.unwrap_or-rest.ensures ∙ rest_of ps c.args.first _ c.get.result refl c.get.ensures.lookup in
    let front : c.unwrap_or.result.now ≡ take c.args.count c.unwrap_or-rest.result.now =
    ap (λ (s : Bor (List Piece)). s.now) c.unwrap_or.ensures ∙ front_of c.unwrap_or-rest.result.now c.args.count c.unwrap_or-rest.result c.get-2.result refl c.get-2.ensures.lookup in
    seen_part ps c.args.first c.args.count _ (front ∙ ap (take c.args.count) rest)
