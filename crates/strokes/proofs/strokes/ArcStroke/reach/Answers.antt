use Rattle.std.proofs.Common.{◌≡◌, nat_abs, ap, ◌∙◌, rules, arith}
use borrow.Author.Differences.{ints}
use Rattle.strokes.specs.Arcs.{root}
use Rattle.strokes.proofs.Rings.{root_is}
use Rattle.strokes.proofs.strokes.ArcStroke.reach.Goals as goal

pub returns : goal.returns
returns c =
    let n : c.unsigned_abs.result ≡ nat_abs c.norm.result = c.unsigned_abs.ensures.value ∙ omega (arith, ints) in
    let r : c.isqrt-radius.result ≡ root (nat_abs c.norm.result) = root_is c.unsigned_abs.result c.isqrt-radius.result c.isqrt-radius.ensures.square_le c.isqrt-radius.ensures.next_square_gt ∙ ap root n in
    let x : c.unsigned_abs-2.result ≡ nat_abs c.way_to-to_end.result.x = c.unsigned_abs-2.ensures.value ∙ omega (arith, ints) in
    let y : c.unsigned_abs-3.result ≡ nat_abs c.way_to-to_end.result.y = c.unsigned_abs-3.ensures.value ∙ omega (arith, ints) in
    search rules
