use Rattle.std.proofs.Common.{◌≡◌, Bool, true, false, ◌&&◌, sym, ◌∙◌, arith, rules}
use Rattle.std.proofs.lemmas.Bool.Decides.{nat_tests}
use Rattle.std.proofs.lemmas.Int.{ints}
use Rattle.film.specs.Frame.{sized}
use Rattle.film.specs.Made.{grid_frame, centred}
use Rattle.film.proofs.Limiting.{limits_is}
use Rattle.film.proofs.grid.Grid.is_within.Goals.{then-is_sized, else-is_sized}
use Rattle.film.proofs.grid.Grid.is_within.Goals as goal

both : (v a b d r : Bool) → v ≡ (a && b) → v ≡ true → r ≡ d → r ≡ (a && (b && d))
both v a b d r e h q = grind (arith, nat_tests)

neither : (v a b d : Bool) → v ≡ (a && b) → v ≡ false → v ≡ (a && (b && d))
neither v a b d e h = grind (arith, nat_tests)

pub returns-then-is_centred : goal.returns-then-is_centred
returns-then-is_centred c =
    let g = grid_frame c.args.self in
    let v : c.if-is_sized.value ≡ (sized g.width g.height g.pitch && centred g.ox g.pitch g.width) = elim c.if-is_sized.branch [ then-is_sized w ↦ grind (arith, nat_tests, ints) | else-is_sized w ↦ grind (arith, nat_tests) ] in
    let y : c.is_centred-then-is_centred.result ≡ centred g.oy g.pitch g.height = search (rules, ints) in
    both _ _ _ _ _ v c.if-is_centred.true y ∙ sym (limits_is g)

pub returns-else-is_centred : goal.returns-else-is_centred
returns-else-is_centred c =
    let g = grid_frame c.args.self in
    let v : c.if-is_sized.value ≡ (sized g.width g.height g.pitch && centred g.ox g.pitch g.width) = elim c.if-is_sized.branch [ then-is_sized w ↦ grind (arith, nat_tests, ints) | else-is_sized w ↦ grind (arith, nat_tests) ] in
    neither _ _ _ (centred g.oy g.pitch g.height) v c.if-is_centred.false ∙ sym (limits_is g)
