-- placings, one within another
use Rattle.contour.specs.Chain.{differ}
use Rattle.laid.specs.Laws.{PlacingsCompose}
use Rattle.plane.specs.Placed.{turned}
use Rattle.std.proofs.lemmas.Int.{ints}
use Rattle.std.proofs.Common.{◌≡◌, Bool, true, false, ℤ, ◌+ℤ◌, arith}

turned_twice : (o i : Bool) (z at d : ℤ) → turned (differ o i) z +ℤ (turned o at +ℤ d) ≡ turned o (turned i z +ℤ at) +ℤ d
turned_twice true true z at d = omega (arith, ints)
turned_twice true false z at d = omega (arith, ints)
turned_twice false true z at d = omega (arith, ints)
turned_twice false false z at d = omega (arith, ints)

pub placings_compose : PlacingsCompose
placings_compose =
    record {
      point = λ o i a.
          let x = turned_twice o.mirror_x i.mirror_x a.x i.by.x o.by.x in
          let y = turned_twice o.mirror_y i.mirror_y a.y i.by.y o.by.y in
          cc;
    }
