use Rattle.std.proofs.Common.{SFits, w64, ◌-ℤ◌, rules, arith}
use borrow.Author.Differences.{ints}
use Rattle.std.proofs.lemmas.Int.{to_z-of_z}
use Rattle.strokes.proofs.strokes.ArcStroke.in_ring.Goals as goal

pub overflow_sub-k-2 : goal.overflow_sub-k-2
overflow_sub-k-2 c =
    let d : SFits w64 (c.norm.result -ℤ c.norm-n.result) = omega (arith, ints) in
    let e : SFits w64 ((c.norm.result -ℤ c.norm-n.result) -ℤ c.squared.result) = omega (arith, ints) in
    search (rules, to_z-of_z)

pub returns : goal.returns
returns c =
    let d : SFits w64 (c.norm.result -ℤ c.norm-n.result) = omega (arith, ints) in
    let e : SFits w64 ((c.norm.result -ℤ c.norm-n.result) -ℤ c.squared.result) = omega (arith, ints) in
    search (rules, to_z-of_z)
