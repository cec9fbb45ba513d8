use Rattle.std.proofs.Common.{◌≡◌, ◌+ℤ◌, ◌-ℤ◌, pos, SFits, w32, to_z, rules, arith}
use borrow.Author.Differences.{ints}
use Rattle.std.proofs.lemmas.Int.{clamps, to_z-of_z}
use Rattle.plane.specs.Points.{place_at}
use Rattle.strokes.proofs.Bands.{stroke_boxed}
use Rattle.strokes.proofs.stroke_shape.StrokeShape.bounds.Goals as goal

pub overflow_add-result-2 : goal.overflow_add-result-2
overflow_add-result-2 c =
    let r : to_z w32 c.args.self.now.half.ticks ≡ pos c.args.self.now.half.ticks = search rules in
    let top : SFits w32 (c.max-2.result +ℤ pos c.args.self.now.half.ticks) = omega (arith, ints, clamps) in
    search (rules, to_z-of_z)

pub returns : goal.returns
returns c =
    let r : to_z w32 c.args.self.now.half.ticks ≡ pos c.args.self.now.half.ticks = search rules in
    let left : SFits w32 (c.min.result -ℤ pos c.args.self.now.half.ticks) = omega (arith, ints, clamps) in
    let right : SFits w32 (c.max.result +ℤ pos c.args.self.now.half.ticks) = omega (arith, ints, clamps) in
    let bottom : SFits w32 (c.min-2.result -ℤ pos c.args.self.now.half.ticks) = omega (arith, ints, clamps) in
    let top : SFits w32 (c.max-2.result +ℤ pos c.args.self.now.half.ticks) = omega (arith, ints, clamps) in
    record { value = search (rules, to_z-of_z); law = stroke_boxed c.args.self.now.half.ticks (place_at c.args.self.now.start) (place_at c.args.self.now.end) }
