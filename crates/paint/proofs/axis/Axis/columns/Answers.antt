use Rattle.film.proofs.Limiting.{limits_of}
use Rattle.film.specs.Made.{frame_of}
use Rattle.paint.proofs.Middles.{column_near}
use Rattle.paint.proofs.axis.Axis.columns.Goals as goal
use Rattle.std.proofs.Common.{arith, w32, SFits, rules}
use Rattle.std.proofs.lemmas.Int.{ints}

pub invariant_of-result : goal.invariant_of-result
invariant_of-result c =
    let l = limits_of (frame_of c.args.n) c.args.n.ok in
    let fits : SFits w32 c.args.n.ox = search rules in
    record { least = l.least; most = l.most; length = l.across; near = λ k h. omega (arith, ints, column_near (frame_of c.args.n) l k h) }
