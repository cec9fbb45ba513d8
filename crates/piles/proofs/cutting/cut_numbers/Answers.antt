use Rattle.std.proofs.Common.{◌≡◌, ◌-◌, ◌*◌, pos, ◌+ℤ◌, ap, arith, w32, to_z, of_z}
use Rattle.std.proofs.lemmas.Int.{ints}
use Rattle.film.specs.Made.{frame_of}
use Rattle.film.proofs.Limiting.{limits_of, limits_from, narrow, short}
use Rattle.piles.proofs.Comparing.{on_of}
use Rattle.piles.proofs.Windows.{cut_limits, origin_x, origin_y}
use Rattle.piles.proofs.cutting.cut_numbers.Goals as goal

pub shifted-ox-requires : goal.shifted-ox-requires
shifted-ox-requires c =
    let f = frame_of c.args.n in
    let l = limits_of f c.args.n.ok in
    let o = on_of f c.args.v c.requires in
    let x = origin_x f l in
    (l.most, (omega (arith, narrow f l), (omega (arith, ints, x.0, x.1), omega (arith, ints, x.0, x.1))))

pub shifted-oy-requires : goal.shifted-oy-requires
shifted-oy-requires c =
    let f = frame_of c.args.n in
    let l = limits_of f c.args.n.ok in
    let y = origin_y f l in
    (l.most, (omega (arith, short f l), (omega (arith, ints, y.0, y.1), omega (arith, ints, y.0, y.1))))

pub invariant_of-result : goal.invariant_of-result
invariant_of-result c =
    let n = c.args.n in
    let v = c.args.v in
    let f = frame_of n in
    let l = limits_of f n.ok in
    let k = limits_from _ (cut_limits f v l c.requires) in
    let x : to_z w32 (of_z w32 c.shifted-ox.result) ≡ n.ox +ℤ pos (n.pitch * v.x) = let o = origin_x f l in omega (arith, ints, o.0, o.1) in
    let y : to_z w32 (of_z w32 c.shifted-oy.result) ≡ n.oy +ℤ pos (n.pitch * (n.height - v.y - v.height)) = let o = origin_y f l in let k = ap (λ r. n.pitch * r) c.rows_below.ensures in omega (arith, ints, o.0, o.1) in
    record { ok = simp (x, y) k }
