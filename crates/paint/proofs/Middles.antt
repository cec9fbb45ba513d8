use Rattle.std.proofs.Common.{◌≡◌, ℕ, ◌+◌, ◌-◌, ◌*◌, ◌/◌, ◌<◌, ◌≤◌, nat_abs, mod-lt, mul-le-mul_left, mul-add, arith}
use Rattle.film.specs.Frame.{Frame, Limits}
use Rattle.paint.specs.Axes.{middle_of}
use Rattle.std.proofs.lemmas.Int.{ints}
use native.Mathlib.Nat.{div-add-mod}

-- the middle of a step before the edge's
pub below_div : (p d k : ℕ) → 2 ≤ p → k < d / p → p * k + p / 2 < d
below_div p d k h l =
    let s : k + 1 ≤ d / p = omega arith in omega (arith, simp mul-add at (mul-le-mul_left p s), div-add-mod d p)

-- the middle of a step past the edge's
pub past_div : (p d k : ℕ) → 2 ≤ p → d / p + 1 ≤ k → d < p * k + p / 2
past_div p d k h l =
    let z : 0 < p = omega arith in omega (arith, simp mul-add at (mul-le-mul_left p l), div-add-mod d p, mod-lt d z)

-- the middles of a film's columns and rows are points that shapes answer for
pub column_near : (f : Frame) → Limits f → (k : ℕ) → k < f.width → nat_abs (middle_of f.ox f.pitch k) ≤ 1000000
column_near f l k h = let a = (l.columns k h).0 in let b = (l.columns k h).1 in omega (arith, ints)

pub row_near : (f : Frame) → Limits f → (k : ℕ) → k < f.height → nat_abs (middle_of f.oy f.pitch k) ≤ 1000000
row_near f l k h =
    let r : f.height - 1 - k < f.height = omega arith in
    let same : f.height - 1 - (f.height - 1 - k) ≡ k = omega arith in
    let a = rw same at (l.rows (f.height - 1 - k) r).0 in
    let b = rw same at (l.rows (f.height - 1 - k) r).1 in
    omega (arith, ints)
