-- the stroke along an arc about c from s to e
use Rattle.std.specs.Prelude.{ℕ, zero, suc, ◌+◌, ◌*◌, max, Bool, cond, not, ◌&&◌, ◌||◌, ℤ, pos, ◌-ℤ◌, ◌*ℤ◌, int_le, int_lt, nat_le, nat_lt, unsigned_abs}
use Rattle.plane.specs.declared.points.Bounds.{Bounds}
use Rattle.plane.specs.Plane.{At, spot, way, cross_of, norm_of, same}
use Rattle.shapes.specs.Box.{box_about}
use Rattle.shapes.specs.Flashes.{in_circle}

-- t lies in the turn from u counterclockwise to v: if cross(u, v) ≥ 0, cross(u, t) ≥ 0 and cross(t, v) ≥ 0; otherwise not both cross(v, t) > 0 and cross(t, u) > 0
abbrev pub in_turn : At → At → At → Bool
in_turn u v t = cond (int_le (pos 0) (cross_of u v)) (int_le (pos 0) (cross_of u t) && int_le (pos 0) (cross_of t v)) (not (int_lt (pos 0) (cross_of v t) && int_lt (pos 0) (cross_of t u)))

-- the sector of the counterclockwise arc: all points if s = e, else the turn from s - c to e - c
abbrev pub in_sector : At → At → At → At → Bool
in_sector c s e p = same s e || in_turn (way c s) (way c e) (way c p)

-- a clockwise arc has the sector of the counterclockwise arc from e to s
abbrev pub in_sweep : Bool → At → At → At → At → Bool
in_sweep clockwise c s e p = cond clockwise (in_sector c e s p) (in_sector c s e p)

-- k = |t|² - N - r²
abbrev pub excess_of : ℕ → ℤ → At → ℤ
excess_of r n t = (norm_of t -ℤ n) -ℤ pos (r * r)

-- k² ≤ 4 r² N
abbrev pub is_close : ℕ → ℤ → ℤ → Bool
is_close r n k = int_le (k *ℤ k) ((pos 4 *ℤ pos (r * r)) *ℤ n)

-- the outer edge holds: k ≤ 0 or k² ≤ 4 r² N; and the inner edge: r² ≥ N, k ≥ 0 or k² ≤ 4 r² N
unfoldable pub in_ring : ℕ → ℤ → ℤ → Bool
in_ring r n k = (int_le k (pos 0) || is_close r n k) && (int_le n (pos (r * r)) || int_le (pos 0) k || is_close r n k)

-- the ring about c, r to either side of the circle through s: N = |s - c|² and t = p - c
abbrev pub in_ring_of : ℕ → At → At → At → Bool
in_ring_of r c s p = in_ring r (norm_of (way c s)) (excess_of r (norm_of (way c s)) (way c p))

-- the arc stroke with half r > 0: the circles at s and e, and the points of its sector that lie in its ring
abbrev pub in_arc : ℕ → Bool → At → At → At → At → Bool
in_arc r clockwise c s e p = nat_lt 0 r && (in_circle r (way s p) || in_circle r (way e p) || (in_sweep clockwise c s e p && in_ring_of r c s p))

-- the points that the arc stroke covers
unfoldable pub arc_at : ℕ → Bool → At → At → At → ℤ → ℤ → Bool
arc_at r clockwise c s e x y = in_arc r clockwise c s e (spot x y)

-- the greatest whole number whose square is at most n
unfoldable pub root : ℕ → ℕ
root zero = 0
root (suc n) = cond (nat_le (suc (root n) * suc (root n)) (suc n)) (suc (root n)) (root n)

-- how far the middle line of an arc comes from its centre on either axis: the whole part of |u|, or the parts of v
abbrev pub reach_of : At → At → ℕ
reach_of u v = max (root (unsigned_abs (norm_of u))) (max (unsigned_abs v.x) (unsigned_abs v.y))

-- the box about the circle of the outer edge, and about the circle at e
abbrev pub arc_box : ℕ → At → At → At → Bounds
arc_box r c s e = box_about c (reach_of (way c s) (way c e) + r) (reach_of (way c s) (way c e) + r)
