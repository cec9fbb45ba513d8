-- the straight stroke
use Rattle.std.specs.Prelude.{ℕ, ◌*◌, Bool, not, ◌&&◌, ◌||◌, ℤ, pos, ◌+ℤ◌, ◌-ℤ◌, ◌*ℤ◌, int_le, nat_lt}
use Rattle.std.specs.Int.{int_min, int_max}
use Rattle.plane.specs.declared.points.Bounds.{Bounds}
use Rattle.plane.specs.Plane.{At, spot, way, cross_of, dot_of, norm_of, same}
use Rattle.shapes.specs.Flashes.{in_circle}

-- beside the way d, at most r from it: with N = |d|², 0 ≤ dot(d, w) ≤ N and cross(d, w)² ≤ r² N
abbrev pub in_band : ℕ → At → At → Bool
in_band r d w = int_le (pos 0) (dot_of d w) && int_le (dot_of d w) (norm_of d) && int_le (cross_of d w *ℤ cross_of d w) (pos (r * r) *ℤ norm_of d)

-- the stroke from s to e with half r > 0: the circles at s and e, and where s ≠ e the band between them
abbrev pub in_stroke : ℕ → At → At → At → Bool
in_stroke r s e p = nat_lt 0 r && (in_circle r (way s p) || in_circle r (way e p) || (not (same s e) && in_band r (way s e) (way s p)))

-- the points that the stroke covers
unfoldable pub stroke_at : ℕ → At → At → ℤ → ℤ → Bool
stroke_at r s e x y = in_stroke r s e (spot x y)

-- the least box about the circles at s and e
abbrev pub stroke_box : ℕ → At → At → Bounds
stroke_box r s e = record { left = int_min s.x e.x -ℤ pos r; right = int_max s.x e.x +ℤ pos r; bottom = int_min s.y e.y -ℤ pos r; top = int_max s.y e.y +ℤ pos r }
