-- a chain of straight pieces: from s along the points es
use Rattle.std.specs.Prelude.{ℕ, ◌+◌, ◌%◌, Bool, true, false, cond, not, ◌&&◌, List, [], ◌∷◌, ℤ, pos, ◌==◌, int_le, int_lt}
use Rattle.plane.specs.declared.points.Bounds.{Bounds}
use Rattle.plane.specs.Plane.{At, spot, way, cross_of}

-- p lies left of the way up from lo to hi: cross(hi - lo, p - lo) > 0
abbrev pub left_of : At → At → At → Bool
left_of lo hi p = int_lt (pos 0) (cross_of (way lo hi) (way lo p))

-- the piece from s to e counts for p: exactly one end has y ≤ py, and p lies left of the way up from that end to the other
abbrev pub counts : At → At → At → Bool
counts s e p = cond (int_le s.y p.y) (not (int_le e.y p.y) && left_of s e p) (int_le e.y p.y && left_of e s p)

-- how many pieces of the chain count for p
abbrev pub crossings : At → List At → At → ℕ
crossings s [] p = 0
crossings s (e ∷ es) p = cond (counts s e p) 1 0 + crossings e es p

-- p is covered if the number of pieces that count is odd
unfoldable pub in_contour : At → List At → At → Bool
in_contour s es p = crossings s es p % 2 == 1

-- the points that the chain covers
abbrev pub contour_at : At → List At → ℤ → ℤ → Bool
contour_at s es x y = in_contour s es (spot x y)

-- the last point of the chain
abbrev pub last_of : At → List At → At
last_of s [] = s
last_of s (e ∷ es) = last_of e es

-- one of the two and not the other
abbrev pub differ : Bool → Bool → Bool
differ true b = not b
differ false b = b

-- the lesser of two numbers
unfoldable pub lesser_of : ℤ → ℤ → ℤ
lesser_of a b = cond (int_lt b a) b a

-- the greater of two numbers
unfoldable pub greater_of : ℤ → ℤ → ℤ
greater_of a b = cond (int_lt b a) a b

-- the box of one point
abbrev pub single : At → Bounds
single s = record { left = s.x; right = s.x; bottom = s.y; top = s.y }

-- the least box about b and s
abbrev pub grow : Bounds → At → Bounds
grow b s = record { left = lesser_of s.x b.left; right = greater_of s.x b.right; bottom = lesser_of s.y b.bottom; top = greater_of s.y b.top }

-- the least box about b and the points
abbrev pub box_from : Bounds → List At → Bounds
box_from b [] = b
box_from b (e ∷ es) = box_from (grow b e) es
