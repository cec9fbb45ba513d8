-- the shapes of a flash; w is the way from the place of the shape to the point that is asked about
use Rattle.std.specs.Prelude.{ℕ, ◌-◌, ◌*◌, Bool, cond, ◌&&◌, ◌||◌, ℤ, pos, ◌+ℤ◌, ◌-ℤ◌, int_le, nat_le, nat_lt, unsigned_abs}
use Rattle.plane.specs.Plane.{At, spot, way, norm_of}

-- |w|² ≤ r²
abbrev pub near : ℕ → At → Bool
near r w = int_le (norm_of w) (pos (r * r))

-- the circle of half r: r > 0 and |w|² ≤ r²
abbrev pub in_circle : ℕ → At → Bool
in_circle r w = nat_lt 0 r && near r w

-- the rectangle of halves a and b: |wx| ≤ a and |wy| ≤ b
abbrev pub in_rectangle : ℕ → ℕ → At → Bool
in_rectangle a b w = nat_le (unsigned_abs w.x) a && nat_le (unsigned_abs w.y) b

-- the obround whose middle line lies along x, e to either side: |wx| ≤ e and |wy| ≤ b, or |w - (e, 0)|² ≤ b², or |w + (e, 0)|² ≤ b²
abbrev pub in_lying : ℕ → ℕ → At → Bool
in_lying e b w = in_rectangle e b w || near b (spot (w.x -ℤ pos e) w.y) || near b (spot (w.x +ℤ pos e) w.y)

-- the obround of halves a and b: with a ≥ b its middle line is a - b to either side; with a < b the axes are exchanged
abbrev pub in_obround : ℕ → ℕ → At → Bool
in_obround a b w = cond (nat_le b a) (in_lying (a - b) b w) (in_lying (b - a) a (spot w.y w.x))

-- the points that a shape at q covers

unfoldable pub circle_at : At → ℕ → ℤ → ℤ → Bool
circle_at q r x y = in_circle r (way q (spot x y))

unfoldable pub rectangle_at : At → ℕ → ℕ → ℤ → ℤ → Bool
rectangle_at q a b x y = in_rectangle a b (way q (spot x y))

unfoldable pub obround_at : At → ℕ → ℕ → ℤ → ℤ → Bool
obround_at q a b x y = in_obround a b (way q (spot x y))
