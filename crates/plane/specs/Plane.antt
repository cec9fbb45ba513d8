-- whole points of the plane, and what is measured between them
use Rattle.std.specs.Prelude.{Bool, false, ◌&&◌, ℤ, pos, negsuc, ◌+ℤ◌, ◌-ℤ◌, ◌*ℤ◌, ◌==◌}

-- a point, or the way from one point to another
pub record At : Type 0 where
  pub x : ℤ
  pub y : ℤ

-- the point (x, y)
abbrev pub spot : ℤ → ℤ → At
spot x y = record { x = x; y = y }

-- a = b
abbrev pub eq_z : ℤ → ℤ → Bool
eq_z (pos a) (pos b) = a == b
eq_z (pos a) (negsuc b) = false
eq_z (negsuc a) (pos b) = false
eq_z (negsuc a) (negsuc b) = a == b

-- the two points are one
abbrev pub same : At → At → Bool
same a b = eq_z a.x b.x && eq_z a.y b.y

-- the way from a to b, as b - a
abbrev pub way : At → At → At
way a b = record { x = b.x -ℤ a.x; y = b.y -ℤ a.y }

-- a moved by m, as a + m
abbrev pub moved : At → At → At
moved m a = record { x = a.x +ℤ m.x; y = a.y +ℤ m.y }

-- cross(u, w) = ux wy - uy wx
abbrev pub cross_of : At → At → ℤ
cross_of u w = (u.x *ℤ w.y) -ℤ (u.y *ℤ w.x)

-- dot(u, w) = ux wx + uy wy
abbrev pub dot_of : At → At → ℤ
dot_of u w = (u.x *ℤ w.x) +ℤ (u.y *ℤ w.y)

-- |u|² = dot(u, u)
abbrev pub norm_of : At → ℤ
norm_of u = dot_of u u
