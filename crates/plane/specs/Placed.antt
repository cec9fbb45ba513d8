-- where placing brings a point
use Rattle.std.specs.Prelude.{Bool, cond, ℤ, neg_ℤ}
use Rattle.plane.specs.Plane.{At, spot, moved}
use Rattle.plane.specs.declared.points.Placing.{Placing}

-- mirrored or not
abbrev pub turned : Bool → ℤ → ℤ
turned mirror z = cond mirror (neg_ℤ z) z

-- a point mirrored in x, in y, in both or in neither
abbrev pub mirrored : Placing → At → At
mirrored pl a = spot (turned pl.mirror_x a.x) (turned pl.mirror_y a.y)

-- a point mirrored, and then moved
abbrev pub placed : Placing → At → At
placed pl a = moved (spot pl.dx pl.dy) (mirrored pl a)
