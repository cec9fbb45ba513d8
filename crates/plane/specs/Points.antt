-- the kinds of points, and what making one of them answers
use Rattle.std.specs.Prelude.{ℕ, cond, ◌&&◌, ℤ, Some, None, Option, nat_le, unsigned_abs}
use Rattle.plane.specs.Plane.{At, spot}
use Rattle.plane.specs.declared.points.Spot.{Spot}
use Rattle.plane.specs.declared.points.Half.{Half}
use Rattle.plane.specs.declared.points.Vector.{Vector}

-- a point past n on either axis is refused
abbrev pub made : ℕ → ℤ → ℤ → Option At
made n x y = cond (nat_le (unsigned_abs x) n && nat_le (unsigned_abs y) n) (Some (spot x y)) None

-- a half past 5,000 is refused
abbrev pub made_half : ℕ → Option ℕ
made_half n = cond (nat_le n 5000) (Some n) None

-- the kinds of points, by how far from 0 they lie on either axis

abbrev pub Point : Type 0
Point = Spot 1000000

abbrev pub Place : Type 0
Place = Spot 345000

abbrev pub FilePoint : Type 0
FilePoint = Spot 30000

abbrev pub FileCentre : Type 0
FileCentre = Spot 45000

-- the numbers of a point, of whichever kind

abbrev pub spot_at : {n : ℕ} → Spot n → At
spot_at p = spot p.x p.y

abbrev pub point_at : Point → At
point_at = spot_at

abbrev pub place_at : Place → At
place_at = spot_at

abbrev pub file_point_at : FilePoint → At
file_point_at = spot_at

abbrev pub file_centre_at : FileCentre → At
file_centre_at = spot_at

abbrev pub vector_at : Vector → At
vector_at v = spot v.x v.y

-- what an answer shows of the point that it holds

abbrev pub seen_spot : {n : ℕ} → Option (Spot n) → Option At
seen_spot (Some p) = Some (spot_at p)
seen_spot None = None

abbrev pub seen_point : Option Point → Option At
seen_point = seen_spot

abbrev pub seen_place : Option Place → Option At
seen_place = seen_spot

abbrev pub seen_file_point : Option FilePoint → Option At
seen_file_point = seen_spot

abbrev pub seen_file_centre : Option FileCentre → Option At
seen_file_centre = seen_spot

abbrev pub seen_half : Option Half → Option ℕ
seen_half (Some h) = Some h.ticks
seen_half None = None
