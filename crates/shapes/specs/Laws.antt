-- what follows from the definitions of the flashes
use Rattle.std.specs.Prelude.{◌≡◌, ℕ, ◌<◌, ℤ, ◌+ℤ◌}
use Rattle.plane.specs.Plane.{At, moved}
use Rattle.shapes.specs.Flashes.{in_circle, in_obround, circle_at, rectangle_at, obround_at}

-- an obround of equal halves, past 0, is the circle of that half
abbrev pub EvenObroundIsCircle : Type 0
EvenObroundIsCircle = (r : ℕ) (w : At) → 0 < r → in_obround r r w ≡ in_circle r w

-- moving a flash and the point together changes nothing
pub record FlashesMove : Type 0 where
  pub circle : (m q : At) (r : ℕ) (x y : ℤ) → circle_at (moved m q) r (x +ℤ m.x) (y +ℤ m.y) ≡ circle_at q r x y
  pub rectangle : (m q : At) (a b : ℕ) (x y : ℤ) → rectangle_at (moved m q) a b (x +ℤ m.x) (y +ℤ m.y) ≡ rectangle_at q a b x y
  pub obround : (m q : At) (a b : ℕ) (x y : ℤ) → obround_at (moved m q) a b (x +ℤ m.x) (y +ℤ m.y) ≡ obround_at q a b x y
