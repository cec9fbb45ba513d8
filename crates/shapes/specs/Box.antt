-- the box of a shape
use Rattle.std.specs.Prelude.{◌≡◌, ℕ, Bool, true, ℤ, pos, ◌+ℤ◌, ◌-ℤ◌, ◌≤ℤ◌}
use Rattle.plane.specs.declared.points.Bounds.{Bounds}
use Rattle.plane.specs.Plane.{At}

-- (x, y) lies in the box
pub record Inside (b : Bounds) (x y : ℤ) : Type 0 where
  pub left : b.left ≤ℤ x
  pub right : x ≤ℤ b.right
  pub bottom : b.bottom ≤ℤ y
  pub top : y ≤ℤ b.top

-- each covered point lies in the box
pub record Encloses (covered : ℤ → ℤ → Bool) (b : Bounds) : Type 0 where
  pub inside : (x y : ℤ) → covered x y ≡ true → Inside b x y

-- the box about q, a to either side and b up and down
abbrev pub box_about : At → ℕ → ℕ → Bounds
box_about q a b = record { left = q.x -ℤ pos a; right = q.x +ℤ pos a; bottom = q.y -ℤ pos b; top = q.y +ℤ pos b }
