-- what follows from the definitions of the plane
use Rattle.std.specs.Prelude.{◌≡◌, true}
use Rattle.plane.specs.Plane.{At, same}

-- the test on two points tells whether they are equal
pub record SameIsEqual : Type 0 where
  pub yes : (a b : At) → same a b ≡ true → a ≡ b
  pub always : (a : At) → same a a ≡ true
