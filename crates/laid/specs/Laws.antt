-- What follows from the definitions of placing.
use Rattle.laid.specs.Puts.{Put, composed, put_at}
use Rattle.plane.specs.Plane.{At}
use Rattle.std.specs.Prelude.{◌≡◌}

-- A point that is put by the inner placing and then by the outer is put by the two composed.
pub record PlacingsCompose : Type 0 where
  pub point : (outer inner : Put) (a : At) → put_at (composed outer inner) a ≡ put_at outer (put_at inner a)
