use Rattle.std.proofs.Common.{refl}
use Rattle.plane.proofs.Equal.{same_is_equal}
use Rattle.plane.proofs.laws.same_is_equal.Goals as goal

pub returns : goal.returns
returns c = record { value = refl; law = same_is_equal }
