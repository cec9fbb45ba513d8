use Rattle.std.proofs.Common.{refl}
use Rattle.film.proofs.Limiting.{every_centre}
use Rattle.film.proofs.limits.limits_hold_of_every_centre.Goals as goal

pub returns : goal.returns
returns c = record { law = every_centre; value = refl }
