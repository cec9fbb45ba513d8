use Rattle.laid.proofs.Placings.{placings_compose}
use Rattle.laid.proofs.laws.placings_compose.Goals as goal
use Rattle.std.proofs.Common.{refl}

pub returns : goal.returns
returns c = record { value = refl; law = placings_compose }
