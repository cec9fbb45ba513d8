use Rattle.ticks.proofs.Rounding.{one_nearest, symmetric}
use Rattle.ticks.proofs.rounding_laws.Goals as goal

pub returns : goal.returns
returns c = record { one = one_nearest; sign = symmetric }
