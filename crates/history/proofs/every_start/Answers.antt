use Rattle.history.proofs.Starting.{every_start}
use Rattle.history.proofs.every_start.Goals as goal
use Rattle.std.proofs.Common.{refl}

pub returns : goal.returns
returns c = record { starts = every_start; value = refl }
