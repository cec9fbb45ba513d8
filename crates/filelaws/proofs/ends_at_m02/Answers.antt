use Rattle.filelaws.proofs.Commands.{ends_at_m02}
use Rattle.filelaws.proofs.ends_at_m02.Goals as goal
use Rattle.std.proofs.Common.{refl}

pub returns : goal.returns
returns c = record { law = ends_at_m02; value = refl }
