use Rattle.filelaws.proofs.Commands.{records_by_commands}
use Rattle.filelaws.proofs.records_by_commands.Goals as goal
use Rattle.std.proofs.Common.{refl}

pub returns : goal.returns
returns c = record { law = records_by_commands; value = refl }
