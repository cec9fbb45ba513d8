use Rattle.filelaws.proofs.Rooms.{full_tables_only_decide_29}
use Rattle.filelaws.proofs.full_tables_only_decide_29.Goals as goal
use Rattle.std.proofs.Common.{refl}

pub returns : goal.returns
returns c = record { law = full_tables_only_decide_29; value = refl }
