use Rattle.filelaws.proofs.Remarks.{remarks_change_nothing}
use Rattle.filelaws.proofs.remarks_change_nothing.Goals as goal
use Rattle.std.proofs.Common.{refl}

pub returns : goal.returns
returns c = record { law = remarks_change_nothing; value = refl }
