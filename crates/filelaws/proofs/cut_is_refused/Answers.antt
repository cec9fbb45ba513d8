use Rattle.filelaws.proofs.Cuts.{cut_is_refused}
use Rattle.filelaws.proofs.cut_is_refused.Goals as goal
use Rattle.std.proofs.Common.{refl}

pub returns : goal.returns
returns c = record { law = cut_is_refused; value = refl }
