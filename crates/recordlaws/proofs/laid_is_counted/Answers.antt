use Rattle.recordlaws.proofs.Keeping.{laid_counted}
use Rattle.recordlaws.proofs.laid_is_counted.Goals as goal
use Rattle.std.proofs.Common.{refl}

pub returns : goal.returns
returns c = record { law = laid_counted; value = refl }
