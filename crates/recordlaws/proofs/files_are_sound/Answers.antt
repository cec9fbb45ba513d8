use Rattle.recordlaws.proofs.Keeping.{files_are_sound}
use Rattle.recordlaws.proofs.files_are_sound.Goals as goal
use Rattle.std.proofs.Common.{refl}

pub returns : goal.returns
returns c = record { law = files_are_sound; value = refl }
