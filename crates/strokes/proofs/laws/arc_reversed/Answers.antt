use Rattle.std.proofs.Common.{refl}
use Rattle.strokes.proofs.LawsOfStrokes.{arc_reversed}
use Rattle.strokes.proofs.laws.arc_reversed.Goals as goal

pub returns : goal.returns
returns c = record { value = refl; law = arc_reversed }
