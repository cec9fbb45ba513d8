use Rattle.std.proofs.Common.{refl}
use Rattle.strokes.proofs.LawsOfStrokes.{stroke_reversed}
use Rattle.strokes.proofs.laws.stroke_reversed.Goals as goal

pub returns : goal.returns
returns c = record { value = refl; law = stroke_reversed }
