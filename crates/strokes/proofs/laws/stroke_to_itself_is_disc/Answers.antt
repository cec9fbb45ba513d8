use Rattle.std.proofs.Common.{refl}
use Rattle.strokes.proofs.LawsOfStrokes.{stroke_to_itself}
use Rattle.strokes.proofs.laws.stroke_to_itself_is_disc.Goals as goal

pub returns : goal.returns
returns c = record { value = refl; law = stroke_to_itself }
