use Rattle.std.proofs.Common.{refl}
use Rattle.strokes.proofs.LawsOfStrokes.{nothing_at_half_0}
use Rattle.strokes.proofs.laws.nothing_at_half_0.Goals as goal

pub returns : goal.returns
returns c = record { value = refl; law = nothing_at_half_0 }
