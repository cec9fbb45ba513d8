use Rattle.std.proofs.Common.{refl}
use Rattle.strokes.proofs.LawsOfStrokes.{ring_by_radius}
use Rattle.strokes.proofs.laws.ring_by_radius.Goals as goal

pub returns : goal.returns
returns c = record { value = refl; law = ring_by_radius }
