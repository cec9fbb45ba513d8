use Rattle.std.proofs.Common.{refl}
use Rattle.strokes.proofs.LawsOfStrokes.{strokes_move}
use Rattle.strokes.proofs.laws.strokes_move.Goals as goal

pub returns : goal.returns
returns c = record { value = refl; law = strokes_move }
