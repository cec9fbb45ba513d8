use Rattle.std.proofs.Common.{refl}
use Rattle.shapes.proofs.LawsOfFlashes.{flashes_move}
use Rattle.shapes.proofs.laws.flashes_move.Goals as goal

pub returns : goal.returns
returns c = record { value = refl; law = flashes_move }
