use Rattle.std.proofs.Common.{refl}
use Rattle.contour.proofs.LawsOfContours.{contour_moves}
use Rattle.contour.proofs.laws.contour_moves.Goals as goal

pub returns : goal.returns
returns c = record { value = refl; law = contour_moves }
