use Rattle.std.proofs.Common.{refl}
use Rattle.shapes.proofs.LawsOfFlashes.{even_obround}
use Rattle.shapes.proofs.laws.even_obround_is_circle.Goals as goal

pub returns : goal.returns
returns c = record { value = refl; law = even_obround }
