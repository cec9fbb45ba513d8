use Rattle.std.proofs.Common.{rules}
use Rattle.std.proofs.lemmas.Int.{to_z-of_z}
use Rattle.plane.proofs.points.Spot.way_to.Goals as goal

pub returns : goal.returns
returns g c = search (rules, to_z-of_z)
