use Rattle.std.proofs.Common.{rules}
use Rattle.plane.proofs.Sizes.{products}
use Rattle.plane.proofs.points.Vector.cross.Goals as goal

pub overflow_sub-result : goal.overflow_sub-result
overflow_sub-result c = search (rules, products)

pub returns : goal.returns
returns c = search (rules, products)
