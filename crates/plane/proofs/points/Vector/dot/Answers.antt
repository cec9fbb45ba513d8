use Rattle.std.proofs.Common.{rules}
use Rattle.plane.proofs.Sizes.{products}
use Rattle.plane.proofs.points.Vector.dot.Goals as goal

pub overflow_add-result : goal.overflow_add-result
overflow_add-result c = search (rules, products)

pub returns : goal.returns
returns c = record { value = search (rules, products); small = search (rules, products) }
