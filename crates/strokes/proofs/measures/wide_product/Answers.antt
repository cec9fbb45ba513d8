use Rattle.std.proofs.Common.{rules}
use Rattle.plane.proofs.Sizes.{sizes}
use Rattle.strokes.proofs.measures.wide_product.Goals as goal

pub returns : goal.returns
returns c = search (rules, sizes)
