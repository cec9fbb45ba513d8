use Rattle.std.proofs.Common.{rules}
use Rattle.contour.specs.Chain.{lesser_of, greater_of}
use Rattle.contour.proofs.chain.grown.Goals as goal

pub returns : goal.returns
unfolding lesser_of greater_of
returns c = search rules
