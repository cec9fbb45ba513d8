use Rattle.std.proofs.Common.{arith}
use Rattle.film.proofs.Limiting.{limits_of}
use Rattle.testcard.proofs.bars.right_bar.Goals as goal

pub overflow_sub-result : goal.overflow_sub-result
overflow_sub-result c = omega (arith, (limits_of _ c.args.n.ok).wide)
