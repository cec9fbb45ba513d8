use Rattle.std.proofs.Common.{arith}
use Rattle.film.proofs.Limiting.{limits_of, narrow}
use Rattle.testcard.proofs.bars.step_bar.Goals as goal

pub overflow_add-first : goal.overflow_add-first
overflow_add-first c = omega (arith, narrow _ (limits_of _ c.args.n.ok))
