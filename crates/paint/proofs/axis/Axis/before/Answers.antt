use Rattle.std.proofs.Common.{arith}
use borrow.Author.Differences.{ints}
use Rattle.paint.proofs.Middles.{below_div}
use Rattle.paint.proofs.axis.Axis.before.Goals as goal

pub returns-clause-before : goal.returns-clause-before
returns-clause-before c = λ k l. omega (arith, ints, below_div c.args.self.pitch c.ahead.result k c.args.self.least (omega arith))
