use Rattle.std.proofs.Common.{arith}
use borrow.Author.Differences.{ints}
use Rattle.paint.proofs.Middles.{past_div}
use Rattle.paint.proofs.axis.Axis.upto.Goals as goal

pub returns-clause-past : goal.returns-clause-past
returns-clause-past c = λ k l m. omega (arith, ints, past_div c.args.self.pitch c.ahead.result k c.args.self.least (omega arith))
