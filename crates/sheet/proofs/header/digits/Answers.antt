use Rattle.std.proofs.Common.{sym, arith}
use Rattle.sheet.proofs.Putting.{digit_count}
use Rattle.sheet.proofs.header.digits.Goals as goal

pub returns-clause-is : goal.returns-clause-is
returns-clause-is c = sym (digit_count c.args.n c.max.result c.ilog10.result c.max.ensures (omega arith) c.ilog10.ensures.power_le c.ilog10.ensures.next_power_gt)
