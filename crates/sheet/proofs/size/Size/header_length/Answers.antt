use Rattle.std.proofs.Common.{arith}
use Rattle.sheet.proofs.Putting.{length_header}
use Rattle.sheet.proofs.size.Size.header_length.Goals as goal

pub returns-clause-is : goal.returns-clause-is
returns-clause-is c = omega (arith, length_header c.args.self.width c.args.self.height)
