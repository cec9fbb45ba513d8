use Rattle.std.proofs.Common.{arith}
use Rattle.film.proofs.Limiting.{limits_of, narrow}
use Rattle.film.proofs.numbers.Numbers.row_length.Goals as goal

pub returns : goal.returns
returns c = record { is = c.row_length.ensures; small = omega (arith, narrow _ (limits_of _ c.args.self.ok)) }
