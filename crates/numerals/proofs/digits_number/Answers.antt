use Rattle.std.proofs.Common.{◌^◌, ◌<◌, arith, rules}
use Rattle.numerals.proofs.Reading.{room}
use Rattle.numerals.proofs.digits_number.Goals as goal

pub overflow_mul-value : goal.overflow_mul-value
overflow_mul-value c = let r : c.loop-digit.value < 10 ^ 12 = room c.loop-digit.value c.loop-digit.digit-index 12 c.loop-digit.invariant.1 (omega arith) in search rules

pub overflow_add-value : goal.overflow_add-value
overflow_add-value c = let r : c.loop-digit.value < 10 ^ 12 = room c.loop-digit.value c.loop-digit.digit-index 12 c.loop-digit.invariant.1 (omega arith) in search rules

pub returns-clause-bound : goal.returns-clause-bound
returns-clause-bound c = (room c.loop-digit.value c.loop-digit.digit-index c.args.most c.loop-digit.invariant.1 (omega arith), room c.loop-digit.value c.loop-digit.digit-index 12 c.loop-digit.invariant.1 (omega arith))
