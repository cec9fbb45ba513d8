use Rattle.numerals.proofs.Reading.{codes_in_range}
use Rattle.numerals.proofs.codes_lie_in_range.Goals as goal

pub returns : goal.returns
returns c = codes_in_range
