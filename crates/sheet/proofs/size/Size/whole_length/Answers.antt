use Rattle.std.proofs.Common.{rules}
use Rattle.sheet.specs.Sheet.{sheet_length}
use Rattle.sheet.proofs.size.Size.whole_length.Goals as goal

pub returns : goal.returns
unfolding sheet_length
returns c = search rules
