use Rattle.std.proofs.Common.{rules}
use Rattle.film.proofs.Limiting.{limits_of}
use Rattle.testcard.proofs.bars.left_bar.Goals as goal

pub returns-clause-covers : goal.returns-clause-covers
returns-clause-covers c = let w = (limits_of _ c.args.n.ok).wide in search rules
