use Rattle.std.proofs.Common.{rules}
use Rattle.strokes.proofs.strokes.Stroke.in_band.Goals as goal

pub returns-then-contains : goal.returns-then-contains
returns-then-contains c = search rules

pub returns-else-contains : goal.returns-else-contains
returns-else-contains c = search rules
