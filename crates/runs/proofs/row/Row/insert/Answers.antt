use Rattle.runs.proofs.Turning.{inserted}
use Rattle.runs.proofs.row.Row.insert.Goals as goal

pub returns-clause-runs : goal.returns-clause-runs
returns-clause-runs c = inserted c.args.self.now.slots.now c.rotate_right.new.self c.args.self.now.len c.args.k c.args.run c.requires.0 c.requires.1 c.rotate_right.ensures.after
