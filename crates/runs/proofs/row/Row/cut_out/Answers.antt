use Rattle.runs.proofs.Turning.{cut}
use Rattle.runs.proofs.row.Row.cut_out.Goals as goal

pub returns-clause-runs : goal.returns-clause-runs
returns-clause-runs c = cut c.args.self.now.slots.now c.rotate_left.new.self c.args.self.now.len c.args.k c.args.j c.requires.0 c.requires.1 c.args.self.now.within c.rotate_left.ensures.after
