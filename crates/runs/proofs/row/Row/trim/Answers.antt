use Rattle.runs.proofs.Steps.{trim_some}
use Rattle.runs.proofs.row.Row.trim.Goals as goal

pub returns-then-j-self-clause-runs : goal.returns-then-j-self-clause-runs
returns-then-j-self-clause-runs c = let r = c.args.self.now in trim_some r.slots.now r.len c.args.j c.args.end c.max.result c.if-j-self.true r.within c.max.ensures
