use Rattle.std.proofs.Common.{arith}
use Rattle.runs.proofs.Meaning.{dark_written, clear_written, darkened_room, cleared_room}
use Rattle.runs.proofs.row.Row.write.Goals as goal

pub darken-requires : goal.darken-requires
darken-requires c = darkened_room c.args.width c.args.run.first c.args.run.end _ _ c.requires.ready.0 (omega arith) (omega arith) (omega arith)

pub clear-requires-clause-room : goal.clear-requires-clause-room
clear-requires-clause-room c = cleared_room c.args.width c.args.run.first c.args.run.end _ _ c.requires.ready.0 (omega arith) (omega arith) (omega arith)

pub returns-then-dark-clause-row : goal.returns-then-dark-clause-row
returns-then-dark-clause-row c = dark_written c.args.width c.args.run.first c.args.run.end c.args.dark _ _ c.if-dark.true c.requires.ready.0 (omega arith) (omega arith) c.darken.ensures.runs

pub returns-else-dark-clause-row : goal.returns-else-dark-clause-row
returns-else-dark-clause-row c = clear_written c.args.width c.args.run.first c.args.run.end c.args.dark _ _ c.if-dark.false c.requires.ready.0 (omega arith) (omega arith) c.clear.ensures.runs
