use Rattle.std.proofs.Common.{◌-◌, length}
use Rattle.commands.proofs.Steps.{Counting}
use Rattle.commands.proofs.count_commands.Given as goal

abbrev pub invariant-loop-read : goal.invariant-loop-read
invariant-loop-read l = Counting l.fn.file l.cursor l.format

abbrev pub decreases-loop-read : goal.decreases-loop-read
decreases-loop-read l = length l.fn.file - l.cursor.at
