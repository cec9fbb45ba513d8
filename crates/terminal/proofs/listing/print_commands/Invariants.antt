use Rattle.std.proofs.Common.{◌-◌, ◌≤◌, length}
use Rattle.terminal.proofs.listing.print_commands.Given as goal

abbrev pub invariant-loop-read : goal.invariant-loop-read
invariant-loop-read l = l.cursor.at ≤ length l.cursor.file.now

abbrev pub decreases-loop-read : goal.decreases-loop-read
decreases-loop-read l = length l.cursor.file.now - l.cursor.at
