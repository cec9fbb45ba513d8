use Rattle.drawing.proofs.Turned.{Reads}
use Rattle.drawing.proofs.running.read_commands.Given as goal
use Rattle.std.proofs.Common.{◌-◌, length}

abbrev pub invariant-loop-read : goal.invariant-loop-read
invariant-loop-read l = Reads l.fn.file l.initial.apertures l.initial.objects l.initial.pieces l.cursor l.progress l.apertures l.objects l.pieces

abbrev pub decreases-loop-read : goal.decreases-loop-read
decreases-loop-read l = length l.fn.file - l.cursor.at
