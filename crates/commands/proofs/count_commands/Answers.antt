use Rattle.commands.proofs.Steps.{counting_on}
use Rattle.commands.proofs.count_commands.Goals as goal

pub loop-read-preserved : goal.loop-read-preserved
loop-read-preserved c =
    counting_on _ _ _ _ _ _ c.loop-read.invariant c.behind-cursor.ensures.counted c.format_after-format.ensures c.in_ok-read.ensures.value c.in_ok-read.ensures.moves c.if-is_end.ensures
