use Rattle.laying.proofs.Leaves.{lays_after, lays_same}
use Rattle.laying.proofs.Orders.{up_to_more}
use Rattle.laying.proofs.layers.lay_repeat.Goals as goal
use Rattle.laying.specs.Steps.{column_at}

pub loop-a-preserved : goal.loop-a-preserved
loop-a-preserved g c = lays_same (up_to_more c.loop-a.a (column_at c.args.drawing.now c.args.repeat)) (lays_after c.loop-a.invariant c.lay_column.ensures)
