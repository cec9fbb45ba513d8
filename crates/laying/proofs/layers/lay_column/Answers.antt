use Rattle.laying.proofs.Leaves.{lays_after, lays_same}
use Rattle.laying.proofs.Orders.{up_to_more}
use Rattle.laying.proofs.layers.lay_column.Goals as goal
use Rattle.laying.specs.Steps.{copy_at}

pub loop-b-preserved : goal.loop-b-preserved
loop-b-preserved g c = lays_same (up_to_more c.loop-b.b (copy_at c.args.drawing.now c.args.repeat c.args.a)) (lays_after c.loop-b.invariant c.lay_copy.ensures)
