use Rattle.laying.proofs.Leaves.{leads_end, leads_more}
use Rattle.laying.proofs.Orders.{group_end, group_more}
use Rattle.laying.proofs.layers.lay_group.Goals as goal
use Rattle.std.proofs.Common.{arith}

pub loop-object-preserved : goal.loop-object-preserved
loop-object-preserved g c =
    leads_more c.loop-object.invariant (group_more c.args.drawing.now c.args.shift c.args.objects.now c.loop-object.object-index c.object-item.result (omega arith) c.object-item.is) c.lay_moved.ensures

pub returns : goal.returns
returns g c = leads_end c.loop-object.invariant (group_end c.args.drawing.now c.args.shift c.args.objects.now c.loop-object.object-index (omega arith))
