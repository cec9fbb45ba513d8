use Rattle.laying.proofs.Leaves.{lays_same, leads_end, leads_more}
use Rattle.laying.proofs.Orders.{from_end, from_more, from_start_lem}
use Rattle.laying.proofs.layers.lay_drawing.Goals as goal
use Rattle.std.proofs.Common.{arith}

pub loop-i-init : goal.loop-i-init
loop-i-init g c = λ n p. lays_same (from_start_lem c.args.drawing.now) p

pub loop-i-preserved : goal.loop-i-preserved
loop-i-preserved g c =
    leads_more c.loop-i.invariant (from_more c.args.drawing.now c.loop-i.i c.object-item.result (omega arith) c.object-item.is) c.lay_owned.ensures

pub returns : goal.returns
returns g c = leads_end c.loop-i.invariant (from_end c.args.drawing.now c.loop-i.i (omega arith))
