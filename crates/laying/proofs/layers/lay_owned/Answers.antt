use Rattle.laying.proofs.Leaves.{lays_none, lays_same}
use Rattle.laying.proofs.Orders.{block_is, layer_is, other_is, repeat_is}
use Rattle.laying.proofs.layers.lay_owned.Goals as goal

pub returns-in-Layer : goal.returns-in-Layer
returns-in-Layer g c =
    lays_same (layer_is c.args.drawing.now c.args.i c.args.object c.none.result c.in-Layer.is c.none.ensures.x c.none.ensures.y) c.lay_moved.ensures

pub returns-in-Block : goal.returns-in-Block
returns-in-Block g c = lays_same (block_is c.args.drawing.now c.args.i c.args.object _ c.in-Block.is) (lays_none _)

pub returns-then-repeat-i : goal.returns-then-repeat-i
returns-then-repeat-i g c =
    lays_same (repeat_is c.args.drawing.now c.args.i c.args.object c.in-Repeat.repeat c.in-Repeat.is c.if-repeat-i.true) c.lay_repeat.ensures

pub returns-else-repeat-i : goal.returns-else-repeat-i
returns-else-repeat-i g c =
    lays_same (other_is c.args.drawing.now c.args.i c.args.object c.in-Repeat.repeat c.in-Repeat.is c.if-repeat-i.false) (lays_none _)
