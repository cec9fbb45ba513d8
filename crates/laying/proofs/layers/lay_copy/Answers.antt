use Rattle.laying.proofs.Leaves.{lays_none, lays_same}
use Rattle.laying.proofs.Orders.{copy_is, no_copy}
use Rattle.laying.proofs.layers.lay_copy.Goals as goal

pub returns-in_default : goal.returns-in_default
returns-in_default g c = lays_same (no_copy c.args.drawing.now c.args.repeat c.args.a c.args.b c.in_default.ensures) (lays_none _)

pub returns-in-Some : goal.returns-in-Some
returns-in-Some g c =
    lays_same (copy_is c.args.drawing.now c.args.repeat c.args.a c.args.b c.in-Some.shift c.group.result.now c.in-Some.ensures c.group.ensures) c.lay_group.ensures
