use Rattle.laid.proofs.Walks.{idle_left}
use Rattle.laying.proofs.Leaves.{lays_after, lays_same, leads_end, leads_more}
use Rattle.laying.proofs.layers.lay_moved.Goals as goal
use Rattle.laying.specs.Steps.{moved_object}
use Rattle.std.proofs.Common.{sym}

pub loop-stack-preserved : goal.loop-stack-preserved
loop-stack-preserved g c = leads_more c.loop-stack.invariant c.turn-given.ensures.lays c.lay_given-in-loop-stack.ensures

pub returns : goal.returns
unfolding moved_object
returns g c =
    lays_same (sym (c.begin-begun.ensures.lays c.new-stack.ensures))
    (lays_after c.lay_given.ensures (leads_end c.loop-stack.invariant (idle_left c.args.drawing.now c.loop-stack.stack c.loop-stack-test.ensures)))
