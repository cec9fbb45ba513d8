use Rattle.laid.proofs.Walks.{begins}
use Rattle.laid.proofs.stack.Stack.begin.Goals as goal
use Rattle.std.proofs.Common.{refl}

pub returns : goal.returns
returns c =
    begins c.args.drawing.now c.args.object c.args.shift.x c.args.shift.y _ c.args.self.now c.take_up.new.self c.take_up.result refl c.placing.ensures.put refl c.take_up.ensures
