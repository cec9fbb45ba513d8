use Rattle.laid.proofs.Walks.{takes_frame, takes_none}
use Rattle.laid.proofs.stack.Stack.take_up.Goals as goal
use Rattle.laid.specs.Stacks.{pieces_in, placed_in}
use Rattle.std.proofs.lemmas.Bool.Decides.{nat_tests}
use Rattle.std.proofs.Common.{◌-◌, length, arith}

pub returns-in-Some-opened : goal.returns-in-Some-opened
returns-in-Some-opened c =
    takes_frame c.args.drawing.now c.args.around.block (placed_in c.args.around c.args.object) c.args.self.now c.in-Some-opened.frame _ c.in-Some-opened.ensures (grind (arith, nat_tests)) c.push.ensures.items

pub returns-in_default-opened : goal.returns-in_default-opened
returns-in_default-opened c =
    let d = c.args.drawing.now in
    takes_none d c.args.around.block (placed_in c.args.around c.args.object) c.args.self.now
    (c.in_default-opened.ensures (pieces_in d) (8 - length c.args.self.now.frames.items))
