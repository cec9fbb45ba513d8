use Rattle.laid.proofs.Opened.{opens_frame}
use Rattle.laid.proofs.kinds.Frame.opened.Goals as goal
use Rattle.laid.specs.Stacks.{apertures_of, objects_of, placed_in}
use Rattle.std.proofs.Common.{refl}

pub returns : goal.returns
returns c =
    let d = c.args.drawing.now in
    let around = c.args.self in
    opens_frame (apertures_of d) (objects_of d) around.block (placed_in around c.args.object) c.args.flash c.requires.flash _ c.in_ok-next.ensures refl c.within.ensures.put c.within.ensures.level c.turned_by.ensures
