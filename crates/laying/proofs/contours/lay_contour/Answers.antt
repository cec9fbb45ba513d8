use Rattle.laying.proofs.Leaves.{painted_lays, unseen_lays}
use Rattle.laying.proofs.Pieces.{made_covers, unmade_covers}
use Rattle.laying.proofs.contours.lay_contour.Goals as goal

pub returns-in_default : goal.returns-in_default
returns-in_default g c = unseen_lays _ c.args.dark _ (unmade_covers c.args.start c.args.pieces.now c.args.placing c.in_default.ensures)

pub returns-in-Some : goal.returns-in-Some
returns-in-Some g c = painted_lays _ (made_covers c.args.start c.args.pieces.now c.args.placing c.in-Some.contour c.in-Some.ensures) c.paint.ensures
