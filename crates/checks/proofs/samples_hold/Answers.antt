use Rattle.std.proofs.Common.{refl}
use Rattle.strokes.specs.Strokes.{stroke_at}
use Rattle.strokes.specs.Arcs.{in_ring, arc_at}
use Rattle.contour.specs.Chain.{in_contour}
use Rattle.checks.proofs.samples_hold.Goals as goal

pub returns : goal.returns
unfolding stroke_at in_ring arc_at in_contour
returns c = refl
