use Rattle.plane.specs.Points.{place_at}
use Rattle.strokes.proofs.Rings.{arc_boxed}
use Rattle.strokes.proofs.arc_shape.ArcStrokeShape.bounds.Goals as goal

pub returns-clause-law : goal.returns-clause-law
returns-clause-law c = arc_boxed c.args.self.now.half.ticks c.args.self.now.clockwise (place_at c.args.self.now.centre) (place_at c.args.self.now.start) (place_at c.args.self.now.end)
