use Rattle.plane.specs.Points.{place_at}
use Rattle.shapes.proofs.Boxes.{circle_boxed}
use Rattle.shapes.proofs.flash_shapes.CircleShape.bounds.Goals as goal

pub returns-clause-law : goal.returns-clause-law
returns-clause-law c = circle_boxed (place_at c.args.self.now.place) c.args.self.now.half.ticks
