use Rattle.plane.specs.Points.{place_at}
use Rattle.shapes.proofs.Boxes.{rectangle_boxed}
use Rattle.shapes.proofs.flash_shapes.RectangleShape.bounds.Goals as goal

pub returns-clause-law : goal.returns-clause-law
returns-clause-law c = rectangle_boxed (place_at c.args.self.now.place) c.args.self.now.a.ticks c.args.self.now.b.ticks
