use Rattle.paint.proofs.Steps.{reached}
use Rattle.paint.proofs.pane.Pane.paint.Goals as goal

pub returns : goal.returns
returns g c = reached _ _ _ _ _ _ _ _ c.args.self.now.told c.bounds.ensures.value c.bounds.ensures.law c.clip-area.ensures c.paint_area.ensures
