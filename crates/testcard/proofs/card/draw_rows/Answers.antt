use Rattle.std.proofs.Common.{ap, ◌∙◌, arith}
use Rattle.testcard.proofs.Drawing.{between_more}
use Rattle.testcard.proofs.card.draw_rows.Goals as goal

pub loop-row-preserved : goal.loop-row-preserved
loop-row-preserved g c =
    let f = c.numbers-n.ensures in (
      between_more (omega arith) c.loop-row.invariant.0 (ap (λ k. k.width) f) (ap (λ k. k.height) f) c.draw_row.ensures.shows,
      c.draw_row.ensures.beside ∙ c.loop-row.invariant.1,
    )
