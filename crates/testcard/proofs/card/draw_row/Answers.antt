use Rattle.std.proofs.Common.{ap, ◌∙◌}
use Rattle.testcard.proofs.Drawing.{mark_more}
use Rattle.testcard.proofs.card.draw_row.Goals as goal

pub returns : goal.returns
returns g c =
    let e = ap (λ f. f.width) c.requires.0 in
    let a = mark_more c.clear_row.ensures.shows e c.left_bar.ensures.row c.left_bar.ensures.covers c.mark.ensures.marked in
    let b = mark_more a e c.right_bar.ensures.row c.right_bar.ensures.covers c.mark-2.ensures.marked in
    let d = mark_more b e c.step_bar.ensures.row c.step_bar.ensures.covers c.mark-3.ensures.marked in
    let f = mark_more d e c.arm_bar.ensures.row c.arm_bar.ensures.covers c.mark-4.ensures.marked in
    let h = mark_more f e c.post_bar.ensures.row c.post_bar.ensures.covers c.mark-5.ensures.marked in
    record {
      shows = h;
      beside = c.mark-5.ensures.beside ∙ c.mark-4.ensures.beside ∙ c.mark-3.ensures.beside ∙ c.mark-2.ensures.beside ∙ c.mark.ensures.beside ∙ c.clear_row.ensures.beside;
    }
