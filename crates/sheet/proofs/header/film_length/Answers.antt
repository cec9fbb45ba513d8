use Rattle.std.proofs.Common.{ap, ◌∙◌}
use Rattle.film.specs.Made.{frame_of}
use Rattle.sheet.specs.Sheet.{sheet_sized}
use Rattle.sheet.proofs.Writing.{film_sized}
use Rattle.sheet.proofs.header.film_length.Goals as goal

pub whole_length-requires : goal.whole_length-requires
whole_length-requires c =
    ap (λ w. sheet_sized w c.from.result.height) c.from.ensures.0 ∙ ap (λ h. sheet_sized c.args.n.width h) c.from.ensures.1
    ∙ film_sized (frame_of c.args.n) c.args.n.ok
