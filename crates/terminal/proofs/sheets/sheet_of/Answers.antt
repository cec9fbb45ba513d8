use Rattle.sheet.specs.Sheet.{sheet_length}
use Rattle.std.proofs.Common.{ap, ◌∙◌}
use Rattle.terminal.proofs.Whole.{sheet_alone}
use Rattle.terminal.proofs.sheets.sheet_of.Goals as goal

pub returns : goal.returns
returns g c =
    let m = g.F.Film.meaning c.args.film.now in
    let long = c.film_length-length.ensures ∙ ap (λ f. sheet_length f.width f.height) c.numbers.ensures in
    let len = c.in_ok-out.ensures.len in
    let held = c.as_mut_slice.ensures.len in
    sheet_alone m c.in_ok-out.out.len c.as_mut_slice.result.now _ _ (len ∙ long) held c.write_film.ensures.output
