use Rattle.std.proofs.Common.{vec_items, Ok, ap, ◌∙◌, arith}
use Rattle.std.proofs.lemmas.Bool.Decides.{nat_tests}
use Rattle.film.proofs.Spans.{read_on}
use Rattle.runs.specs.Rows.{in_row}
use Rattle.runs.specs.Slots.{run_meaning}
use Rattle.runs.proofs.Meaning.{any_holds}
use Rattle.runs.proofs.runfilm.RunFilmFilm.read.Goals as goal

pub returns : goal.returns
returns c =
    let f = c.args.self.now in
    let m = run_meaning (vec_items f.memory.counts) (vec_items f.memory.slots) f.numbers in
    ap Ok (c.holds.ensures ∙ any_holds c.runs.result.now c.args.col ∙ ap (λ xs. in_row xs c.args.col) c.runs.ensures)
    ∙ read_on m c.args.col c.args.row (grind (arith, nat_tests))
