use Rattle.std.proofs.Common.{◌≡◌, length, vec_items, ap, ◌∙◌, arith, rules, ◌++◌, drop}
use Rattle.film.specs.Made.{frame_of}
use Rattle.film.proofs.Packing.{packs_row}
use Rattle.runs.specs.Rows.{in_row}
use Rattle.runs.proofs.Bytes.{packs}
use Rattle.runs.proofs.runfilm.RunFilmFilm.pack_row.Goals as goal

pub returns-clause-bytes : goal.returns-clause-bytes
returns-clause-bytes c =
    let f = c.args.self.now in
    let row = c.args.row in
    let out = c.args.out.now in
    let ys = c.pack_runs.new.out in
    let p = packs_row (frame_of f.numbers) row (length out) c.in_ok-bytes.bytes c.in_ok-bytes.ensures in
    let e : length ys ≡ c.in_ok-bytes.bytes = search rules in
    ap (λ k. ys ++ drop k out) p.is
    ∙ packs f.numbers (vec_items f.memory.counts) (vec_items f.memory.slots) row out ys p.on p.fits (f.sound row p.on) (e ∙ p.is)
    c.pack_runs.ensures.fit
    (λ m k. c.pack_runs.ensures.bits m (omega arith) ∙ ap (λ xs. in_row xs m) c.runs.ensures)
