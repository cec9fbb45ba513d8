use Rattle.std.proofs.Common.{◌≡◌, ◌*◌, leb, get_or, vec_items, ap, arith, rules}
use borrow.Author.Rules.{get_or_read}
use Rattle.std.proofs.lemmas.Bool.{and_parts, leb-true}
use Rattle.runs.specs.Slots.{row_slots}
use Rattle.runs.proofs.Places.{row_room}
use Rattle.runs.proofs.runfilm.RunFilm.runs.Goals as goal

pub slice_bounds-result-end : goal.slice_bounds-result-end
slice_bounds-result-end c =
    let f = c.args.self.now in
    let k = row_slots f.numbers.width in
    let m = row_room c.args.row f.numbers.height k c.requires in
    let p = and_parts (leb (get_or (vec_items f.memory.counts) c.args.row 0) k) _ (f.sound c.args.row c.requires) in
    let n = leb-true _ _ p.0 in
    let d : c.index.result.now ≡ get_or (vec_items f.memory.counts) c.args.row 0 = search (rules, get_or_read) in
    let e : c.args.row * c.row_slots.result ≡ c.args.row * k = ap (λ n. c.args.row * n) c.row_slots.ensures in
    omega arith
