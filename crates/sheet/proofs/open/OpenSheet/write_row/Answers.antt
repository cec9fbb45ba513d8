use Rattle.std.proofs.Common.{sym, ap, ◌∙◌}
use Rattle.sheet.proofs.Rows.{row_room}
use Rattle.sheet.proofs.open.OpenSheet.write_row.Goals as goal

pub put_row-requires-clause-room : goal.put_row-requires-clause-room
put_row-requires-clause-room g c =
    let width = ap (λ f. f.width) (sym c.numbers-n.ensures) in
    row_room c.args.self.now.size.width c.args.self.now.size.height c.args.self.now.written c.row_place-place.result
    (g.F.Film.meaning c.args.film.now).frame.width c.whole_length.result _ c.if-self.false c.row_place-place.ensures.is
    (width ∙ c.if-n-self.false) c.whole_length.ensures c.if-out-whole_length.false
