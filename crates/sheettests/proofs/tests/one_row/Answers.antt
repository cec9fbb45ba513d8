use Rattle.std.proofs.Common.{length, sym, ap, subst, arith}
use Rattle.film.proofs.Limiting.{limits_of}
use Rattle.sheet.specs.Sheet.{Sheet}
use Rattle.sheet.specs.Made.{sheet_of}
use Rattle.sheettests.proofs.Ending.{Size, open_size, row_size, row_ends}
use Rattle.sheettests.proofs.tests.one_row.Goals as goal

pub unreachable-requires : goal.unreachable-requires
unreachable-requires g c =
    let n = c.numbers.result in
    let film = g.F.Film.meaning c.args.film.now in
    let wide = g.G.Film.meaning c.args.wide.now in
    let o = open_size n.width 1 (length c.args.out.now) (sheet_of c.in-Ok.new) c.in-Ok.ensures.answer in
    let P : Sheet → Type 0 = Size n.width 1 in
    let a = subst P (sym c.in-Err.ensures.1) o.1 in
    let b = row_size wide _ _ c.write_row-off.ensures.sheet a in
    let d = row_size wide _ _ c.write_row-short.ensures.sheet b in
    let e = row_size wide _ _ c.write_row-other.ensures.sheet d in
    let f = row_size film _ _ c.write_row-written.ensures.sheet e in
    row_ends n.width (sheet_of c.write_row-written.new.self) (sheet_of c.write_row-after.new.self) film (length c.write_row-written.new.out) c.write_row-after.ensures.sheet f
    (sym (ap (λ k. k.width) c.numbers.ensures))
    (omega (arith, (limits_of _ n.ok).tall, ap (λ k. k.height) c.numbers.ensures))
    (omega (arith, o.0))
    c.in-Err-close.ensures.0
