use Rattle.std.proofs.Common.{◌≡◌, ◌+◌, cond, length, drop, Err, sym, ap, ◌∙◌, arith, rules}
use Rattle.std.proofs.lemmas.Bool.{le-leb}
use Rattle.film.specs.Made.{frame_of}
use Rattle.sheet.specs.Sheet.{put}
use Rattle.sheet.specs.Whole.{sheet_bytes}
use Rattle.sheet.specs.Faults.{told, sheet_told}
use Rattle.sheet.specs.Made.{sheet_of}
use Rattle.sheet.proofs.Writing.{opening, unopened, row_again, all_written}
use Rattle.sheet.proofs.Reading.{reads_back}
use Rattle.sheet.proofs.whole.write_film.Goals as goal

pub returns-in_err-sheet-clause-answer : goal.returns-in_err-sheet-clause-answer
returns-in_err-sheet-clause-answer g c =
    let n = c.numbers-n.result in
    let e : c.from_residual.result ≡ Err c.in_err-sheet.field-0.0 = search rules in
    let a = c.in_err-sheet.ensures in
    let u = unopened (g.F.Film.meaning c.args.film.now) (frame_of n) c.from.result.width c.from.result.height (sheet_told c.in_err-sheet.field-0.0) c.args.out.now c.open.new.out
    c.numbers-n.ensures n.ok c.from.ensures.0 c.from.ensures.1 a.answer a.output in
    ap told e ∙ u.answer

pub returns-in_err-sheet-clause-output : goal.returns-in_err-sheet-clause-output
returns-in_err-sheet-clause-output g c =
    let n = c.numbers-n.result in
    let a = c.in_err-sheet.ensures in
    let u = unopened (g.F.Film.meaning c.args.film.now) (frame_of n) c.from.result.width c.from.result.height (sheet_told c.in_err-sheet.field-0.0) c.args.out.now c.open.new.out
    c.numbers-n.ensures n.ok c.from.ensures.0 c.from.ensures.1 a.answer a.output in
    u.output

pub loop-row-preserved : goal.loop-row-preserved
loop-row-preserved g c =
    let m = g.F.Film.meaning c.args.film.now in
    let n = c.numbers-n.result in
    let a = c.in_ok-sheet.ensures in
    let o = opening m (frame_of n) c.from.result.width c.from.result.height (sheet_of c.in_ok-sheet.sheet) c.args.out.now c.open.new.out c.numbers-n.ensures n.ok c.from.ensures.0 c.from.ensures.1 a.answer a.output in
    let tall = ap (λ f. f.height) c.numbers-n.ensures in
    row_again m c.loop-row.row (sheet_of c.loop-row.sheet) (sheet_of c.write_row.new.self) (sheet_of c.in_ok-sheet.sheet)
    c.args.out.now c.open.new.out c.loop-row.out c.write_row.new.out o (omega arith) (omega arith) (omega (arith, tall))
    c.loop-row.invariant c.write_row.ensures.sheet c.write_row.ensures.output

pub returns-clause-output : goal.returns-clause-output
returns-clause-output g c =
    let m = g.F.Film.meaning c.args.film.now in
    let n = c.numbers-n.result in
    let a = c.in_ok-sheet.ensures in
    let o = opening m (frame_of n) c.from.result.width c.from.result.height (sheet_of c.in_ok-sheet.sheet) c.args.out.now c.open.new.out c.numbers-n.ensures n.ok c.from.ensures.0 c.from.ensures.1 a.answer a.output in
    let tall = ap (λ f. f.height) c.numbers-n.ensures in
    all_written m c.loop-row.row (sheet_of c.loop-row.sheet) (sheet_of c.in_ok-sheet.sheet) c.args.out.now c.open.new.out c.loop-row.out o (omega (arith, tall)) c.loop-row.invariant
    ∙ sym (ap (λ b. cond b (put 0 (sheet_bytes m) c.args.out.now) c.args.out.now) (le-leb _ _ o.room))

pub returns-clause-reads_back : goal.returns-clause-reads_back
returns-clause-reads_back g c =
    let m = g.F.Film.meaning c.args.film.now in
    let n = c.numbers-n.result in
    let a = c.in_ok-sheet.ensures in
    let o = opening m (frame_of n) c.from.result.width c.from.result.height (sheet_of c.in_ok-sheet.sheet) c.args.out.now c.open.new.out c.numbers-n.ensures n.ok c.from.ensures.0 c.from.ensures.1 a.answer a.output in
    let tall = ap (λ f. f.height) c.numbers-n.ensures in
    λ _. reads_back m (drop (0 + length (sheet_bytes m)) c.args.out.now) c.loop-row.out o.sized
    (all_written m c.loop-row.row (sheet_of c.loop-row.sheet) (sheet_of c.in_ok-sheet.sheet) c.args.out.now c.open.new.out c.loop-row.out o (omega (arith, tall)) c.loop-row.invariant)
