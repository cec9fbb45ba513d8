use Rattle.std.proofs.Common.{arith}
use Rattle.film.specs.Faults.{answered}
use Rattle.piles.proofs.Windows.{Below, cut_span, outside_kept, beside_kept}
use Rattle.piles.proofs.cutting.CutOutFilm.write_span.Goals as goal

pub returns : goal.returns
returns g c =
    let m = g.F.Film.meaning c.args.self.now.below in
    let n = g.F.Film.meaning c.write_span.new.self in
    let u = c.args.self.now.window in
    let p = c.args.span in
    let s : Below m u c.fitted_window-v.result p.row p.first p.end c.args.dark (answered c.write_span.result) n
    = record { fit = c.fitted_window-v.ensures; down = omega arith; order = omega arith; across = omega arith; span = c.write_span.ensures.written } in
    record {
      written = cut_span m n u _ _ _ _ _ _ s;
      beside = beside_kept u m n _ _ (outside_kept m n u _ _ _ _ _ _ s) c.write_span.ensures.beside;
    }
