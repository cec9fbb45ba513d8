use Rattle.plot.proofs.Records.{plotted_accepted, plotted_refused, recorded_ready}
use Rattle.plot.proofs.plotting.window_plot.Goals as goal
use Rattle.plot.specs.Requests.{tables_in}
use Rattle.std.proofs.lemmas.Result.{err_from_is_err_and}
use Rattle.std.proofs.lemmas.Bool.{false≢true}
use Rattle.std.proofs.Common.{refl}

pub lay_records-requires : goal.lay_records-requires
lay_records-requires g c =
    let after = c.read_within.new.slots in
    recorded_ready (g.F.Film.meaning c.args.film.now).frame (tables_in c.args.slots.now) c.args.window c.args.file.now
    c.in_ok-drawing.drawing after.apertures.now after.objects.now after.pieces.now c.in_ok-drawing.ensures.recorded

pub returns : goal.returns
returns g c =
    let after = c.read_within.new.slots in
    record {
      plotted = plotted_accepted (g.F.Film.meaning c.args.film.now) (tables_in c.args.slots.now) c.args.window c.args.file.now
          c.in_ok-drawing.drawing after.apertures.now after.objects.now after.pieces.now
          c.in_ok-drawing.ensures.recorded c.lay_records.ensures.laid c.into.ensures;
      refused_unchanged = λ e. absurd (false≢true e);
      beside = c.lay_records.ensures.beside;
      lent = c.in_ok-drawing.ensures.lent;
    }

pub returns-in_err-drawing : goal.returns-in_err-drawing
returns-in_err-drawing g c =
    let p = err_from_is_err_and c.from_residual.result c.from_residual.ensures.1 in
    let refused = plotted_refused (g.F.Film.meaning c.args.film.now) (tables_in c.args.slots.now)
    (tables_in c.read_within.new.slots) c.args.window c.args.file.now c.in_err-drawing.ensures.recorded in
    rw (p.1, p.2) (record { plotted = refused; refused_unchanged = λ e. refl {a = c.args.film.now}; beside = refl {a = g.F.Film.beside c.args.film.now}; lent = c.in_err-drawing.ensures.lent })
