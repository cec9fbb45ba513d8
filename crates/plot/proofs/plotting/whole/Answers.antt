use Rattle.film.specs.Made.{frame_of, window_on}
use Rattle.history.proofs.Tiling.{whole_fits}
use Rattle.history.specs.Verdicts.{entire}
use Rattle.plot.proofs.plotting.whole.Goals as goal
use Rattle.std.proofs.Common.{◌≡◌, true, ap, sym, subst, ◌∙◌}

pub returns : goal.returns
returns g c =
    let n = c.numbers-n.result in
    let m = (g.F.Film.meaning c.args.film.now).frame in
    record {
      value = c.whole.ensures ∙ ap entire c.numbers-n.ensures;
      fits = subst (λ w. window_on m w ≡ true) (sym c.whole.ensures) (subst (λ f. window_on f (entire (frame_of n)) ≡ true) c.numbers-n.ensures (whole_fits (frame_of n) n.ok));
    }
