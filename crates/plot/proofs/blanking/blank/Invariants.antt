use Rattle.plot.proofs.Clearing.{Cleared}
use Rattle.plot.proofs.blanking.blank.Given as goal
use Rattle.std.proofs.Common.{◌≡◌}

abbrev pub invariant-loop-row : goal.invariant-loop-row
invariant-loop-row g l =
    record {
      cleared : Cleared (g.F.Film.meaning l.initial.film) l.row (g.F.Film.meaning l.film);
      beside : g.F.Film.beside l.film ≡ g.F.Film.beside l.initial.film;
    }
