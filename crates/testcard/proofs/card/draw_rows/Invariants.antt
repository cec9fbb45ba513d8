use Rattle.std.proofs.Common.{◌≡◌}
use Rattle.testcard.proofs.Drawing.{Between}
use Rattle.testcard.proofs.card.draw_rows.Given as goal

abbrev pub invariant-loop-row : goal.invariant-loop-row
invariant-loop-row g l = Between (g.F.Film.meaning l.initial.film) l.first l.row (g.F.Film.meaning l.film)
    × (g.F.Film.beside l.film ≡ g.F.Film.beside l.initial.film)
