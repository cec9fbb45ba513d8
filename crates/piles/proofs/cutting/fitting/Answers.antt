use Rattle.std.proofs.Common.{◌≡◌, true, false, sym, subst, rules}
use Rattle.piles.specs.Cutting.{Fitted}
use Rattle.film.specs.Made.{frame_of, window_on}
use Rattle.piles.proofs.Windows.{fitted_on, fitted_off}
use Rattle.piles.proofs.cutting.fitting.Goals as goal

pub returns-then-has : goal.returns-then-has
returns-then-has c =
    let e : window_on (frame_of c.args.n) c.args.v ≡ true = search rules in
    fitted_on (frame_of c.args.n) c.args.v c.args.n.ok e

pub returns : goal.returns
returns c =
    let e : window_on (frame_of c.args.n) c.args.v ≡ false = search rules in
    subst (Fitted (frame_of c.args.n) c.args.v) (sym c.whole.ensures) (fitted_off (frame_of c.args.n) c.args.v c.args.n.ok e)
