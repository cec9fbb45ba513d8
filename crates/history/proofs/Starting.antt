-- The films at their start.
use Rattle.history.proofs.Overlaying.{leaves_never, on_film, shows_overlaid}
use Rattle.history.specs.Calls.{past}
use Rattle.history.specs.Starts.{EveryStart}
use Rattle.piles.specs.Piles.{cut, whole}
use Rattle.std.proofs.Common.{cond, refl, ap, ◌∙◌}

pub every_start : EveryStart
every_start =
    record {
      bitmaps = λ f memory held n new. record { frame = new.frame; pixels = λ c r h. let here = on_film f c r h in new.clear c r here.across here.down };
      run_films = λ f memory held n slots new. record { frame = new.frame; pixels = λ c r h. let here = on_film f c r h in new.clear c r here.across here.down };
      negatives = λ m c r. (refl, refl);
      mirrors = λ m c r. (refl, refl);
      cut_outs = λ m v c r fits. (ap (λ t. (cut (cond t v (whole m.frame)) m).frame) fits, ap (λ t. (cut (cond t v (whole m.frame)) m).pixel c r) fits);
      uncovered = λ m n qs answers c r h on never. (shows_overlaid h.shown).pixels c r on ∙ leaves_never m.frame c r (m.pixel c r) (past m.frame qs) never;
    }
