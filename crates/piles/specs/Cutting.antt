-- Making a cut-out.
use Rattle.std.specs.Prelude.{◌≡◌, ◌+◌, ◌≤◌, true, false, Result, MatchResult}
use Rattle.film.specs.Frame.{Frame}
use Rattle.film.specs.Faults.{film_told, call}
use Rattle.film.specs.Film.{Meaning}
use Rattle.film.specs.Made.{window_on}
use Rattle.film.specs.declared.window.Window.{Window}
use Rattle.piles.specs.declared.cutout.CutOut.{CutOut}
use Rattle.film.specs.declared.refused.Refused.{Refused}
use Rattle.piles.specs.Piles.{fitted, cut, cut_out}

-- a window that lies on the film below, which means m, is cut out of it; one that is empty or goes
-- past the edge is refused with 3, and the film is handed back
abbrev pub CutMade : {F : Type 0} → Meaning → F → Window → Result (CutOut F) (Refused F) → Type 0
CutMade m below v r = MatchResult r
    (λ f. (window_on m.frame v ≡ true) × (f.below ≡ below) × (f.window ≡ v) × (cut_out f.window m ≡ cut v m))
    (λ e. (window_on m.frame v ≡ false) × (e.given ≡ below) × (film_told e.fault ≡ call 3))

-- v is where the cut-out u of a film lies
pub record Fitted (f : Frame) (u v : Window) : Type 0 where
  pub is : v ≡ fitted f u
  pub on : window_on f v ≡ true
  pub right : v.x + v.width ≤ f.width
  pub bottom : v.y + v.height ≤ f.height
  pub narrow : f.width ≤ 30000
  pub short : f.height ≤ 30000
