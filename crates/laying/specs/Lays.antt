-- What laying objects leaves on a pane of a film.
use Rattle.film.specs.Faults.{call, film_told}
use Rattle.film.specs.Film.{Meaning}
use Rattle.film.specs.Made.{window_on}
use Rattle.film.specs.declared.fault.FilmFault.{FilmFault}
use Rattle.film.specs.declared.window.Window.{Window}
use Rattle.laid.specs.Covered.{LaidOn}
use Rattle.laid.specs.Laid.{LaidObject, LaidOutline}
use Rattle.paint.specs.Panes.{PaneSeen}
use Rattle.std.specs.Prelude.{◌≡◌, Bool, true, false, List, [], ◌∷◌, Ok, Err, Result}

-- One laid object.
abbrev pub single : Bool → LaidOutline → List LaidObject
single dark o = record { dark = dark; outline = o } ∷ []

-- A pane p is q, once these objects are laid on it.
pub record Lays (p : PaneSeen) (os : List LaidObject) (q : PaneSeen) : Type 0 where
  pub laid : LaidOn p.meaning p.window os q.meaning
  pub beside : q.beside ≡ p.beside
  pub window : q.window ≡ p.window
  pub film : q.film ≡ p.film

-- Laying these objects within a window of the film m answers r and leaves n: within a good window they are laid; a
-- window that is empty or past the edge is refused with 3, and nothing changes.
abbrev pub LayOutcome : Meaning → Window → List LaidObject → Result (Unit {0}) FilmFault → Meaning → Type 0
LayOutcome m v os (Ok u) n = (window_on m.frame v ≡ true) × LaidOn m v os n
LayOutcome m v os (Err e) n = (window_on m.frame v ≡ false) × (film_told e ≡ call 3) × (n ≡ m)
