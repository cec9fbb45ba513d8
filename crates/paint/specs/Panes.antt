-- A window on a film, as plain values, and what painting on it leaves.
use Rattle.std.specs.Prelude.{◌≡◌, ℕ, ◌-◌, min, Bool}
use Rattle.film.specs.Film.{Beside, Meaning}
use Rattle.film.specs.Frame.{Frame}
use Rattle.film.specs.declared.film.Film as film
use Rattle.film.specs.declared.window.Window.{Window}
use Rattle.paint.specs.Painted.{Painted}
use Rattle.paint.specs.declared.pane.Pane.{Pane}
use Rattle.std.specs.Borrow.{GName}

-- what the film shows and what lies beside it, the window, and which film it is
pub record PaneSeen : Type 0 where
  pub meaning : Meaning
  pub beside : Beside
  pub window : Window
  pub film : GName

abbrev pub seen_pane : {F : Type 0} {G : film.Ghosts F} → Pane F G → PaneSeen
seen_pane {F} {G} p = record { meaning = G.meaning p.film.now; beside = G.beside p.film.now; window = p.window; film = p.film.ghost_name }

-- the part of a window that lies on a film
abbrev pub on_film : Frame → Window → Window
on_film f v = record {
  x = min v.x f.width;
  y = min v.y f.height;
  width = min v.width (f.width - min v.x f.width);
  height = min v.height (f.height - min v.y f.height);
}

-- a pane p then is q: the pixels where t holds as dark says, all else as it was
pub record Repainted (p : PaneSeen) (t : ℕ → ℕ → Bool) (dark : Bool) (q : PaneSeen) : Type 0 where
  pub painted : Painted p.meaning t dark q.meaning
  pub beside : q.beside ≡ p.beside
  pub window : q.window ≡ p.window
  pub film : q.film ≡ p.film
