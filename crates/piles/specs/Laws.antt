-- How piles compare.
use Rattle.std.specs.Prelude.{◌≡◌, ℕ, ◌+◌, ◌<◌, true}
use Rattle.film.specs.Frame.{Frame, centre_x, centre_y}
use Rattle.film.specs.Film.{Meaning}
use Rattle.film.specs.Made.{window_on}
use Rattle.film.specs.declared.window.Window.{Window}
use Rattle.piles.specs.Piles.{negated, mirrored, cut, cut_frame}

-- two films show the same: equal numbers, and equal pixels on them
pub record SameFilm (m n : Meaning) : Type 0 where
  pub frame : m.frame ≡ n.frame
  pub pixels : (c r : ℕ) → c < n.frame.width → r < n.frame.height → m.pixel c r ≡ n.pixel c r

-- a mirror's mirror is the film
abbrev pub MirrorTwice : Type 0
MirrorTwice = (m : Meaning) → SameFilm (mirrored (mirrored m)) m

-- a negative's negative is the film
abbrev pub NegativeTwice : Type 0
NegativeTwice = (m : Meaning) → SameFilm (negated (negated m)) m

-- mirror and negative may change places
abbrev pub Exchange : Type 0
Exchange = (m : Meaning) → mirrored (negated m) ≡ negated (mirrored m)

-- the window v of the window u of a film, as a window of that film
abbrev pub joined : Window → Window → Window
joined u v = record { x = u.x + v.x; y = u.y + v.y; width = v.width; height = v.height }

-- a cut-out of a cut-out is one cut-out
abbrev pub CutTwice : Type 0
CutTwice = (u v : Window) (m : Meaning) → window_on m.frame u ≡ true → window_on (cut_frame u m.frame) v ≡ true
    → (window_on m.frame (joined u v) ≡ true) × SameFilm (cut v (cut u m)) (cut (joined u v) m)

-- a cut-out's pixels lie where they lie below
abbrev pub SameCentres : Type 0
SameCentres = (v : Window) (f : Frame) → window_on f v ≡ true → (c r : ℕ) → c < v.width → r < v.height
    → (centre_x (cut_frame v f) c ≡ centre_x f (v.x + c)) × (centre_y (cut_frame v f) r ≡ centre_y f (v.y + r))
