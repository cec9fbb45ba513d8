-- What a plot comes to by the rules: accepted or refused, its numbers, and what it lays.
use Rattle.std.specs.Prelude.{ℕ, Bool, true, false, cond, List, [], map, length, Some, None, Ok, Err, Option, Result}
use Rattle.drawing.specs.Books.{Books, begin, rooms_for}
use Rattle.drawing.specs.Reading.{Outcome, read_file, refused}
use Rattle.film.specs.Frame.{Frame}
use Rattle.film.specs.Made.{window_on}
use Rattle.film.specs.declared.window.Window.{Window}
use Rattle.history.specs.Coverings.{Covering, laid}
use Rattle.laid.specs.Laid.{LaidObject, laid_objects}
use Rattle.words.specs.Words.{Told, fault}

-- How many slots the caller's three tables have.
pub record Slots : Type 0 where
  pub apertures : ℕ
  pub objects : ℕ
  pub pieces : ℕ

-- The window of the whole film.
abbrev pub entire : Frame → Window
entire f = record { x = 0; y = 0; width = f.width; height = f.height }

-- What a file comes to by its own rules, with tables of so many slots.
unfoldable pub judged : Slots → List ℕ → Outcome
judged s xs = read_file (rooms_for s.apertures s.objects s.pieces) xs

-- A plot of a file within a window: the window is looked at first; one that is empty or past the edge is refusal 3,
-- and then no record is taken.
abbrev pub verdict : Frame → Slots → Window → List ℕ → Outcome
verdict f s v xs = cond (window_on f v) (judged s xs) (refused (fault 3 0 0) begin)

abbrev pub no_refusal : Option Told → Bool
no_refusal None = true
no_refusal (Some t) = false

-- The plot is accepted.
abbrev pub accepts : Outcome → Bool
accepts o = no_refusal o.refusal

-- What an accepted plot answers: how many objects it drew, by their records, and how many it laid.
abbrev pub numbers_by : Books → Option Told → Result (ℕ × ℕ) Told
numbers_by b None = Ok (length b.objects, b.laid)
numbers_by b (Some t) = Err t

abbrev pub numbers : Outcome → Result (ℕ × ℕ) Told
numbers o = numbers_by o.books o.refusal

-- The objects that an accepted plot lays; a refused one lays none.
abbrev pub lays_by : Books → Option Told → List LaidObject
lays_by b None = laid_objects b.apertures b.objects b.pieces
lays_by b (Some t) = []

abbrev pub lay_list : Outcome → List LaidObject
lay_list o = lays_by o.books o.refusal

-- What covers by a plot: its laid objects, within its window, in their order.
abbrev pub plot_coverings : Frame → Slots → Window → List ℕ → List Covering
plot_coverings f s v xs = map (laid v) (lay_list (verdict f s v xs))
