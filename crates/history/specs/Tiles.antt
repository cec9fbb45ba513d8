-- Window plots that together hold every pixel do what one whole plot does.
use Rattle.std.specs.Prelude.{◌≡◌, ℕ, true, false, ◌⊎◌, List, [], ◌∷◌, ◌++◌, length}
use Rattle.film.specs.Film.{Meaning}
use Rattle.film.specs.Frame.{Frame, in_limits}
use Rattle.film.specs.declared.window.Window.{Window}
use Rattle.history.specs.Calls.{Call, Said, Tables, clear, look, part, said_by, tables_past, whole}
use Rattle.history.specs.Coverings.{on}
use Rattle.history.specs.History.{History}
use Rattle.history.specs.Verdicts.{Slots, accepts, entire, numbers, verdict}
use Rattle.paint.specs.Painted.{in_window}

abbrev pub Accepted : Frame → Slots → Window → List ℕ → Type 0
Accepted f s v xs = accepts (verdict f s v xs) ≡ true

abbrev pub RefusedPlot : Frame → Slots → Window → List ℕ → Type 0
RefusedPlot f s v xs = accepts (verdict f s v xs) ≡ false

-- A window plot of xs with tables of s slots, a reading, or a refused call.
abbrev pub Tile : Frame → Slots → List ℕ → Call → Type 0
Tile f s xs (whole t ys) = RefusedPlot f t (entire f) ys
Tile f s xs (part t v ys) = ((t ≡ s) × (ys ≡ xs)) ⊎ RefusedPlot f t v ys
Tile f s xs clear = ⊥
Tile f s xs (look c r) = Unit {0}

-- An accepted window plot of xs.
abbrev pub WindowOf : Frame → Slots → List ℕ → Call → Type 0
WindowOf f s xs (whole t ys) = ⊥
WindowOf f s xs (part t v ys) = (t ≡ s) × (ys ≡ xs) × Accepted f t v ys
WindowOf f s xs clear = ⊥
WindowOf f s xs (look c r) = ⊥

-- An accepted window plot of xs whose window holds the pixel.
abbrev pub Holds : Frame → Slots → List ℕ → ℕ → ℕ → Call → Type 0
Holds f s xs c r (whole t ys) = ⊥
Holds f s xs c r (part t v ys) = (t ≡ s) × (ys ≡ xs) × Accepted f t v ys × (in_window v c r ≡ true)
Holds f s xs c r clear = ⊥
Holds f s xs c r (look x y) = ⊥

abbrev pub Each : (Call → Type 0) → List Call → Type 0
Each P [] = Unit {0}
Each P (q ∷ qs) = P q × Each P qs

abbrev pub SomeOne : (Call → Type 0) → List Call → Type 0
SomeOne P [] = ⊥
SomeOne P (q ∷ qs) = P q ⊎ SomeOne P qs

-- Accepted window plots of xs that together hold every pixel, with only readings and refused calls among them.
pub record Tiling (f : Frame) (s : Slots) (xs : List ℕ) (qs : List Call) : Type 0 where
  pub only : Each (Tile f s xs) qs
  pub every : (c r : ℕ) → on f c r ≡ true → SomeOne (Holds f s xs c r) qs

-- The answer of a whole plot of xs.
abbrev pub whole_said : Frame → Slots → List ℕ → Said
whole_said f s xs = said_by (numbers (verdict f s (entire f) xs))

-- Each accepted window plot of xs has the answer n.
abbrev pub AllSay : Frame → Slots → List ℕ → Said → List Call → List Said → Type 0
AllSay f s xs n [] [] = Unit {0}
AllSay f s xs n [] (a ∷ rest) = ⊥
AllSay f s xs n (q ∷ qs) [] = ⊥
AllSay f s xs n (q ∷ qs) (a ∷ rest) = (WindowOf f s xs q → a ≡ n) × AllSay f s xs n qs rest

-- What was done is also a history in which one accepted whole plot of xs stands in the stead of the tiles, and each
-- tile answers its numbers.
pub record AsWhole (before : Meaning) (s : Slots) (xs : List ℕ) (pre tiles post : List Call) (xa xb xc : List Said) (after : Meaning) : Type 0 where
  pub accepts : Accepted before.frame s (entire before.frame) xs
  pub instead : History before (pre ++ (whole s xs ∷ post)) (xa ++ (whole_said before.frame s xs ∷ xc)) after
  pub says : AllSay before.frame s xs (whole_said before.frame s xs) tiles xb

-- Wherever such tiles stand in a list of calls.
abbrev pub TilesAsWhole : Meaning → List Call → List Said → Meaning → Type 0
TilesAsWhole before qs answers after =
    (s : Slots) (xs : List ℕ) (pre tiles post : List Call) (xa xb xc : List Said)
    → qs ≡ pre ++ (tiles ++ post) → answers ≡ xa ++ (xb ++ xc) → length xa ≡ length pre → length xb ≡ length tiles
    → Tiling before.frame s xs tiles → AsWhole before s xs pre tiles post xa xb xc after

-- It holds of every history of a film within its limits, be it of single calls or of lists.
abbrev pub EveryTiling : Type 0
EveryTiling = (before after : Meaning) (qs : List Call) (answers : List Said)
    → in_limits before.frame ≡ true → History before qs answers after → TilesAsWhole before qs answers after

-- What a list of calls does to a film and to the caller's tables.
pub record Exposed (before : Meaning) (t : Tables) (qs : List Call) (answers : List Said) (t' : Tables) (after : Meaning) : Type 0 where
  pub last_covering : History before qs answers after
  pub tiles_as_whole : TilesAsWhole before qs answers after
  pub tables : t' ≡ tables_past before.frame t qs
