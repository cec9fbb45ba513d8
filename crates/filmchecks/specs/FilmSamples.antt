-- worked examples of whole files and of a film, by the definitions of reading, laying and the sheet
use Rattle.std.specs.Prelude.{ℕ, Bool, true, false, not, ◌&&◌, List, [], ◌∷◌, ◌++◌, pos, Some, None, codes, Option, ◌==◌}
use Rattle.drawing.specs.Reading.{Outcome}
use Rattle.film.specs.Film.{Meaning}
use Rattle.film.specs.Frame.{Frame, framed}
use Rattle.history.specs.Verdicts.{Slots, entire, lay_list, verdict}
use Rattle.laid.specs.Covered.{shown_by}
use Rattle.piles.specs.Piles.{negated}
use Rattle.rules.specs.Rules.{arc_fits}
use Rattle.plane.specs.Plane.{spot}
use Rattle.sheet.specs.Whole.{rows, sheet_bytes}
use Rattle.words.specs.Words.{Told}

-- each of the list is true
abbrev pub all_true : List Bool → Bool
all_true [] = true
all_true (b ∷ bs) = b && all_true bs

-- the two lists have the same numbers
abbrev pub same_list : List ℕ → List ℕ → Bool
same_list [] [] = true
same_list [] (b ∷ bs) = false
same_list (a ∷ as') [] = false
same_list (a ∷ as') (b ∷ bs) = a == b && same_list as' bs

-- the file is refused with this number, at this place, after so many commands
abbrev pub tells : ℕ → ℕ → ℕ → Option Told → Bool
tells n p k None = false
tells n p k (Some t) = t.number == n && (t.place == p && t.taken == k)

-- the file is accepted
abbrev pub is_accepted : Option Told → Bool
is_accepted None = true
is_accepted (Some t) = false

-- a line with its LF
abbrev pub line : List ℕ → List ℕ
line l = l ++ (10 ∷ [])

-- a file of millimetres with 4 decimals and the circle D10 of 0.2 mm, then a body and M02
abbrev pub file_of : List ℕ → List ℕ
file_of body = line (codes "%FSLAX34Y34*%") ++ (line (codes "%MOMM*%") ++ (line (codes "%ADD10C,0.2*%") ++ (body ++ line (codes "M02*"))))

-- slots for as many records as a drawing may have
abbrev pub full : Slots
full = record { apertures = 128; objects = 4096; pieces = 8192 }

-- a film of 10 by 10 pixels of 20 ticks, its origin at (100, 100)
abbrev pub small : Frame
small = framed 10 10 20 (pos 100) (pos 100)

-- what a plot of such a file on that film comes to
abbrev pub plot_of : List ℕ → Outcome
plot_of body = verdict small full (entire small) (file_of body)

-- a flash of the circle in the middle of that film, and the same with a code that is not defined
abbrev pub dot : List ℕ
dot = line (codes "D10*") ++ line (codes "X10000Y10000D03*")

abbrev pub wrong_code : List ℕ
wrong_code = line (codes "D11*") ++ line (codes "X10000Y10000D03*")

-- the film, clear at first, once the dot is plotted
abbrev pub dotted : Meaning
dotted = record { frame = small; pixel = λ c r. shown_by small (entire small) c r false (lay_list (plot_of dot)) }

-- ten rows of two bytes, those with the numbers 4 and 5 as the first pair, all others as the second
abbrev pub ten_rows : List ℕ → List ℕ → List ℕ
ten_rows a b = b ++ (b ++ (b ++ (b ++ (a ++ (a ++ (b ++ (b ++ (b ++ b))))))))

-- an arc from 50 ticks right of its centre to so many ten-thousandths of a millimetre above it
abbrev pub arc_up : List ℕ → List ℕ
arc_up y = line (codes "D10*") ++ (line (codes "G75*") ++ (line (codes "G03*") ++ (line (codes "X2500Y0D02*") ++ line (codes "X0Y" ++ (y ++ codes "I-2500J0D01*")))))

-- the farthest X, and the next one; the ends of an arc; the dot on its sheet and through a negative; the wrong code
abbrev pub film_samples : List Bool
film_samples =
    is_accepted (plot_of (line (codes "X1500024Y0D02*"))).refusal ∷
    tells 22 36 3 (plot_of (line (codes "X1500025Y0D02*"))).refusal ∷
    arc_fits (spot (pos 50) (pos 0)) (spot (pos 0) (pos 52)) ∷
    not (arc_fits (spot (pos 50) (pos 0)) (spot (pos 0) (pos 54))) ∷
    is_accepted (plot_of (arc_up (codes "2600"))).refusal ∷
    tells 26 63 7 (plot_of (arc_up (codes "2700"))).refusal ∷
    is_accepted (plot_of dot).refusal ∷
    same_list (sheet_bytes dotted) (codes "P4" ++ (10 ∷ codes "10 10") ++ (10 ∷ ten_rows (12 ∷ 0 ∷ []) (0 ∷ 0 ∷ []))) ∷
    same_list (rows (negated dotted) 10) (ten_rows (243 ∷ 192 ∷ []) (255 ∷ 192 ∷ [])) ∷
    tells 23 36 3 (plot_of wrong_code).refusal ∷ []
