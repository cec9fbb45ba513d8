-- What reading a file answers, and what the caller's slots then hold.
use Rattle.drawing.specs.Faults.{drawing_told}
use Rattle.drawing.specs.Books.{Books}
use Rattle.drawing.specs.Reading.{Outcome}
use Rattle.drawing.specs.declared.fault.PlotFault.TheVariants.{Command, Film, TooLong}
use Rattle.drawing.specs.declared.fault.PlotFault.{PlotFault}
use Rattle.drawing.specs.declared.fault.Drawing.{Drawing}
use Rattle.film.specs.Faults.{film_told}
use Rattle.std.specs.Result as results
use Rattle.std.specs.Prelude.{List, ◌++◌, length, drop, Some, None, Ok, Err, Option, Result}
use Rattle.words.specs.Words.{Told, fault}

-- A refusal of a plot tells the number of the film's refusal, or 7 where the file is too long, or what the command
-- layer tells.
abbrev pub plot_told : PlotFault → Told
plot_told (Film f) = fault (film_told f).number (film_told f).place 0
plot_told TooLong = fault 7 0 0
plot_told (Command c) = drawing_told c

-- An answer of the program, with what its refusal tells.
abbrev pub told_plot : {A : Type 0} → Result A PlotFault → Result A Told
told_plot r = results.result_map_both (λ x. x) plot_told r

-- How many records of each kind were taken, and how many objects they lay.
abbrev pub counts : Books → Drawing
counts b = record { apertures = length b.apertures; objects = length b.objects; pieces = length b.pieces; laid = b.laid }

-- What a reading answers: the counts, or the refusal.
abbrev pub answer_by : Books → Option Told → Result Drawing Told
answer_by b None = Ok (counts b)
answer_by b (Some t) = Err t

abbrev pub answer : Outcome → Result Drawing Told
answer o = answer_by o.books o.refusal

-- Slots that the records rs were taken into: the records, and behind them what stood there.
abbrev pub stored : {X : Type 0} → List X → List X → List X
stored rs slots = rs ++ drop (length rs) slots
