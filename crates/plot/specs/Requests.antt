-- Requests, answers and slots of the program as plain values.
use Rattle.std.specs.Prelude.{ℕ, List, map, Result}
use Rattle.std.specs.Result as results
use Rattle.contour.specs.declared.pieces.Piece.{Piece}
use Rattle.drawing.specs.Answers.{plot_told}
use Rattle.drawing.specs.declared.fault.PlotFault.{PlotFault}
use Rattle.drawing.specs.declared.reading.Slots.{Slots as Lent}
use Rattle.history.specs.Calls as call
use Rattle.history.specs.Calls.{Call, Said, Tables}
use Rattle.history.specs.Verdicts.{Slots}
use Rattle.plot.specs.declared.requests.Answer.TheVariants.{Blanked, Pixel, Plotted, Refused}
use Rattle.plot.specs.declared.requests.Answer.{Answer}
use Rattle.plot.specs.declared.requests.Counts.{Counts}
use Rattle.plot.specs.declared.requests.Request.TheVariants.{Blank, Plot, Read, Window}
use Rattle.plot.specs.declared.requests.Request.{Request}
use Rattle.records.specs.Records.{seen_aperture, seen_object, seen_piece}
use Rattle.records.specs.declared.kinds.Aperture.{Aperture}
use Rattle.records.specs.declared.kinds.Object.{Object}
use Rattle.words.specs.Words.{Told}

-- What the three slices of slots hold.
abbrev pub tables_of : List Aperture → List Object → List Piece → Tables
tables_of xs ys zs = record { apertures = map seen_aperture xs; objects = map seen_object ys; pieces = map seen_piece zs }

-- The slots that a caller lends.
abbrev pub tables_in : Lent → Tables
tables_in s = tables_of s.apertures.now s.objects.now s.pieces.now

-- What a plot answers, with what its refusal tells.
abbrev pub told_counts : Result Counts PlotFault → Result (ℕ × ℕ) Told
told_counts r = results.result_map_both (λ c. (c.drawn, c.laid)) plot_told r

-- What a request asks, made with tables of so many slots.
abbrev pub asked : Slots → Request → Call
asked s (Plot f) = call.whole s f.now
asked s (Window v f) = call.part s v f.now
asked s Blank = call.clear
asked s (Read c r) = call.look c r

-- What an answer says.
abbrev pub seen_answer : Answer → Said
seen_answer (Plotted d l) = call.plotted d l
seen_answer (Refused e) = call.refusal (plot_told e)
seen_answer Blanked = call.blanked
seen_answer (Pixel dark) = call.pixel dark
