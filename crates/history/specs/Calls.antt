-- What may be asked of a film, and what is answered.
use Rattle.std.specs.Prelude.{◌≡◌, ℕ, Bool, true, false, List, [], ◌∷◌, ◌++◌, length, Ok, Err, Result}
use Rattle.drawing.specs.Answers.{stored}
use Rattle.drawing.specs.Books.{Books}
use Rattle.film.specs.Frame.{Frame}
use Rattle.film.specs.Film.{Meaning}
use Rattle.film.specs.declared.window.Window.{Window}
use Rattle.history.specs.Coverings.{Covering, Left, blanking, on}
use Rattle.history.specs.Verdicts.{Slots, entire, numbers, plot_coverings, verdict}
use Rattle.plane.specs.Plane.{At}
use Rattle.records.specs.Records.{ApertureSeen, ObjectSeen}
use Rattle.words.specs.Words.{Told, fault}

-- A plot of a file with tables of so many slots, the same within a window, a blanking, or a reading of one pixel.
pub data Call : Type 0 where
  whole : Slots → List ℕ → Call
  part : Slots → Window → List ℕ → Call
  clear : Call
  look : ℕ → ℕ → Call

-- An answer: the numbers of an accepted plot, a refusal, a blanking done, or a pixel read.
pub data Said : Type 0 where
  plotted : ℕ → ℕ → Said
  refusal : Told → Said
  blanked : Said
  pixel : Bool → Said

-- What covers by one call.
abbrev pub lays : Frame → Call → List Covering
lays f (whole s xs) = plot_coverings f s (entire f) xs
lays f (part s v xs) = plot_coverings f s v xs
lays f clear = blanking ∷ []
lays f (look c r) = []

-- And by a list of calls, in their order.
abbrev pub past : Frame → List Call → List Covering
past f [] = []
past f (q ∷ qs) = lays f q ++ past f qs

-- A plot says its numbers or its refusal.
abbrev pub said_by : Result (ℕ × ℕ) Told → Said
said_by (Ok n) = plotted n.0 n.1
said_by (Err t) = refusal t

-- The answer to a call that is made once the coverings cs were laid on the film: a plot answers by the rules; a
-- reading tells the pixel as the coverings left it, and off the film refusal 4.
abbrev pub Answers : Meaning → List Covering → Call → Said → Type 0
Answers m cs (whole s xs) a = a ≡ said_by (numbers (verdict m.frame s (entire m.frame) xs))
Answers m cs (part s v xs) a = a ≡ said_by (numbers (verdict m.frame s v xs))
Answers m cs clear a = a ≡ blanked
Answers m cs (look c r) a =
    (on m.frame c r ≡ true → (dark : Bool) × ((a ≡ pixel dark) × Left m.frame c r (m.pixel c r) cs dark))
    × (on m.frame c r ≡ false → a ≡ refusal (fault 4 0 0))

-- Each call of qs is answered as the coverings cs and those of the calls before it left the film.
abbrev pub AllAnswered : Meaning → List Covering → List Call → List Said → Type 0
AllAnswered m cs [] [] = Unit {0}
AllAnswered m cs [] (a ∷ rest) = ⊥
AllAnswered m cs (q ∷ qs) [] = ⊥
AllAnswered m cs (q ∷ qs) (a ∷ rest) = Answers m cs q a × AllAnswered m (cs ++ lays m.frame q) qs rest

-- What the caller's three tables hold, slot by slot.
pub record Tables : Type 0 where
  pub apertures : List ApertureSeen
  pub objects : List ObjectSeen
  pub pieces : List At

-- How many slots they have.
abbrev pub slots_of : Tables → Slots
slots_of t = record { apertures = length t.apertures; objects = length t.objects; pieces = length t.pieces }

-- The records taken stand in front, and behind them what stood there.
abbrev pub stored_books : Books → Tables → Tables
stored_books b t = record {
  apertures = stored b.apertures t.apertures;
  objects = stored b.objects t.objects;
  pieces = stored b.pieces t.pieces;
}

-- The tables after one call, and after a list of calls.
abbrev pub tables_after : Frame → Tables → Call → Tables
tables_after f t (whole s xs) = stored_books (verdict f s (entire f) xs).books t
tables_after f t (part s v xs) = stored_books (verdict f s v xs).books t
tables_after f t clear = t
tables_after f t (look c r) = t

abbrev pub tables_past : Frame → Tables → List Call → Tables
tables_past f t [] = t
tables_past f t (q ∷ qs) = tables_past f (tables_after f t q) qs
