-- What the five films show before anything is asked of them.
use Rattle.std.specs.Prelude.{◌≡◌, ℕ, ◌+◌, ◌-◌, true, false, not, List}
use Rattle.bitmap.specs.Made.{NewBitmap}
use Rattle.bitmap.specs.Pixels.{bitmap_meaning}
use Rattle.film.specs.Film.{Meaning}
use Rattle.film.specs.Frame.{Frame}
use Rattle.film.specs.Made.{window_on}
use Rattle.film.specs.declared.numbers.Numbers.{Numbers}
use Rattle.film.specs.declared.window.Window.{Window}
use Rattle.history.specs.Calls.{Call, Said, past}
use Rattle.history.specs.Coverings.{Never, on}
use Rattle.history.specs.History.{History}
use Rattle.piles.specs.Piles.{cut_frame, cut_out, mirrored, negated}
use Rattle.runs.specs.Made.{NewRunFilm}
use Rattle.runs.specs.Slots.{run_meaning}
use Rattle.runs.specs.declared.run.Run.{Run}

-- A film of the numbers f whose every pixel is clear.
pub record AllClear (f : Frame) (m : Meaning) : Type 0 where
  pub frame : m.frame ≡ f
  pub pixels : (c r : ℕ) → on f c r ≡ true → m.pixel c r ≡ false

-- A new bitmap and a new run film are clear. A negative is dark where the film below is clear; a mirror's column c is
-- column W − 1 − c below; a cut-out has the numbers and the pixels of its window below. And a pixel that nothing
-- covered is as it was at the start, whatever was asked.
pub record EveryStart : Type 0 where
  pub bitmaps : (f : Frame) (memory held : List ℕ) (n : Numbers) → NewBitmap f memory n held → AllClear f (bitmap_meaning held n)
  pub run_films : (f : Frame) (memory held : List ℕ) (n : Numbers) (slots : List Run) → NewRunFilm f memory n held slots → AllClear f (run_meaning held slots n)
  pub negatives : (m : Meaning) (c r : ℕ) → ((negated m).frame ≡ m.frame) × ((negated m).pixel c r ≡ not (m.pixel c r))
  pub mirrors : (m : Meaning) (c r : ℕ) → ((mirrored m).frame ≡ m.frame) × ((mirrored m).pixel c r ≡ m.pixel (m.frame.width - 1 - c) r)
  pub cut_outs : (m : Meaning) (v : Window) (c r : ℕ) → window_on m.frame v ≡ true
      → ((cut_out v m).frame ≡ cut_frame v m.frame) × ((cut_out v m).pixel c r ≡ m.pixel (v.x + c) (v.y + r))
  pub uncovered : (m n : Meaning) (qs : List Call) (answers : List Said) (c r : ℕ) → History m qs answers n
      → on m.frame c r ≡ true → Never m.frame c r (past m.frame qs) → n.pixel c r ≡ m.pixel c r
