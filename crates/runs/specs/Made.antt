-- Making a run film.
use Rattle.std.specs.Prelude.{◌≡◌, ℕ, ◌*◌, ◌<◌, false, cond, ◌&&◌, List, ◌++◌, drop, replicate, Some, None, Option, nat_le}
use Rattle.film.specs.Frame.{Frame, in_limits}
use Rattle.film.specs.Faults.{Told, call}
use Rattle.film.specs.Made.{frame_of}
use Rattle.film.specs.declared.numbers.Numbers.{Numbers}
use Rattle.runs.specs.declared.run.Run.{Run}
use Rattle.runs.specs.Slots.{row_slots, run_meaning}

-- why a run film of these numbers is refused over so many counts and slots, if it is: numbers
-- outside their limits are refused with 1, too few counts or slots with 2
abbrev pub run_refusal : Frame → ℕ → ℕ → Option Told
run_refusal f counts slots =
    cond (in_limits f) (cond (nat_le f.height counts && nat_le (f.height * row_slots f.width) slots) None (Some (call 2))) (Some (call 1))

-- a new run film has the numbers that it was made with, its own counts are 0 and the others as they
-- were in the memory, and every pixel is clear
pub record NewRunFilm (f : Frame) (memory : List ℕ) (n : Numbers) (held : List ℕ) (slots : List Run) : Type 0 where
  pub frame : frame_of n ≡ f
  pub counts : held ≡ replicate n.height 0 ++ drop n.height memory
  pub clear : (c r : ℕ) → c < f.width → r < f.height → (run_meaning held slots n).pixel c r ≡ false
