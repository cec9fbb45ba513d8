-- The rows of a run film in its counts and slots.
use Rattle.std.specs.Prelude.{ℕ, ◌+◌, ◌*◌, ◌/◌, Bool, ◌&&◌, List, [], ◌∷◌, ◌++◌, take, drop, nat_le, slice_index}
use Rattle.runs.specs.declared.run.Run.{Run}
use Rattle.runs.specs.Rows.{in_row, row_ok}
use Rattle.film.specs.Film.{Meaning, Beside}
use Rattle.film.specs.Made.{frame_of}
use Rattle.film.specs.declared.numbers.Numbers.{Numbers}

-- the slots of a row of w columns
abbrev pub row_slots : ℕ → ℕ
row_slots w = (w + 1) / 2

-- the runs of row r
abbrev pub runs_of : List ℕ → List Run → ℕ → ℕ → List Run
runs_of counts slots w r = take (slice_index counts r) (drop (r * row_slots w) slots)

-- row r is in order: its runs fit its slots, ascend and never touch
abbrev pub row_sound : List ℕ → List Run → ℕ → ℕ → Bool
row_sound counts slots w r = nat_le (slice_index counts r) (row_slots w) && row_ok 0 w (runs_of counts slots w r)

-- what a film with these counts, slots and numbers means
abbrev pub run_meaning : List ℕ → List Run → Numbers → Meaning
run_meaning counts slots n = record { frame = frame_of n; pixel = λ c r. in_row (runs_of counts slots n.width r) c }

-- the numbers in some slots
abbrev pub spread : List Run → List ℕ
spread [] = []
spread (x ∷ xs) = x.first ∷ x.end ∷ spread xs

-- the counts and slots past the film's own
abbrev pub run_beside : List ℕ → List Run → Numbers → Beside
run_beside counts slots n = record { memory = drop n.height counts ++ spread (drop (n.height * row_slots n.width) slots); pixels = [] }
