-- What writing one row leaves as it was.
use Rattle.std.specs.Prelude.{◌≡◌, ℕ, ◌+◌, ◌*◌, ◌<◌, ◌≤◌, Bool, List, take, drop, ◌≢◌, slice_index, slice_index_or}
use Rattle.runs.specs.declared.run.Run.{Run}
use Rattle.runs.specs.Rows.{RowWritten}
use Rattle.runs.specs.Slots.{row_slots, runs_of}

-- ys is xs but for the k slots from start on
pub record Within (xs : List Run) (start k : ℕ) (ys : List Run) : Type 0 where
  pub before : (m j : ℕ) → m + j ≤ start → take j (drop m ys) ≡ take j (drop m xs)
  pub after : (m : ℕ) → start + k ≤ m → drop m ys ≡ drop m xs

-- row is written, and every other row keeps its runs
pub record RowChanged (w : ℕ) (counts : List ℕ) (slots : List Run) (row a b : ℕ) (dark : Bool) (counts' : List ℕ) (slots' : List Run) : Type 0 where
  pub written : RowWritten w (runs_of counts slots w row) a b dark (runs_of counts' slots' w row)
  pub bound : slice_index_or counts' row 0 ≤ row_slots w
  pub counted : (r : ℕ) → (r ≢ row) → slice_index counts' r ≡ slice_index counts r
  pub others : (r : ℕ) → (r ≢ row) → slice_index counts r ≤ row_slots w → runs_of counts' slots' w r ≡ runs_of counts slots w r
  pub later_counts : (k : ℕ) → row < k → drop k counts' ≡ drop k counts
  pub later_slots : (k : ℕ) → row * row_slots w + row_slots w ≤ k → drop k slots' ≡ drop k slots
