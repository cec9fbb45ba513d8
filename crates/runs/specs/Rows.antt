-- The dark runs of one row.
use Rattle.std.specs.Prelude.{◌≡◌, ℕ, suc, ◌+◌, min, max, Bool, true, false, cond, ◌&&◌, ◌||◌, List, [], ◌∷◌, ◌++◌, nat_le, nat_lt}
use Rattle.runs.specs.declared.run.Run.{Run}

-- columns a to b, which is not one of them
abbrev pub run : ℕ → ℕ → Run
run a b = record { first = a; end = b }

-- the run holds column c
abbrev pub in_run : Run → ℕ → Bool
in_run x c = nat_le x.first c && nat_lt c x.end

-- column c is dark in a row of these runs
abbrev pub in_row : List Run → ℕ → Bool
in_row [] c = false
in_row (x ∷ xs) c = in_run x c || in_row xs c

-- the runs ascend from column lo to w at most, hold a column each and never touch
abbrev pub row_ok : ℕ → ℕ → List Run → Bool
row_ok lo w [] = true
row_ok lo w (x ∷ xs) = nat_le lo x.first && (nat_lt x.first x.end && (nat_le x.end w && row_ok (suc x.end) w xs))

-- the run lo to hi, joined with those that it meets or touches, and the runs after it
abbrev pub absorbed : ℕ → ℕ → List Run → List Run
absorbed lo hi [] = run lo hi ∷ []
absorbed lo hi (x ∷ xs) = cond (nat_le x.first hi) (absorbed (min lo x.first) (max hi x.end) xs) (run lo hi ∷ x ∷ xs)

-- with the columns a to b dark
abbrev pub darkened : ℕ → ℕ → List Run → List Run
darkened a b [] = run a b ∷ []
darkened a b (x ∷ xs) = cond (nat_lt x.end a) (x ∷ darkened a b xs) (absorbed a b (x ∷ xs))

-- the first run begins no earlier than b
abbrev pub trimmed : ℕ → List Run → List Run
trimmed b [] = []
trimmed b (x ∷ xs) = run (max x.first b) x.end ∷ xs

-- the columns from b on
abbrev pub dropped : ℕ → List Run → List Run
dropped b [] = []
dropped b (x ∷ xs) = cond (nat_lt x.end (b + 1)) (dropped b xs) (trimmed b (x ∷ xs))

-- what the first run has before a
abbrev pub left_of : ℕ → List Run → List Run
left_of a [] = []
left_of a (x ∷ xs) = cond (nat_lt x.first a) (run x.first a ∷ []) []

-- with the columns a to b clear
abbrev pub cleared : ℕ → ℕ → List Run → List Run
cleared a b [] = []
cleared a b (x ∷ xs) = cond (nat_lt x.end (a + 1)) (x ∷ cleared a b xs) (left_of a (x ∷ xs) ++ dropped b (x ∷ xs))

-- ys are the runs xs of a row of w columns with the columns a to b written
pub record RowWritten (w : ℕ) (xs : List Run) (a b : ℕ) (dark : Bool) (ys : List Run) : Type 0 where
  pub ordered : row_ok 0 w ys ≡ true
  pub columns : (c : ℕ) → in_row ys c ≡ cond (nat_le a c && nat_lt c b) dark (in_row xs c)
