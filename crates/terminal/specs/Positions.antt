use Rattle.std.specs.Prelude.{◌≡◌, ℕ, zero, suc, ◌+◌, Bool, cond, not, ◌&&◌, ◌||◌, List, ◌==◌, slice_index}

-- A line ends behind LF, or behind CR where no LF follows.
abbrev pub ends_line : List ℕ → ℕ → Bool
ends_line xs i = slice_index xs i == 10 || (slice_index xs i == 13 && not (slice_index xs (i + 1) == 10))

-- The number of the line that holds the place n: one more than the lines that end before it.
abbrev pub line_at : List ℕ → ℕ → ℕ
line_at xs zero = 1
line_at xs (suc n) = cond (ends_line xs n) (line_at xs n + 1) (line_at xs n)

-- Where the line that holds the place n starts.
abbrev pub start_at : List ℕ → ℕ → ℕ
start_at xs zero = 0
start_at xs (suc n) = cond (ends_line xs n) (suc n) (start_at xs n)

-- The place n of the file xs stands in the line l, which starts at s.
pub record Stands (xs : List ℕ) (n l s : ℕ) : Type 0 where
  pub line : l ≡ line_at xs n
  pub start : s ≡ start_at xs n
