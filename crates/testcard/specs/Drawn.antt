-- What drawing leaves on a film.
use Rattle.std.specs.Prelude.{◌≡◌, ℕ, ◌<◌, ◌≤◌, Bool, cond, ◌&&◌, ◌||◌, ◌==◌, nat_le, nat_lt}
use Rattle.film.specs.Film.{Meaning}
use Rattle.testcard.specs.Card.{card_pixel}

-- a film m then is n: the numbers as they were, and every pixel as the card has it
pub record CardDrawn (m n : Meaning) : Type 0 where
  pub frame : n.frame ≡ m.frame
  pub pixels : (c r : ℕ) → c < m.frame.width → r < m.frame.height → n.pixel c r ≡ card_pixel m.frame.width m.frame.height c r

-- the same of the rows from `first` down, those above as they were
pub record DrawnFrom (m : Meaning) (first : ℕ) (n : Meaning) : Type 0 where
  pub frame : n.frame ≡ m.frame
  pub pixels : (c r : ℕ) → c < m.frame.width → r < m.frame.height
      → n.pixel c r ≡ cond (nat_le first r) (card_pixel m.frame.width m.frame.height c r) (m.pixel c r)

-- columns first to end − 1 are those of a row of w pixels where p holds
pub record Covers (w first end : ℕ) (p : ℕ → Bool) : Type 0 where
  pub ordered : first ≤ end
  pub within : end ≤ w
  pub same : (c : ℕ) → c < w → (nat_le first c && nat_lt c end) ≡ p c

-- a film m then is n: one row is dark exactly where p holds, and all else is as it was
pub record RowShows (m : Meaning) (row : ℕ) (p : ℕ → Bool) (n : Meaning) : Type 0 where
  pub frame : n.frame ≡ m.frame
  pub pixels : (c r : ℕ) → c < m.frame.width → r < m.frame.height → n.pixel c r ≡ cond (r == row) (p c) (m.pixel c r)

-- a film m then is n: columns first to end − 1 of a row are dark, and all else is as it was
pub record Marked (m : Meaning) (row first end : ℕ) (n : Meaning) : Type 0 where
  pub frame : n.frame ≡ m.frame
  pub pixels : (c r : ℕ) → c < m.frame.width → r < m.frame.height
      → n.pixel c r ≡ (r == row && (nat_le first c && nat_lt c end)) || m.pixel c r
