-- What a film means, and what reading and writing it do.
use Rattle.std.specs.Prelude.{◌≡◌, ℕ, ◌<◌, Bool, cond, ◌&&◌, List, Ok, Err, Result, ◌==◌, nat_le, nat_lt}
use Rattle.film.specs.Frame.{Frame}
use Rattle.film.specs.Faults.{Told, call}

-- a film's numbers, and whether the pixel of a column and a row is dark
pub record Meaning : Type 0 where
  pub frame : Frame
  pub pixel : ℕ → ℕ → Bool

-- what lies beside a film's own pixels: the numbers in memory past its own, and of each film below
-- that shows more than the film does, whether its other pixels are dark
pub record Beside : Type 0 where
  pub memory : List ℕ
  pub pixels : List (ℕ → ℕ → Bool)

-- reading answers the pixel, and off the film refusal 4
abbrev pub read_of : Meaning → ℕ → ℕ → Result Bool Told
read_of m c r = cond (nat_lt c m.frame.width && nat_lt r m.frame.height) (Ok (m.pixel c r)) (Err (call 4))

-- the span lies on the film
abbrev pub span_on : Frame → ℕ → ℕ → ℕ → Bool
span_on f row first end = nat_lt row f.height && nat_le first end && nat_le end f.width

-- the pixel (c, r) is one of the span's
abbrev pub in_span : ℕ → ℕ → ℕ → ℕ → ℕ → Bool
in_span row first end c r = r == row && nat_le first c && nat_lt c end

-- the pixel (c, r) once the span is written, or refused
abbrev pub spanned : Meaning → ℕ → ℕ → ℕ → Bool → ℕ → ℕ → Bool
spanned m row first end dark c r = cond (span_on m.frame row first end && in_span row first end c r) dark (m.pixel c r)

-- writing a span on m answers a and leaves n: refusal 4 off the film, the numbers as they were,
-- and exactly the span's pixels written
pub record SpanWritten (m : Meaning) (row first end : ℕ) (dark : Bool) (a : Result (Unit {0}) Told) (n : Meaning) : Type 0 where
  pub answer : a ≡ cond (span_on m.frame row first end) (Ok tt) (Err (call 4))
  pub frame : n.frame ≡ m.frame
  pub pixels : (c r : ℕ) → c < m.frame.width → r < m.frame.height → n.pixel c r ≡ spanned m row first end dark c r
