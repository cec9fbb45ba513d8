-- What it says of a pixel and of a span that they lie on a film.
use Rattle.std.proofs.Common.{◌≡◌, ℕ, ◌<◌, ◌≤◌, true, cond, ◌&&◌, ltb, Ok, Err, sym, ap, arith}
use Rattle.std.proofs.lemmas.Bool.Decides.{nat_tests}
use Rattle.film.specs.Frame.{Frame}
use Rattle.film.specs.Faults.{call}
use Rattle.film.specs.Film.{Meaning, span_on, read_of}

pub record SpanOn (f : Frame) (row first end : ℕ) : Type 0 where
  pub down : row < f.height
  pub order : first ≤ end
  pub across : end ≤ f.width

pub span_parts : (f : Frame) (row first end : ℕ) → span_on f row first end ≡ true → SpanOn f row first end
span_parts f row first end e = record { down = grind (arith, nat_tests); order = grind (arith, nat_tests); across = grind (arith, nat_tests) }

-- a pixel on the film is read
pub read_on : (m : Meaning) (col row : ℕ) → (ltb col m.frame.width && ltb row m.frame.height) ≡ true → Ok (m.pixel col row) ≡ read_of m col row
read_on m col row e = sym (ap (λ b. cond b (Ok (m.pixel col row)) (Err (call 4))) e)
