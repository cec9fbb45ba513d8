-- Reading a file into the caller's tables.
use Rattle.drawing.specs.Answers.{answer}
use Rattle.drawing.specs.Reading.{Outcome}
use Rattle.drawing.specs.declared.fault.Drawing.{Drawing}
use Rattle.history.specs.Calls.{Tables, stored_books}
use Rattle.std.specs.Prelude.{◌≡◌, Result}
use Rattle.words.specs.Words.{Told}

-- What reading comes to is answered, and its records stand in the tables.
pub record Recorded (o : Outcome) (t : Tables) (r : Result Drawing Told) (t' : Tables) : Type 0 where
  pub told : r ≡ answer o
  pub held : t' ≡ stored_books o.books t
