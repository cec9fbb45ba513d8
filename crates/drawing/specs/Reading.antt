-- Reading a whole file, command by command, up to M02 and the end.
use Rattle.std.specs.Prelude.{ℕ, zero, suc, ◌+◌, Bool, cond, List, length, Some, None, Ok, Err, Option, Result, nat_le}
use Rattle.commands.specs.Files.{ReadSeen, command_at, is_end}
use Rattle.drawing.specs.Books.{Books, Rooms, Standing, begin, rooms_for, stepped}
use Rattle.words.specs.Words.{Told, closing, fault}

-- What reading comes to: the refusal, if there is one, and the records taken before it.
pub record Outcome : Type 0 where
  pub refusal : Option Told
  pub books : Books

abbrev pub refused : Told → Standing → Outcome
refused t st = record { refusal = Some t; books = st.books }

-- Behind M02 nothing but CR and LF may follow.
abbrev pub ended : Standing → Result (Unit {0}) Told → Outcome
ended st (Ok u) = record { refusal = None; books = st.books }
ended st (Err t) = refused t st

-- A command that breaks a rule is refused at its first content byte; behind M02 the file ends, and behind any other
-- command `more` reads on.
abbrev pub after_step : ℕ → List ℕ → ReadSeen → (ℕ → Standing → Outcome) → Standing → Result Standing ℕ → Outcome
after_step k xs r more st (Err n) = refused (fault n r.place k) st
after_step k xs r more st (Ok next) = cond (is_end r.order) (ended next (closing (k + 1) xs r.next)) (more r.next next)

-- A refusal of text or form ends the reading; a command is carried out by the rules.
abbrev pub after_read : Rooms → ℕ → List ℕ → (ℕ → Standing → Outcome) → Standing → Result ReadSeen Told → Outcome
after_read room k xs more st (Err t) = refused t st
after_read room k xs more st (Ok r) = after_step k xs r more st (stepped room st r.order)

-- k commands were taken, and the file xs is read on from i, over at most `fuel` commands.
abbrev pub read_on : ℕ → Rooms → List ℕ → ℕ → ℕ → Standing → Outcome
read_on zero room xs i k st = refused (fault 11 (length xs) k) st
read_on (suc fuel) room xs i k st =
    after_read room k xs (λ j next. read_on fuel room xs j (k + 1) next) st (command_at k xs i st.state.format)

-- A file has at most 1,048,576 bytes.
abbrev pub is_short : List ℕ → Bool
is_short xs = nat_le (length xs) 1048576

-- A whole file: one that is longer is refusal 7. Every command has a byte or more, so the fuel never runs out.
unfoldable pub read_file : Rooms → List ℕ → Outcome
read_file room xs = cond (is_short xs) (read_on (suc (length xs)) room xs 0 0 begin) (refused (fault 7 0 0) begin)

-- A whole file, read into so many slots for apertures, objects and pieces.
abbrev pub read_into : List ℕ → ℕ → ℕ → ℕ → Outcome
read_into xs a o p = read_file (rooms_for a o p) xs
