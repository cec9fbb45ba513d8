-- The whole past of a film.
use Rattle.std.specs.Prelude.{◌≡◌, ℕ, Bool, List, [], ◌∷◌, ◌++◌, Ok, Err, Result}
use Rattle.film.specs.Faults as faults
use Rattle.film.specs.Film.{Meaning, read_of}
use Rattle.film.specs.declared.window.Window.{Window}
use Rattle.history.specs.Calls.{AllAnswered, Answers, Call, Said, Tables, blanked, clear, lays, look, part, past, pixel, refusal, said_by, slots_of, stored_books, tables_after, whole}
use Rattle.history.specs.Coverings.{Shows, blanking}
use Rattle.history.specs.Verdicts.{entire, numbers, plot_coverings, verdict}
use Rattle.words.specs.Words.{Told, fault}

-- The calls qs, one after another and nothing else, were made of the film that was `before`: every pixel shows the last
-- thing that covered it, and each call was answered by the rules and by what covered before it.
pub record History (before : Meaning) (qs : List Call) (answers : List Said) (after : Meaning) : Type 0 where
  pub shown : Shows before (past before.frame qs) after
  pub answered : AllAnswered before [] qs answers

-- What one plot within a window does: its answer, the film, and the tables.
pub record Plotted (before : Meaning) (t : Tables) (v : Window) (xs : List ℕ) (answer : Result (ℕ × ℕ) Told) (t' : Tables) (after : Meaning) : Type 0 where
  pub answered : answer ≡ numbers (verdict before.frame (slots_of t) v xs)
  pub shown : Shows before (plot_coverings before.frame (slots_of t) v xs) after
  pub held : t' ≡ stored_books (verdict before.frame (slots_of t) v xs).books t

-- What one call does: the film, its answer, and the tables.
pub record Served (before : Meaning) (t : Tables) (q : Call) (answer : Said) (t' : Tables) (after : Meaning) : Type 0 where
  pub shown : Shows before (lays before.frame q) after
  pub answered : Answers before [] q answer
  pub held : t' ≡ tables_after before.frame t q

-- A reading says the pixel, or refusal 4.
abbrev pub said_of : Result Bool faults.Told → Said
said_of (Ok dark) = pixel dark
said_of (Err t) = refusal (fault t.number t.place 0)

-- The public calls by themselves: each is a history of one call, and histories one after another are a history. So
-- whatever was asked of a film, by single calls or by lists, in any order, is a history of it.
pub record EveryPast : Type 0 where
  pub none : (m : Meaning) → History m [] [] m
  pub whole_plots : (m n : Meaning) (t t' : Tables) (xs : List ℕ) (a : Result (ℕ × ℕ) Told)
      → Plotted m t (entire m.frame) xs a t' n → History m (whole (slots_of t) xs ∷ []) (said_by a ∷ []) n
  pub window_plots : (m n : Meaning) (t t' : Tables) (v : Window) (xs : List ℕ) (a : Result (ℕ × ℕ) Told)
      → Plotted m t v xs a t' n → History m (part (slots_of t) v xs ∷ []) (said_by a ∷ []) n
  pub blankings : (m n : Meaning) → Shows m (blanking ∷ []) n → History m (clear ∷ []) (blanked ∷ []) n
  pub readings : (m : Meaning) (c r : ℕ) → History m (look c r ∷ []) (said_of (read_of m c r) ∷ []) m
  pub joined : (l m n : Meaning) (qs rs : List Call) (xs ys : List Said) → History l qs xs m → History m rs ys n → History l (qs ++ rs) (xs ++ ys) n
