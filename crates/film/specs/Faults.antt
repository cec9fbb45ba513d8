-- What a refusal tells.
use Rattle.std.specs.Prelude.{ℕ, Ok, Err, Result}
use Rattle.film.specs.declared.fault.FilmFault.{FilmFault}
use Rattle.film.specs.declared.fault.FilmFault.TheVariants.{Limits, Memory, Window, Off, Short}

-- its number, and its place, which is 0 where a call is refused and no byte of a file is to blame
pub record Told : Type 0 where
  pub number : ℕ
  pub place : ℕ

-- refusal n of a call
abbrev pub call : ℕ → Told
call n = record { number = n; place = 0 }

-- what each case of a film's refusal tells
abbrev pub film_told : FilmFault → Told
film_told Limits = call 1
film_told Memory = call 2
film_told Window = call 3
film_told Off = call 4
film_told Short = call 5

-- an answer with what its refusal tells
abbrev pub answered : {A : Type 0} → Result A FilmFault → Result A Told
answered (Ok a) = Ok a
answered (Err e) = Err (film_told e)
