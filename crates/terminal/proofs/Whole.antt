-- A film's sheet, in an output of its length.
use Rattle.std.proofs.Common.{◌≡◌, ℕ, ◌+◌, leb, List, ◌++◌, length, take, ap, ◌∙◌, arith}
use Rattle.std.proofs.lemmas.Bool.{cond-true, le-leb}
use Rattle.std.proofs.lemmas.List.{append-nil, drop_all, length-append, take_at}
use Rattle.film.specs.Film.{Meaning}
use Rattle.sheet.proofs.Writing.{length_rows}
use Rattle.sheet.specs.Sheet.{header, put, sheet_length}
use Rattle.sheet.specs.Whole.{film_output, rows, sheet_bytes}

-- bytes that fill an output
put_whole : (ys out : List ℕ) → length out ≡ length ys → put 0 ys out ≡ ys
put_whole ys out e = ap (λ zs. ys ++ zs) (drop_all (0 + length ys) out (omega arith)) ∙ append-nil ys

-- a sheet's bytes are as many as it takes
length_sheet : (m : Meaning) → length (sheet_bytes m) ≡ sheet_length m.frame.width m.frame.height
unfolding sheet_length
length_sheet m =
    length-append (header m.frame.width m.frame.height) (rows m m.frame.height)
    ∙ ap (λ k. length (header m.frame.width m.frame.height) + k) (length_rows m m.frame.height)

-- an output of its length holds it alone
pub sheet_alone : (m : Meaning) (n : ℕ) (out left rest : List ℕ)
    → n ≡ sheet_length m.frame.width m.frame.height → length out ≡ n → left ≡ film_output m out → take n (left ++ rest) ≡ sheet_bytes m
sheet_alone m n out left rest e k o =
    let l = length_sheet m in
    let whole = o ∙ cond-true (leb (sheet_length m.frame.width m.frame.height) (length out)) _ _ (le-leb _ _ (omega arith)) ∙ put_whole (sheet_bytes m) out (omega arith) in
    let w = ap length whole in
    take_at left rest n (omega arith) ∙ whole
