-- A film's sheet reads back as the film.
use Rattle.std.proofs.Common.{◌≡◌, ℕ, zero, suc, ◌+◌, ◌-◌, ◌*◌, ◌/◌, ◌%◌, ◌^◌, ◌<◌, ◌≤◌, Bool, true, false, cond, eqb, List, [], ◌∷◌, ◌++◌, length, get_or, take, drop, decimal, sym, refl, ap, ◌∙◌, ⊎_elim, append_assoc, add-one, arith}
use native.Mathlib.Nat.{two-pow-succ, div-div-eq-div-mul}
use Rattle.std.specs.Str.Parse.{digits_value}
use Rattle.std.specs.Char.{is_ascii_digit}
use Rattle.std.specs.List.{prefix_len}
use Rattle.std.specs.Str.{all_ascii_digits}
use Rattle.std.proofs.lemmas.List.FromFn.{get_or-map-range_with_len}
use Rattle.std.proofs.lemmas.Fmt.{digits_decimal, digits_value-decimal}
use Rattle.std.proofs.lemmas.List.{take_at, drop_at, length_push, get_or_append_left, get_or-append_right}
use Rattle.std.proofs.lemmas.Str.Parse.{numerals_by_value, tells_all_ascii_digits}
use Rattle.std.proofs.lemmas.Bool.{and_parts, and_from, le-leb, cases_lt}
use Rattle.std.proofs.lemmas.Bool.Decides.{nat_tests}
use Rattle.film.specs.Film.{Meaning}
use Rattle.film.specs.Packed.{bytes_for, binary, byte_of, inked, row_bytes}
use Rattle.film.proofs.Packing.{length_row_bytes}
use Rattle.sheet.specs.Sheet.{header, sheet_sized, sheet_length, put}
use Rattle.sheet.specs.Whole.{rows, sheet_bytes, row_by_row}
use Rattle.sheet.specs.Reading.{number_at, past, read_width, raster, ReadsBack, RowsSoFar, RowsReadBack}
use Rattle.sheet.proofs.Putting.{length_put}
use Rattle.sheet.proofs.Rows.{header_within}
use Rattle.sheet.proofs.Writing.{length_rows, rows_within, rows_more, put_none, after_header}

-- digits and one byte that is none
leading_digits : (ds : List ℕ) (b : ℕ) (ys : List ℕ) → all_ascii_digits ds ≡ true → is_ascii_digit b ≡ false → prefix_len is_ascii_digit (ds ++ b ∷ ys) ≡ length ds
leading_digits [] b ys h e = rw e
leading_digits (d ∷ ds) b ys h e =
    let p = and_parts (is_ascii_digit d) (all_ascii_digits ds) h in
    let k = leading_digits ds b ys p.1 e in
    rw p.0 (omega arith)

-- a number is read back, and what follows it
reads_number : (n b : ℕ) (ys : List ℕ) → n < 2 ^ 64 → is_ascii_digit b ≡ false → number_at (decimal n ++ b ∷ ys) ≡ n
reads_number n b ys h e =
    let own = numerals_by_value (λ ds. all_ascii_digits ds ≡ true) tells_all_ascii_digits in
    ap (λ k. digits_value 10 (take k (decimal n ++ b ∷ ys))) (leading_digits (decimal n) b ys (digits_decimal own n h) e)
    ∙ ap (digits_value 10) (take_at (decimal n) (b ∷ ys) (length (decimal n)) refl)
    ∙ digits_value-decimal own n h

reads_past : (n b : ℕ) (ys : List ℕ) → n < 2 ^ 64 → is_ascii_digit b ≡ false → past (decimal n ++ b ∷ ys) ≡ ys
reads_past n b ys h e =
    let own = numerals_by_value (λ ds. all_ascii_digits ds ≡ true) tells_all_ascii_digits in
    ap (λ k. drop (k + 1) (decimal n ++ b ∷ ys)) (leading_digits (decimal n) b ys (digits_decimal own n h) e)
    ∙ ap (drop (length (decimal n) + 1)) (sym (append_assoc (decimal n) (b ∷ []) ys))
    ∙ drop_at (decimal n ++ b ∷ []) ys (length (decimal n) + 1) (length_push (decimal n) b)

-- bit i of n, from the highest on
bit_of_lem : (p : ℕ → Bool) (c n i : ℕ) → i < n → binary p c n / 2 ^ (n - 1 - i) % 2 ≡ cond (p (c + i)) 1 0
bit_of_lem p c zero i h = absurd (omega arith)
bit_of_lem p c (suc n) i h = ⊎_elim
    (λ (l : i < n).
    let e : suc n - 1 - i ≡ suc (n - 1 - i) = omega arith in
    let half : (2 * binary p c n + cond (p (c + n)) 1 0) / 2 ≡ binary p c n = grind (arith, nat_tests) in
    let two : 2 ^ suc (n - 1 - i) ≡ 2 * 2 ^ (n - 1 - i) = omega (arith, two-pow-succ (n - 1 - i)) in
    rw e (rw two (sym (ap (λ k. k % 2) (div-div-eq-div-mul (2 * binary p c n + cond (p (c + n)) 1 0) 2 (2 ^ (n - 1 - i)))) ∙ ap (λ k. k / 2 ^ (n - 1 - i) % 2) half ∙ bit_of_lem p c n i l)))
    (λ (l : n ≤ i).
    let e : i ≡ n = omega arith in
    let z : suc n - 1 - n ≡ 0 = omega arith in
    rw e (rw z (grind (arith, nat_tests))))
    (cases_lt i n)

-- byte j of row r
rows_at : (m : Meaning) (n r j : ℕ) (rest : List ℕ) → r < n → j < bytes_for m.frame.width
    → get_or (rows m n ++ rest) (r * bytes_for m.frame.width + j) 0 ≡ byte_of (inked m r) j
unfolding row_bytes
rows_at m zero r j rest h l = absurd (omega arith)
rows_at m (suc n) r j rest h l = ap (λ ys. get_or ys (r * bytes_for m.frame.width + j) 0) (append_assoc (rows m n) (row_bytes m n) rest) ∙ ⊎_elim
    (λ (k : r < n). rows_at m n r j (row_bytes m n ++ rest) k l)
    (λ (k : n ≤ r).
    let b = bytes_for m.frame.width in
    let e : r ≡ n = omega arith in
    let long = length_row_bytes m n in
    rw e (get_or-append_right (rows m n) (row_bytes m n ++ rest) (n * b) (n * b + j) 0 (length_rows m n) (omega arith)
    ∙ ap (λ i. get_or (row_bytes m n ++ rest) i 0) (omega arith)
    ∙ get_or_append_left (row_bytes m n) rest 0 j (omega arith)
    ∙ get_or-map-range_with_len (byte_of (inked m n)) 0 b j j 0 l (omega arith)))
    (cases_lt r n)

-- the bytes of a sheet, part by part
parts : (m : Meaning) (rest : List ℕ) → sheet_bytes m ++ rest
    ≡ 80 ∷ 52 ∷ 10 ∷ (decimal m.frame.width ++ 32 ∷ (decimal m.frame.height ++ 10 ∷ (rows m m.frame.height ++ rest)))
unfolding header
parts m rest = simp append_assoc

-- the pixel of column c is its bit of its byte
pixel_of_lem : (m : Meaning) (c r : ℕ) → c < m.frame.width → eqb (byte_of (inked m r) (c / 8) / 2 ^ (7 - c % 8) % 2) 1 ≡ m.pixel c r
unfolding byte_of
pixel_of_lem m c r h =
    let b = bit_of_lem (inked m r) (8 * (c / 8)) 8 (c % 8) (omega arith) in
    let e : 8 * (c / 8) + c % 8 ≡ c = omega arith in
    ap (λ k. eqb k 1) (b ∙ ap (λ k. cond (inked m r k) 1 0) e) ∙ grind (arith, nat_tests)

reads_parts : (m : Meaning) (rest xs : List ℕ) → m.frame.width < 2 ^ 64 → m.frame.height < 2 ^ 64
    → xs ≡ 80 ∷ 52 ∷ 10 ∷ (decimal m.frame.width ++ 32 ∷ (decimal m.frame.height ++ 10 ∷ (rows m m.frame.height ++ rest)))
    → ReadsBack xs m
reads_parts m rest xs w h e =
    let w' = m.frame.width in
    let after = decimal m.frame.height ++ 10 ∷ (rows m m.frame.height ++ rest) in
    let wide : read_width xs ≡ m.frame.width = ap read_width e ∙ reads_number m.frame.width 32 after w refl in
    let first : past (drop 3 xs) ≡ after = ap (λ ys. past (drop 3 ys)) e ∙ reads_past m.frame.width 32 after w refl in
    let second : raster xs ≡ rows m m.frame.height ++ rest = ap past first ∙ reads_past m.frame.height 10 (rows m m.frame.height ++ rest) h refl in
    record {
      magic = ap (take 2) e;
      width = wide;
      height = ap number_at first ∙ reads_number m.frame.height 10 (rows m m.frame.height ++ rest) h refl;
      pixels = λ c r lc lr.
          ap (λ k. eqb (get_or (raster xs) (r * ((k + 7) / 8) + c / 8) 0 / 2 ^ (7 - c % 8) % 2) 1) wide
          ∙ ap (λ ys. eqb (get_or ys (r * bytes_for w' + c / 8) 0 / 2 ^ (7 - c % 8) % 2) 1) second
          ∙ ap (λ k. eqb (k / 2 ^ (7 - c % 8) % 2) 1) (rows_at m m.frame.height r (c / 8) rest lr (omega arith))
          ∙ pixel_of_lem m c r lc;
    }

pub reads_back : (m : Meaning) (rest xs : List ℕ) → sheet_sized m.frame.width m.frame.height ≡ true → xs ≡ sheet_bytes m ++ rest → ReadsBack xs m
reads_back m rest xs s e =
    let w : m.frame.width ≤ 30000 = grind (arith, nat_tests) in
    let h : m.frame.height ≤ 30000 = grind (arith, nat_tests) in
    reads_parts m rest xs (omega arith) (omega arith) (e ∙ parts m rest)

-- row by row, the rows come to stand after the header
row_by_row_lem : (m : Meaning) (n : ℕ) (out : List ℕ) → sheet_sized m.frame.width m.frame.height ≡ true
    → sheet_length m.frame.width m.frame.height ≤ length out → n ≤ m.frame.height
    → row_by_row m n out ≡ put (length (header m.frame.width m.frame.height)) (rows m n) (put 0 (header m.frame.width m.frame.height) out)
row_by_row_lem m zero out s l h =
    let on = and_from _ _ s (le-leb _ _ l) in
    ap (λ b. cond b (put 0 (header m.frame.width m.frame.height) out) out) on ∙ put_none (length (header m.frame.width m.frame.height)) _
row_by_row_lem m (suc n) out s l h =
    let head = header m.frame.width m.frame.height in
    let mid = put 0 head out in
    let k = length_put 0 head out (omega (arith, header_within m.frame.width m.frame.height)) in
    let below = row_by_row_lem m n out s l (omega arith) in
    let long : length (row_by_row m n out) ≡ length out =
    ap length below ∙ length_put (length head) (rows m n) mid (omega (arith, rows_within m n (omega arith))) ∙ k in
    rows_more m n mid (row_by_row m n out) (omega arith) (omega arith) (omega (arith, header_within m.frame.width m.frame.height)) below
    ∙ ap (λ j. put (length head) (rows m j) mid) (add-one n)

pub rows_so_far : RowsSoFar
rows_so_far m n out s l h = row_by_row_lem m n out s l h ∙ after_header m n out

pub rows_read_back : RowsReadBack
rows_read_back m out s l = reads_back m (drop (0 + length (sheet_bytes m)) out) _ s (rows_so_far m m.frame.height out s l (omega arith))
