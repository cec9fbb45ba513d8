-- One row of a film after another.
use Rattle.std.proofs.Common.{◌≡◌, ℕ, zero, suc, ◌+◌, ◌*◌, ◌<◌, ◌≤◌, Bool, true, false, cond, ◌&&◌, leb, List, [], ◌++◌, length, take, drop, Ok, Err, Result, sym, refl, ap, ◌∙◌, add-mul, zero-add, add-one, arith}
use Rattle.std.proofs.lemmas.Nat.{mul-le}
use Rattle.std.proofs.lemmas.List.{length-append, take-append-drop}
use Rattle.std.proofs.lemmas.Bool.{leb-true, and_from}
use Rattle.std.proofs.lemmas.Bool.Decides.{nat_tests}
use Rattle.film.specs.Faults.{Told, call}
use Rattle.film.specs.Frame.{Frame, in_limits}
use Rattle.film.specs.Film.{Meaning}
use Rattle.film.specs.Packed.{bytes_for, row_bytes}
use Rattle.film.proofs.Limiting.{limits_of, narrow, short}
use Rattle.film.proofs.Packing.{length_row_bytes}
use Rattle.sheet.specs.Sheet.{Sheet, put, header, sheet_length, sheet_sized, open_answer, opened, row_place, row_taken, row_output, row_sheet}
use Rattle.sheet.specs.Whole.{rows, sheet_bytes, sheet_at, film_answer, film_output}
use Rattle.sheet.proofs.Putting.{put_put}
use Rattle.sheet.proofs.Rows.{header_within}

pub length_rows : (m : Meaning) (n : ℕ) → length (rows m n) ≡ n * bytes_for m.frame.width
length_rows m zero = omega arith
length_rows m (suc n) =
    length-append (rows m n) (row_bytes m n)
    ∙ omega (arith, length_rows m n, length_row_bytes m n, add-mul n 1 (bytes_for m.frame.width))

-- the rows written so far end within the sheet
pub rows_within : (m : Meaning) (n : ℕ) → n ≤ m.frame.height
    → length (header m.frame.width m.frame.height) + length (rows m n) ≤ sheet_length m.frame.width m.frame.height
unfolding sheet_length
rows_within m n h =
    let b = bytes_for m.frame.width in
    omega (arith, length_rows m n, mul-le n b m.frame.height b h (omega arith))

-- a film's row is taken where the sheet has the film's size and waits for that row
pub takes : (m : Meaning) (n room : ℕ) → n < m.frame.height → sheet_length m.frame.width m.frame.height ≤ room
    → row_taken (sheet_at m n) m n room ≡ true
takes m n room h l = grind (arith, nat_tests)

pub sheet_more : (m : Meaning) (n room : ℕ) → n < m.frame.height → sheet_length m.frame.width m.frame.height ≤ room
    → row_sheet (sheet_at m n) m n room ≡ sheet_at m (n + 1)
sheet_more m n room h l = ap (λ b. cond b (sheet_at m (n + 1)) (sheet_at m n)) (takes m n room h l)

-- rows 0 to n − 1 stand after the header; then so does row n
pub rows_more : (m : Meaning) (n : ℕ) (out xs : List ℕ) → n < m.frame.height → sheet_length m.frame.width m.frame.height ≤ length xs
    → length (header m.frame.width m.frame.height) ≤ length out
    → xs ≡ put (length (header m.frame.width m.frame.height)) (rows m n) out
    → row_output (sheet_at m n) m n xs ≡ put (length (header m.frame.width m.frame.height)) (rows m (n + 1)) out
rows_more m n out xs h l k e =
    let w = m.frame.width in
    let head = length (header m.frame.width m.frame.height) in
    ap (λ b. cond b (put (row_place (sheet_at m n)) (row_bytes m n) xs) xs) (takes m n (length xs) h l)
    ∙ ap (λ j. put (head + j) (row_bytes m n) xs) (sym (length_rows m n))
    ∙ ap (λ ys. put (head + length (rows m n)) (row_bytes m n) ys) e
    ∙ put_put head (rows m n) (row_bytes m n) out k
    ∙ ap (λ j. put head (rows m j) out) (sym (add-one n))

-- nothing put anywhere leaves an output as it was
pub put_none : (at : ℕ) (out : List ℕ) → out ≡ put at [] out
put_none at out = sym (ap (λ n. take at out ++ drop n out) (omega arith) ∙ take-append-drop at out)

-- every film has a sheet's size
pub film_sized : (f : Frame) → in_limits f ≡ true → sheet_sized f.width f.height ≡ true
film_sized f e =
    let l = limits_of f e in
    let a = l.wide in
    let b = narrow f l in
    let d = l.tall in
    let k = short f l in
    grind (arith, nat_tests)

-- a sheet of a film's size is open, there is room for it, and the output has its header
pub record Opening (m : Meaning) (s : Sheet) (out mid : List ℕ) : Type 0 where
  pub sized : sheet_sized m.frame.width m.frame.height ≡ true
  pub room : sheet_length m.frame.width m.frame.height ≤ length out
  pub sheet : s ≡ sheet_at m 0
  pub output : mid ≡ put 0 (header m.frame.width m.frame.height) out

-- opening a sheet of a film's size is only a matter of room
size_of_film : (m : Meaning) (f : Frame) (w h room : ℕ) → f ≡ m.frame → w ≡ f.width → h ≡ f.height → sheet_sized m.frame.width m.frame.height ≡ true
    → open_answer w h room ≡ cond (leb (sheet_length m.frame.width m.frame.height) room) (Ok (sheet_at m 0)) (Err (call 5))
size_of_film m f w h room q ew eh s =
    ap (λ k. open_answer k h room) (ew ∙ ap (λ k. k.width) q)
    ∙ ap (λ k. open_answer m.frame.width k room) (eh ∙ ap (λ k. k.height) q)
    ∙ ap (λ b. cond b (cond (leb (sheet_length m.frame.width m.frame.height) room) (Ok (sheet_at m 0)) (Err (call 5))) (Err (call 1))) s

opened_by : (b : Bool) (s t : Sheet) → ◌≡◌ {A = Result Sheet Told} (Ok s) (cond b (Ok t) (Err (call 5))) → (b ≡ true) × (s ≡ t)
opened_by true s t e = (refl, cc)
opened_by false s t e = absurd (cc)

refused_by : (b : Bool) (t : Told) (s : Sheet) → ◌≡◌ {A = Result Sheet Told} (Err t) (cond b (Ok s) (Err (call 5))) → (b ≡ false) × (t ≡ call 5)
refused_by true t s e = absurd (cc)
refused_by false t s e = (refl, cc)

pub opening : (m : Meaning) (f : Frame) (w h : ℕ) (s : Sheet) (out mid : List ℕ) → f ≡ m.frame → in_limits f ≡ true → w ≡ f.width → h ≡ f.height
    → ◌≡◌ {A = Result Sheet Told} (Ok s) (open_answer w h (length out)) → mid ≡ opened w h out → Opening m s out mid
opening m f w h s out mid q n ew eh a o =
    let sized = ap (λ k. sheet_sized k.width k.height) (sym q) ∙ film_sized f n in
    let p = opened_by (leb (sheet_length m.frame.width m.frame.height) (length out)) s (sheet_at m 0) (a ∙ size_of_film m f w h (length out) q ew eh sized) in
    record {
      sized = sized;
      room = leb-true _ _ p.0;
      sheet = p.1;
      output = o ∙ ap (λ k. opened k h out) (ew ∙ ap (λ k. k.width) q) ∙ ap (λ k. opened m.frame.width k out) (eh ∙ ap (λ k. k.height) q)
          ∙ ap (λ v. cond v (put 0 (header m.frame.width m.frame.height) out) out) (and_from _ _ sized p.0);
    }

-- a film whose sheet was not opened is refused, and the output is as it was
pub record Unopened (m : Meaning) (t : Told) (out mid : List ℕ) : Type 0 where
  pub answer : Err t ≡ film_answer m (length out)
  pub output : mid ≡ film_output m out

pub unopened : (m : Meaning) (f : Frame) (w h : ℕ) (t : Told) (out mid : List ℕ) → f ≡ m.frame → in_limits f ≡ true → w ≡ f.width → h ≡ f.height
    → ◌≡◌ {A = Result Sheet Told} (Err t) (open_answer w h (length out)) → mid ≡ opened w h out → Unopened m t out mid
unopened m f w h t out mid q n ew eh a o =
    let sized = ap (λ k. sheet_sized k.width k.height) (sym q) ∙ film_sized f n in
    let long = leb (sheet_length m.frame.width m.frame.height) (length out) in
    let p = refused_by long t (sheet_at m 0) (a ∙ size_of_film m f w h (length out) q ew eh sized) in
    record {
      answer = ap Err p.1 ∙ sym (ap (λ b. cond b (Ok (sheet_length m.frame.width m.frame.height)) (Err (call 5))) p.0);
      output = o ∙ ap (λ k. opened k h out) (ew ∙ ap (λ k. k.width) q) ∙ ap (λ k. opened m.frame.width k out) (eh ∙ ap (λ k. k.height) q)
          ∙ ap (λ v. cond (sheet_sized m.frame.width m.frame.height && v) (put 0 (header m.frame.width m.frame.height) out) out) p.0
          ∙ ap (λ v. cond (v && false) (put 0 (header m.frame.width m.frame.height) out) out) sized
          ∙ sym (ap (λ b. cond b (put 0 (sheet_bytes m) out) out) p.0);
    }

-- what holds between the rows
abbrev pub Between : Meaning → Sheet → ℕ → List ℕ → List ℕ → Type 0
Between m s n mid xs = (s ≡ sheet_at m n) × (xs ≡ put (length (header m.frame.width m.frame.height)) (rows m n) mid)

pub row_again : (m : Meaning) (n : ℕ) (s t u : Sheet) (out mid xs ys : List ℕ) → Opening m u out mid → length mid ≡ length out → length xs ≡ length mid
    → n < m.frame.height → Between m s n mid xs → t ≡ row_sheet s m n (length xs) → ys ≡ row_output s m n xs → Between m t (n + 1) mid ys
row_again m n s t u out mid xs ys o k l h b a e =
    let room : sheet_length m.frame.width m.frame.height ≤ length xs = omega (arith, o.room) in (
      a ∙ ap (λ v. row_sheet v m n (length xs)) b.0 ∙ sheet_more m n (length xs) h room,
      e ∙ ap (λ v. row_output v m n xs) b.0
          ∙ rows_more m n mid xs h room (omega (arith, o.room, header_within m.frame.width m.frame.height)) b.1,
    )

-- the header, and rows after it, are put at once
pub after_header : (m : Meaning) (n : ℕ) (out : List ℕ)
    → put (length (header m.frame.width m.frame.height)) (rows m n) (put 0 (header m.frame.width m.frame.height) out)
    ≡ put 0 (header m.frame.width m.frame.height ++ rows m n) out
after_header m n out =
    let head = header m.frame.width m.frame.height in
    ap (λ k. put k (rows m n) (put 0 head out)) (sym (zero-add (length head))) ∙ put_put 0 head (rows m n) out (omega arith)

pub all_written : (m : Meaning) (n : ℕ) (s u : Sheet) (out mid xs : List ℕ) → Opening m u out mid → n ≡ m.frame.height → Between m s n mid xs
    → xs ≡ put 0 (sheet_bytes m) out
all_written m n s u out mid xs o e b =
    let head = length (header m.frame.width m.frame.height) in
    b.1 ∙ ap (λ k. put head (rows m k) mid) e ∙ ap (λ ys. put head (rows m m.frame.height) ys) o.output ∙ after_header m m.frame.height out
