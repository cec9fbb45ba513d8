-- A sheet of one row ends with a row of a film of its width.
use Rattle.std.proofs.Common.{◌≡◌, ℕ, ◌+◌, ◌<◌, ◌≤◌, Bool, true, false, cond, leb, Ok, Err, Result, refl, ap, ◌∙◌, ⊎_elim, arith}
use Rattle.std.proofs.lemmas.Bool.{both_ways, cases_Bool, leb-true}
use Rattle.std.proofs.lemmas.Bool.Decides.{nat_tests}
use Rattle.film.specs.Faults.{Told, call}
use Rattle.film.specs.Film.{Meaning}
use Rattle.sheet.specs.Sheet.{Sheet, sheet_length, sheet_sized, open_answer, row_taken, row_sheet}

-- what a sheet that was opened says of the output
open_ok : (a b : Bool) (s t : Sheet) → ◌≡◌ {A = Result Sheet Told} (Ok s) (cond a (cond b (Ok t) (Err (call 5))) (Err (call 1))) → (b ≡ true) × (s ≡ t)
open_ok true true s t e = (refl, cc)
open_ok true false s t e = let z : ◌≡◌ {A = ℕ} 0 1 = cc in absurd (omega arith)
open_ok false b s t e = let z : ◌≡◌ {A = ℕ} 0 1 = cc in absurd (omega arith)

pub record Size (w h : ℕ) (s : Sheet) : Type 0 where
  pub width : s.width ≡ w
  pub height : s.height ≡ h

pub open_size : (w h room : ℕ) (s : Sheet) → ◌≡◌ {A = Result Sheet Told} (Ok s) (open_answer w h room) → (sheet_length w h ≤ room) × Size w h s
open_size w h room s e =
    let p = open_ok (sheet_sized w h) (leb (sheet_length w h) room) s (record { width = w; height = h; written = 0 }) e in
    (leb-true _ _ p.0, record { width = ap (λ t. t.width) p.1; height = ap (λ t. t.height) p.1 })

kept : (b : Bool) (w h : ℕ) (s t : Sheet) → t ≡ cond b (record { width = s.width; height = s.height; written = s.written + 1 }) s → Size w h s → Size w h t
kept true w h s t e z = record { width = ap (λ k. k.width) e ∙ z.width; height = ap (λ k. k.height) e ∙ z.height }
kept false w h s t e z = record { width = ap (λ k. k.width) e ∙ z.width; height = ap (λ k. k.height) e ∙ z.height }

pub row_size : {w h : ℕ} {s t : Sheet} (m : Meaning) (row room : ℕ) → t ≡ row_sheet s m row room → Size w h s → Size w h t
row_size {w = w} {h = h} {s = s} {t = t} m row room e z = kept (row_taken s m row room) w h s t e z

pub row_ends : (w : ℕ) (s t : Sheet) (m : Meaning) (room : ℕ) → t ≡ row_sheet s m 0 room → Size w 1 s → m.frame.width ≡ w → 1 ≤ m.frame.height
    → sheet_length w 1 ≤ room → t.written < t.height → ⊥
row_ends w s t m room e z q tall l lt =
    let more : Sheet = record { width = s.width; height = s.height; written = s.written + 1 } in
    let u = row_size m 0 room e z in
    ⊎_elim
    (λ (on : row_taken s m 0 room ≡ true).
    let d = ap (λ k. k.written) (e ∙ ap (λ b. cond b more s) on) in
    omega (arith, d, u.height))
    (λ (off : row_taken s m 0 room ≡ false).
    let d = ap (λ k. k.written) (e ∙ ap (λ b. cond b more s) off) in
    let waits : s.written < 1 = omega (arith, d, u.height) in
    let taken : row_taken s m 0 room ≡ true = rw z.width (rw z.height (grind (arith, nat_tests))) in
    both_ways _ off taken)
    (cases_Bool (row_taken s m 0 room))
