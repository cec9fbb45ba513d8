-- A film with one row written.
use Rattle.std.proofs.Common.{◌≡◌, ℕ, ◌*◌, ◌<◌, ◌≤◌, Bool, true, false, cond, ◌&&◌, ltb, leb, List, [], ◌++◌, get_or, drop, Ok, sym, refl, ap, ◌∙◌, ⊎_elim, arith}
use Rattle.std.proofs.lemmas.Bool.{cases_eq, and_from, and_parts, leb-true, le-leb}
use Rattle.std.proofs.lemmas.Bool.Decides.{nat_tests}
use Rattle.film.specs.Film.{Beside, SpanWritten, in_span}
use Rattle.film.specs.declared.numbers.Numbers.{Numbers}
use Rattle.runs.specs.declared.run.Run.{Run}
use Rattle.runs.specs.Rows.{row_ok, in_row}
use Rattle.runs.specs.Slots.{row_slots, runs_of, row_sound, run_meaning, spread, run_beside}
use Rattle.runs.specs.Changed.{RowChanged}
use Rattle.runs.proofs.Places.{row_room}

-- every row stays in order
pub still_sound : (w h row a b : ℕ) (dark : Bool) (counts counts' : List ℕ) (slots slots' : List Run)
    → ((r : ℕ) → r < h → row_sound counts slots w r ≡ true)
    → RowChanged w counts slots row a b dark counts' slots'
    → (r : ℕ) → r < h → row_sound counts' slots' w r ≡ true
still_sound w h row a b dark counts counts' slots slots' s q r l = ⊎_elim
    (λ (e : r ≡ row). rw e (and_from (leb (get_or counts' row 0) (row_slots w)) _ (le-leb _ _ q.bound) q.written.ordered))
    (λ (e : r ≡ row → ⊥).
    let p = and_parts (leb (get_or counts r 0) (row_slots w)) _ (s r l) in
    let k = leb-true _ _ p.0 in
    and_from (leb (get_or counts' r 0) (row_slots w)) _
    (ap (λ n. leb n (row_slots w)) (q.counted r e) ∙ p.0)
    (ap (λ xs. row_ok 0 w xs) (q.others r e k) ∙ p.1))
    (cases_eq r row)

-- the span is written
pub span_written : (n : Numbers) (row a b : ℕ) (dark : Bool) (counts counts' : List ℕ) (slots slots' : List Run)
    → row < n.height → a ≤ b → b ≤ n.width
    → ((r : ℕ) → r < n.height → row_sound counts slots n.width r ≡ true)
    → RowChanged n.width counts slots row a b dark counts' slots'
    → SpanWritten (run_meaning counts slots n) row a b dark (Ok tt) (run_meaning counts' slots' n)
span_written n row a b dark counts counts' slots slots' l h k s q =
    let u : (ltb row n.height && leb a b && leb b n.width) ≡ true = grind (arith, nat_tests) in
    record {
      answer = rw u;
      frame = refl;
      pixels = λ c r kc kr. ⊎_elim
          (λ (e : r ≡ row).
          let x : in_row (runs_of counts' slots' n.width row) c ≡ cond (leb a c && ltb c b) dark (in_row (runs_of counts slots n.width row) c) = q.written.columns c in
          let v : (ltb row n.height && leb a b && leb b n.width && in_span row a b c row) ≡ (leb a c && ltb c b) = grind (arith, nat_tests) in
          rw e (x ∙ ap (λ t. cond t dark (in_row (runs_of counts slots n.width row) c)) (sym v)))
          (λ (e : r ≡ row → ⊥).
          let p = and_parts (leb (get_or counts r 0) (row_slots n.width)) _ (s r kr) in
          let o = q.others r e (leb-true _ _ p.0) in
          let v : (ltb row n.height && leb a b && leb b n.width && in_span row a b c r) ≡ false = grind (arith, nat_tests) in
          ap (λ xs. in_row xs c) o ∙ ap (λ t. cond t dark (in_row (runs_of counts slots n.width r) c)) (sym v))
          (cases_eq r row);
    }

pub beside_kept : (n : Numbers) (row a b : ℕ) (dark : Bool) (counts counts' : List ℕ) (slots slots' : List Run) → row < n.height
    → RowChanged n.width counts slots row a b dark counts' slots' → run_beside counts' slots' n ≡ run_beside counts slots n
beside_kept n row a b dark counts counts' slots slots' l q =
    let B : List ℕ → List Run → Beside = λ cs ss. record { memory = cs ++ spread ss; pixels = [] } in
    let r = row_room row n.height (row_slots n.width) l in
    ap (λ cs. B cs (drop (n.height * row_slots n.width) slots')) (q.later_counts n.height l)
    ∙ ap (B (drop n.height counts)) (q.later_slots (n.height * row_slots n.width) r)
