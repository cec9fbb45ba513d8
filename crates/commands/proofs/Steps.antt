use Rattle.std.proofs.Common.{◌≡◌, ℕ, suc, ◌+◌, ◌-◌, ◌<◌, ◌≤◌, false, List, length, Ok, Option, sym, ap, ◌∙◌, subst, arith}
use Rattle.std.proofs.lemmas.Bool.{cond-false}
use Rattle.forms.specs.declared.Format.{Format}
use Rattle.words.specs.Words.{onward}
use Rattle.words.specs.declared.Cursor.{Cursor}
use Rattle.commands.specs.Files.{ReadSeen, behind, command_at, count_commands, ended, format_after, is_end, run}

-- a turn of the loop: behind a command that is not the last, the file is read on
pub run_more : (n k : ℕ) (xs : List ℕ) (i : ℕ) (f : Option Format) (r : ReadSeen) → k < n → Ok r ≡ command_at k xs i f → is_end r.order ≡ false
    → run (suc (n - (k + 1))) (k + 1) xs r.next (format_after r.order f) ≡ run (suc (n - k)) k xs i f
run_more n k xs i f r h e z =
    let m : suc (n - (k + 1)) ≡ n - k = omega arith
    in ap (λ m. run m (k + 1) xs r.next (format_after r.order f)) m
    ∙ sym (cond-false (is_end r.order) (ended (k + 1) xs r.next) (run (n - k) (k + 1) xs r.next (format_after r.order f)) z)
    ∙ ap (λ t. onward t (behind (k + 1) xs f (run (n - k) (k + 1) xs))) e

-- the cursor c stands in the file xs, and reading on from it under the format f counts the file's commands
pub record Counting (xs : List ℕ) (c : Cursor) (f : Option Format) : Type 0 where
  pub file : c.file.now ≡ xs
  pub count : run (suc (length xs - c.taken)) c.taken xs c.at f ≡ count_commands xs
  pub taken : c.taken ≤ c.at
  pub within : c.at ≤ length xs

-- the same behind a command that is not the last
pub counting_on : (xs : List ℕ) (c d : Cursor) (f g : Option Format) (r : ReadSeen) → Counting xs c f → (c.taken < r.next → d ≡ record { file = c.file; at = r.next; taken = c.taken + 1 }) → g ≡ format_after r.order f
    → Ok r ≡ command_at c.taken c.file.now c.at f → (c.at < r.next) × (r.next ≤ length c.file.now) → false ≡ is_end r.order → Counting xs d g
counting_on xs c d f g r h p q e m z =
    let l : length c.file.now ≡ length xs = ap length h.file in
    let t : c.taken < r.next = omega arith in
    let b = p t in
    rw (b, q) (record {
      file = h.file;
      count = run_more (length xs) c.taken xs c.at f r (omega arith) (subst (λ ys. Ok r ≡ command_at c.taken ys c.at f) h.file e) (sym z) ∙ h.count;
      taken = omega arith;
      within = omega arith;
    })
