-- How an accepted file is read: command by command, up to M02.
use Rattle.std.proofs.Common.{◌≡◌, ℕ, zero, suc, ◌+◌, Bool, true, false, cond, leb, List, [], ◌∷◌, length, None, Ok, Err, Option, Result, refl, subst}
use Rattle.commands.specs.Files.{ReadSeen, command_at, format_after, is_end}
use Rattle.drawing.specs.Books.{Rooms, Standing, begin, stepped}
use Rattle.drawing.specs.Reading.{Outcome, after_read, after_step, ended, read_file, read_on, refused}
use Rattle.filelaws.proofs.Formats.{stepped_format}
use Rattle.filelaws.specs.Laws.{Accepted, orders_by, orders_from, orders_of}
use Rattle.forms.specs.Orders.{Order}
use Rattle.forms.specs.declared.Format.{Format}
use Rattle.words.specs.Words.{Told, closing, fault}

-- The file xs is read on from i, k commands having been taken, by the commands os to the end, and stands at `end` then.
pub data Runs (room : Rooms) (xs : List ℕ) : ℕ → ℕ → Standing → List Order → Standing → Type 0 where
  last : {i k : ℕ} {st next : Standing} (r : ReadSeen) → command_at k xs i st.state.format ≡ Ok r → stepped room st r.order ≡ Ok next
      → is_end r.order ≡ true → closing (k + 1) xs r.next ≡ Ok tt → Runs room xs i k st (r.order ∷ []) next
  more : {i k : ℕ} {st next end : Standing} {os : List Order} (r : ReadSeen) → command_at k xs i st.state.format ≡ Ok r → stepped room st r.order ≡ Ok next
      → is_end r.order ≡ false → Runs room xs r.next (k + 1) next os end → Runs room xs i k st (r.order ∷ os) end

-- Such a reading comes to the records that the outcome o has.
abbrev pub Come : Rooms → List ℕ → ℕ → ℕ → Standing → List Order → Outcome → Type 0
Come room xs i k st os o = (end : Standing) × Runs room xs i k st os end × (end.books ≡ o.books)

module _ (room : Rooms) (xs : List ℕ) (i k : ℕ) (st : Standing) (read : ℕ → Standing → Outcome) (orders : ℕ → Option Format → List Order)
    (rest : (j : ℕ) (next : Standing) → (read j next).refusal ≡ None → Come room xs j (k + 1) next (orders j next.state.format) (read j next)) where
  closes : (r : ReadSeen) (next : Standing) → command_at k xs i st.state.format ≡ Ok r → stepped room st r.order ≡ Ok next → is_end r.order ≡ true
      → (c : Result (Unit {0}) Told) → closing (k + 1) xs r.next ≡ c → (ended next c).refusal ≡ None
      → Come room xs i k st (r.order ∷ []) (ended next c)
  closes r next p q b (Ok u) c e = (next, last r p q b c, refl)
  closes r next p q b (Err t) c e = absurd (cc)

  by_end : (r : ReadSeen) (next : Standing) → command_at k xs i st.state.format ≡ Ok r → stepped room st r.order ≡ Ok next
      → (b : Bool) → is_end r.order ≡ b → (cond b (ended next (closing (k + 1) xs r.next)) (read r.next next)).refusal ≡ None
      → Come room xs i k st (r.order ∷ cond b [] (orders r.next (format_after r.order st.state.format))) (cond b (ended next (closing (k + 1) xs r.next)) (read r.next next))
  by_end r next p q true b e = closes r next p q b (closing (k + 1) xs r.next) refl e
  by_end r next p q false b e =
      let c = rest r.next next e in
      let run = subst (λ (f : Option Format). Runs room xs r.next (k + 1) next (orders r.next f) c.0) (stepped_format room st r.order next q) c.1 in
      (c.0, more r p q b run, c.2)

  by_step : (r : ReadSeen) → command_at k xs i st.state.format ≡ Ok r → (x : Result Standing ℕ) → stepped room st r.order ≡ x
      → (after_step k xs r read st x).refusal ≡ None
      → Come room xs i k st (r.order ∷ cond (is_end r.order) [] (orders r.next (format_after r.order st.state.format))) (after_step k xs r read st x)
  by_step r p (Err n) q e = absurd (cc)
  by_step r p (Ok next) q e = by_end r next p q (is_end r.order) refl e

  by_read : (c : Result ReadSeen Told) → command_at k xs i st.state.format ≡ c → (after_read room k xs read st c).refusal ≡ None
      → Come room xs i k st (orders_by (λ r. orders r.next (format_after r.order st.state.format)) c) (after_read room k xs read st c)
  by_read (Err t) p e = absurd (cc)
  by_read (Ok r) p e = by_step r p (stepped room st r.order) refl e

reading_runs : (fuel : ℕ) (room : Rooms) (xs : List ℕ) (k i : ℕ) (st : Standing) → (read_on fuel room xs i k st).refusal ≡ None
    → Come room xs i k st (orders_from fuel k xs i st.state.format) (read_on fuel room xs i k st)
reading_runs zero room xs k i st e = absurd (cc)
reading_runs (suc fuel) room xs k i st e =
    by_read room xs i k st (λ j next. read_on fuel room xs j (k + 1) next) (orders_from fuel (k + 1) xs)
    (reading_runs fuel room xs (k + 1)) (command_at k xs i st.state.format) refl e

by_length : (room : Rooms) (xs : List ℕ) (b : Bool) → (cond b (read_on (suc (length xs)) room xs 0 0 begin) (refused (fault 7 0 0) begin)).refusal ≡ None
    → Come room xs 0 0 begin (orders_of xs) (cond b (read_on (suc (length xs)) room xs 0 0 begin) (refused (fault 7 0 0) begin))
by_length room xs true e = reading_runs (suc (length xs)) room xs 0 0 begin e
by_length room xs false e = absurd (cc)

pub accepted_runs : (room : Rooms) (xs : List ℕ) → Accepted room xs → Come room xs 0 0 begin (orders_of xs) (read_file room xs)
unfolding read_file
accepted_runs room xs e = by_length room xs (leb (length xs) 1048576) e
