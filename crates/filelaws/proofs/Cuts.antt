-- A file that is cut before the end of its M02 is refused.
use Rattle.std.proofs.Common.{◌≡◌, ℕ, ◌+◌, ◌-◌, ◌≤◌, true, List, ◌++◌, length, take, drop, Ok, sym, ap, ◌∙◌, subst, arith}
use Rattle.commands.specs.Files.{ReadSeen, command_at, is_end}
use Rattle.drawing.specs.Books.{Rooms, Standing, begin, stepped}
use Rattle.filelaws.proofs.Longer.{command_same}
use Rattle.filelaws.proofs.Runs.{Runs, accepted_runs, last, more}
use Rattle.filelaws.specs.Laws.{CutIsRefused, orders_of}
use Rattle.forms.specs.Orders.{Order}
use Rattle.std.proofs.ByRecursion.{All-drop}
use Rattle.std.proofs.lemmas.List.{drop-drop, length-take, take-append-drop}
use Rattle.std.proofs.lemmas.Bool.{both_ways}
use Rattle.words.proofs.Spells.{closed_by_gap}
use Rattle.words.specs.Spelling.{Gap}
use Rattle.words.specs.Words.{is_gap}

-- a gap from i on is a gap from n on
gap_from : (xs : List ℕ) (i n : ℕ) → i ≤ n → Gap (drop i xs) → Gap (drop n xs)
gap_from xs i n h g =
    let m : i + (n - i) ≡ n = omega arith in
    subst Gap (drop-drop (n - i) i xs ∙ ap (λ k. drop k xs) m) (All-drop (λ b. is_gap b ≡ true) (n - i) (drop i xs) g)

module _ (room : Rooms) (ys zs : List ℕ) where
  -- the next command is the same in both files
  same_read : (k i : ℕ) (st : Standing) (r s : ReadSeen) → command_at k ys i st.state.format ≡ Ok r → command_at k (ys ++ zs) i st.state.format ≡ Ok s → s ≡ r
  same_read k i st r s p q = let e = (command_same ys zs k i st.state.format r p).0 in cc

  -- readings of a file and of a longer one that are both accepted: what the longer one has more is a gap
  cut : {i k : ℕ} {st end : Standing} {os : List Order} → Runs room ys i k st os end → {es : List Order} {fin : Standing} → Runs room (ys ++ zs) i k st es fin → Gap (drop (length ys) (ys ++ zs))
  cut (last {i} {k} {st} r p q b c) (last s v w e d) =
      gap_from (ys ++ zs) s.next (length ys) (omega (arith, (command_same ys zs k i st.state.format r p).1, ap (λ r. r.next) (same_read k i st r s p v))) (closed_by_gap (k + 1) (ys ++ zs) s.next d)
  cut (last {i} {k} {st} r p q b c) (more s v w e run) = absurd (both_ways (is_end s.order) e (ap (λ r. is_end r.order) (same_read k i st r s p v) ∙ b))
  cut (more {i} {k} {st} r p q b run) (last s v w e d) = absurd (both_ways (is_end r.order) b (ap (λ r. is_end r.order) (sym (same_read k i st r s p v)) ∙ e))
  cut (more {i} {k} {st} {next} r p q b run) (more {next = then} {end = fin} {os = es} s v w e rest) =
      let x = same_read k i st r s p v in
      let e = sym w ∙ ap (λ r. stepped room st r.order) x ∙ q in
      let y : then ≡ next = cc in
      let there = subst (λ (s : ReadSeen). Runs room (ys ++ zs) s.next (k + 1) then es fin) x rest in
      cut run (subst (λ (t : Standing). Runs room (ys ++ zs) r.next (k + 1) t es fin) y there)

pub cut_is_refused : CutIsRefused
cut_is_refused room xs n a b =
    let whole = accepted_runs room xs a in
    let part = accepted_runs room (take n xs) b in
    let joined = take-append-drop n xs in
    let g = cut room (take n xs) (drop n xs) part.1 (subst (λ (t : List ℕ). Runs room t 0 0 begin (orders_of xs) whole.0) (sym joined) whole.1) in
    gap_from xs (length (take n xs)) n (omega (arith, length-take n xs)) (subst (λ (t : List ℕ). Gap (drop (length (take n xs)) t)) joined g)
