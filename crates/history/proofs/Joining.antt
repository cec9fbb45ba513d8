-- Histories one after another.
use Rattle.std.proofs.Common.{◌≡◌, ℕ, Bool, true, false, cond, List, [], ◌∷◌, ◌++◌, Ok, Err, sym, refl, ap, subst, inr, append-nil}
use Rattle.film.specs.Faults as faults
use Rattle.film.specs.Film.{Meaning}
use Rattle.history.proofs.Calling.{answers_join, earlier_answers, past_append}
use Rattle.history.proofs.Overlaying.{Overlaid, overlaid_none, overlaid_shows, overlaid_then, shows_overlaid}
use Rattle.history.specs.Calls.{AllAnswered, Answers, Call, Said, clear, lays, look, part, past, said_by, slots_of, whole}
use Rattle.history.specs.Coverings.{on}
use Rattle.history.specs.History.{EveryPast, History, said_of}
use Rattle.std.proofs.lemmas.Bool.{both_ways}

join : (l m n : Meaning) (qs rs : List Call) (xs ys : List Said) → History l qs xs m → History m rs ys n → History l (qs ++ rs) (xs ++ ys) n
join l m n qs rs xs ys h k =
    let p = shows_overlaid h.shown in
    let q = subst (λ f. Overlaid m (past f rs) n) p.framed (shows_overlaid k.shown) in
    let late : AllAnswered l (past l.frame qs) rs ys =
    subst (λ z. AllAnswered l z rs ys) (append-nil (past l.frame qs)) (earlier_answers [] rs ys p k.answered) in
    record {
      shown = overlaid_shows (subst (λ z. Overlaid l z n) (sym (past_append l.frame qs rs)) (overlaid_then p q));
      answered = answers_join l [] qs rs xs ys h.answered late;
    }

one : (m n : Meaning) (q : Call) (a : Said) → Overlaid m (lays m.frame q) n → Answers m [] q a → History m (q ∷ []) (a ∷ []) n
one m n q a p h = record { shown = overlaid_shows (subst (λ z. Overlaid m z n) (sym (append-nil (lays m.frame q))) p); answered = (h, tt) }

-- a reading of the film as it stands
pub read_one : (m : Meaning) (c r : ℕ) (t : Bool) → on m.frame c r ≡ t → Answers m [] (look c r) (said_of (cond t (Ok (m.pixel c r)) (Err (faults.call 4))))
read_one m c r true e = (λ here. (m.pixel c r, (refl, inr (tt, refl))), λ off. absurd (both_ways (on m.frame c r) off e))
read_one m c r false e = (λ here. absurd (both_ways (on m.frame c r) e here), λ off. refl)

pub every_past : EveryPast
every_past =
    record {
      none = λ m. record { shown = overlaid_shows (overlaid_none m); answered = tt };
      whole_plots = λ m n t t' xs a p. one m n (whole (slots_of t) xs) (said_by a) (shows_overlaid p.shown) (ap said_by p.answered);
      window_plots = λ m n t t' v xs a p. one m n (part (slots_of t) v xs) (said_by a) (shows_overlaid p.shown) (ap said_by p.answered);
      blankings = λ m n p. one m n clear _ (shows_overlaid p) refl;
      readings = λ m c r. one m m (look c r) _ (overlaid_none m) (read_one m c r (on m.frame c r) refl);
      joined = join;
    }
