-- A list of calls, one after another, on a film and the caller's tables.
use Rattle.std.proofs.Common.{◌≡◌, ℕ, ◌+◌, ◌<◌, ◌≤◌, true, List, [], ◌∷◌, ◌++◌, length, get_or, take, Result, sym, refl, ap, ◌∙◌, subst}
use Rattle.film.specs.Film.{Meaning, read_of}
use Rattle.film.specs.Made.{window_on}
use Rattle.film.specs.declared.window.Window.{Window}
use Rattle.history.proofs.Calling.{answered_call, overlaid_call, tables_call}
use Rattle.history.proofs.Joining.{read_one}
use Rattle.history.proofs.Overlaying.{Overlaid, overlaid_none, overlaid_shows, shows_overlaid}
use Rattle.history.proofs.Tiling.{tiles_as_whole_lem}
use Rattle.history.specs.Calls.{AllAnswered, Answers, Call, Said, Tables, blanked, clear, look, part, past, said_by, slots_of, tables_after, tables_past, whole}
use Rattle.history.specs.Coverings.{Shows, blanking, on}
use Rattle.history.specs.History.{History, Plotted, Served, said_of}
use Rattle.history.specs.Tiles.{Exposed}
use Rattle.history.specs.Verdicts.{entire}
use Rattle.std.proofs.lemmas.List.{take_all}
use Rattle.words.specs.Words.{Told}

pub served_whole : {before after : Meaning} {t t' : Tables} {xs : List ℕ} {r : Result (ℕ × ℕ) Told} {a : Said} → Plotted before t (entire before.frame) xs r t' after → a ≡ said_by r → Served before t (whole (slots_of t) xs) a t' after
served_whole p e = record { shown = p.shown; answered = e ∙ ap said_by p.answered; held = p.held }

pub served_part : {before after : Meaning} {t t' : Tables} {v : Window} {xs : List ℕ} {r : Result (ℕ × ℕ) Told} {a : Said} → Plotted before t v xs r t' after → a ≡ said_by r → Served before t (part (slots_of t) v xs) a t' after
served_part p e = record { shown = p.shown; answered = e ∙ ap said_by p.answered; held = p.held }

pub served_clear : {before after : Meaning} (t : Tables) → Shows before (blanking ∷ []) after → Served before t clear blanked t after
served_clear t s = record { shown = s; answered = refl; held = refl }

pub served_look : (m : Meaning) (t : Tables) (c r : ℕ) (a : Said) → a ≡ said_of (read_of m c r) → Served m t (look c r) a t m
served_look m t c r a e =
    record { shown = overlaid_shows (overlaid_none m); answered = subst (Answers m [] (look c r)) (sym e) (read_one m c r (on m.frame c r) refl); held = refl }

-- the first i of the calls were served
pub record Running (before : Meaning) (t : Tables) (qs : List Call) (i : ℕ) (answers : List Said) (now : Tables) (mid : Meaning) : Type 0 where
  pub overlaid : Overlaid before (past before.frame (take i qs)) mid
  pub answered : AllAnswered before [] (take i qs) answers
  pub held : now ≡ tables_past before.frame t (take i qs)

pub running_none : (before : Meaning) (t : Tables) (qs : List Call) → Running before t qs 0 [] t before
running_none before t qs = record { overlaid = overlaid_none before; answered = tt; held = refl }

pub running_more : {before mid after : Meaning} {t now next : Tables} {qs : List Call} {i : ℕ} {answers : List Said} {a : Said}
    → Running before t qs i answers now mid → i < length qs → Served mid now (get_or qs i clear) a next after
    → Running before t qs (i + 1) (answers ++ (a ∷ [])) next after
running_more {before} {mid} {after} {t} {now} {next} {qs} {i} {answers} {a} h lt s =
    record {
      overlaid = overlaid_call qs i lt h.overlaid (shows_overlaid s.shown);
      answered = answered_call qs answers i a lt h.overlaid h.answered s.answered;
      held = tables_call before.frame t now next qs i lt h.held (subst (λ f. next ≡ tables_after f now (get_or qs i clear)) h.overlaid.framed s.held);
    }

pub running_all : {before after : Meaning} {t now : Tables} {qs : List Call} {i : ℕ} {answers : List Said} → window_on before.frame (entire before.frame) ≡ true
    → Running before t qs i answers now after → length qs ≤ i → Exposed before t qs answers now after
running_all {before} {after} {t} {now} {qs} {i} {answers} fits h done =
    let all : take i qs ≡ qs = take_all i qs done in
    let hist : History before qs answers after =
    record {
      shown = overlaid_shows (subst (λ l. Overlaid before (past before.frame l) after) all h.overlaid);
      answered = subst (λ l. AllAnswered before [] l answers) all h.answered;
    } in
    record {
      last_covering = hist;
      tiles_as_whole = tiles_as_whole_lem before after fits qs answers hist;
      tables = h.held ∙ ap (tables_past before.frame t) all;
    }
