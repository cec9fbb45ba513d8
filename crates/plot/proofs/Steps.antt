-- One request after another.
use Rattle.std.proofs.Common.{◌≡◌, ℕ, ◌+◌, ◌<◌, ◌≤◌, true, List, [], ◌∷◌, ◌++◌, map, length, get_or, sym, refl, ap, ◌∙◌, subst}
use Rattle.drawing.specs.Slots.{SameSlots}
use Rattle.drawing.specs.declared.reading.Slots.{Slots as Lent}
use Rattle.film.specs.Film.{Meaning}
use Rattle.film.specs.Made.{window_on}
use Rattle.film.specs.declared.window.Window.{Window}
use Rattle.history.proofs.Running.{Running, running_all, running_more, running_none}
use Rattle.history.specs.Calls.{Tables, clear, slots_of}
use Rattle.history.specs.History.{Served}
use Rattle.history.specs.Tiles.{Exposed}
use Rattle.history.specs.Verdicts.{entire}
use Rattle.plot.specs.Requests.{asked, seen_answer, tables_in}
use Rattle.plot.specs.declared.requests.Answer.{Answer}
use Rattle.plot.specs.declared.requests.Request.{Request}
use Rattle.records.specs.Records.{seen_aperture, seen_object, seen_piece}
use Rattle.std.proofs.lemmas.List.{get_or-map, length-map, map-append}

-- the first i of the requests were served
abbrev pub Serving : Meaning → Tables → List Request → ℕ → List Answer → Tables → Meaning → Type 0
Serving before t rs i answers now mid = Running before t (map (asked (slots_of t)) rs) i (map seen_answer answers) now mid

pub serving_none : (before : Meaning) (t : Tables) (rs : List Request) (answers : List Answer) → answers ≡ [] → Serving before t rs 0 answers t before
serving_none before t rs answers e = subst (λ xs. Serving before t rs 0 xs t before) (sym e) (running_none before t (map (asked (slots_of t)) rs))

-- as many slots
pub same_slots : (old new : Lent) → SameSlots old new → slots_of (tables_in new) ≡ slots_of (tables_in old)
same_slots old new s =
    λ i. record {
      apertures = (length-map new.apertures.now seen_aperture ∙ s.apertures.size ∙ sym (length-map old.apertures.now seen_aperture)) i;
      objects = (length-map new.objects.now seen_object ∙ s.objects.size ∙ sym (length-map old.objects.now seen_object)) i;
      pieces = (length-map new.pieces.now seen_piece ∙ s.pieces.size ∙ sym (length-map old.pieces.now seen_piece)) i;
    }

pub slots_stay : (s : Lent) → SameSlots s s
slots_stay s = record { apertures = record { lent = refl; size = refl }; objects = record { lent = refl; size = refl }; pieces = record { lent = refl; size = refl } }

pub slots_after : (a b c : Lent) → SameSlots a b → SameSlots b c → SameSlots a c
slots_after a b c p q =
    record {
      apertures = record { lent = q.apertures.lent ∙ p.apertures.lent; size = q.apertures.size ∙ p.apertures.size };
      objects = record { lent = q.objects.lent ∙ p.objects.lent; size = q.objects.size ∙ p.objects.size };
      pieces = record { lent = q.pieces.lent ∙ p.pieces.lent; size = q.pieces.size ∙ p.pieces.size };
    }

module _ (before : Meaning) (t : Tables) (rs : List Request) where
  pub serving_more : {mid after : Meaning} {now next : Tables} (i : ℕ) (answers more : List Answer) (d : Request) (a : Answer)
      → Serving before t rs i answers now mid → i < length rs → slots_of now ≡ slots_of t → Served mid now (asked (slots_of now) (get_or rs i d)) (seen_answer a) next after → more ≡ answers ++ (a ∷ [])
      → Serving before t rs (i + 1) more next after
  serving_more {mid} {after} {now} {next} i answers more d a h lt slots s grown =
      let qs = map (asked (slots_of t)) rs in
      let here : i < length qs = subst (λ n. i < n) (sym (length-map rs (asked (slots_of t)))) lt in
      let is : asked (slots_of now) (get_or rs i d) ≡ get_or qs i clear = ap (λ z. asked z (get_or rs i d)) slots ∙ sym (get_or-map (asked (slots_of t)) rs i d clear lt) in
      let served : Served mid now (get_or qs i clear) (seen_answer a) next after = subst (λ q. Served mid now q (seen_answer a) next after) is s in
      let said : map seen_answer answers ++ (seen_answer a ∷ []) ≡ map seen_answer more = sym (map-append seen_answer answers (a ∷ [])) ∙ ap (map seen_answer) (sym grown) in
      subst (λ xs. Running before t qs (i + 1) xs next after) said (running_more h here served)

  pub serving_all : {after : Meaning} {now : Tables} (i : ℕ) (answers : List Answer) (v : Window) → v ≡ entire before.frame → window_on before.frame v ≡ true
      → Serving before t rs i answers now after → length rs ≤ i → Exposed before t (map (asked (slots_of t)) rs) (map seen_answer answers) now after
  serving_all i answers v is fits h done =
      running_all (subst (λ z. window_on before.frame z ≡ true) is fits) h (subst (λ n. n ≤ i) (sym (length-map rs (asked (slots_of t)))) done)
