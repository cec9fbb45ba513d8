-- From the records of a file to the plot of it.
use Rattle.std.proofs.Common.{◌≡◌, ℕ, ◌≤◌, Bool, true, false, cond, List, [], ◌++◌, map, length, take, drop, Some, None, Ok, Err, Option, Result, sym, refl, ap, ◌∙◌, subst, arith}
use Rattle.contour.specs.declared.pieces.Piece.{Piece}
use Rattle.drawing.specs.Answers.{answer, answer_by, counts, stored}
use Rattle.drawing.specs.Books.{Books, begin, rooms_for}
use Rattle.drawing.specs.Reading.{Outcome, read_file, refused}
use Rattle.drawing.specs.declared.fault.Drawing.{Drawing}
use Rattle.film.specs.Film.{Meaning}
use Rattle.film.specs.Frame.{Frame}
use Rattle.film.specs.Made.{window_on}
use Rattle.film.specs.declared.window.Window.{Window}
use Rattle.history.proofs.Overlaying.{laid_shows, overlaid_none, overlaid_shows}
use Rattle.history.specs.Calls.{Tables, slots_of}
use Rattle.history.specs.Coverings as cover
use Rattle.history.specs.Coverings.{Shows}
use Rattle.history.specs.History.{Plotted}
use Rattle.history.specs.Verdicts.{judged, lays_by, numbers, numbers_by, verdict}
use Rattle.laid.specs.Covered.{LaidOn}
use Rattle.laid.specs.Laid.{laid_objects}
use Rattle.plot.specs.Reads.{Recorded}
use Rattle.plot.specs.Requests.{tables_of}
use Rattle.records.specs.Records.{seen_aperture, seen_object, seen_piece}
use Rattle.records.specs.declared.kinds.Aperture.{Aperture}
use Rattle.records.specs.declared.kinds.Object.{Object}
use Rattle.std.proofs.lemmas.List.{length-append, length-map, take_at, take-map}
use Rattle.words.specs.Words.{Told, fault}

-- what a file comes to, by the slots as the program counts them
module _ (aps : List Aperture) (os : List Object) (ps : List Piece) (xs : List ℕ) where
  judged_is : judged (slots_of (tables_of aps os ps)) xs ≡ read_file (rooms_for (length aps) (length os) (length ps)) xs
  unfolding judged
  judged_is = λ i. read_file (rooms_for (length-map aps seen_aperture i) (length-map os seen_object i) (length-map ps seen_piece i)) xs

  pub recorded_by : (aps' : List Aperture) (os' : List Object) (ps' : List Piece) (r : Result Drawing Told)
      → r ≡ answer (read_file (rooms_for (length aps) (length os) (length ps)) xs)
      → map seen_aperture aps' ≡ stored (read_file (rooms_for (length aps) (length os) (length ps)) xs).books.apertures (map seen_aperture aps)
      → map seen_object os' ≡ stored (read_file (rooms_for (length aps) (length os) (length ps)) xs).books.objects (map seen_object os)
      → map seen_piece ps' ≡ stored (read_file (rooms_for (length aps) (length os) (length ps)) xs).books.pieces (map seen_piece ps)
      → Recorded (judged (slots_of (tables_of aps os ps)) xs) (tables_of aps os ps) r (tables_of aps' os' ps')
  recorded_by aps' os' ps' r told a o p =
      subst (λ z. Recorded z (tables_of aps os ps) r (tables_of aps' os' ps')) (sym judged_is)
      (record { told = told; held = λ i. record { apertures = a i; objects = o i; pieces = p i } })

-- a refused file lays nothing
refused_by : (b : Books) (k : Option Told) (t : Told) → Err t ≡ answer_by b k → (Err t ≡ numbers_by b k) × (lays_by b k ≡ [])
refused_by b None t h = let z : ◌≡◌ {A = ℕ} 0 1 = cc in absurd (omega arith)
refused_by b (Some u) t h = let e : t ≡ u = cc in (ap Err e, refl)

-- an accepted one answers the counts of its records
accepted_by : (b : Books) (k : Option Told) (d : Drawing) → Ok d ≡ answer_by b k → (d ≡ counts b) × (k ≡ None)
accepted_by b None d h = (cc, refl)
accepted_by b (Some t) d h = let z : ◌≡◌ {A = ℕ} 0 1 = cc in absurd (omega arith)

fits_by : (t : Bool) (o : Outcome) (d : Drawing) → Ok d ≡ answer (cond t o (refused (fault 3 0 0) begin)) → t ≡ true
fits_by true o d h = refl
fits_by false o d h = let z : ◌≡◌ {A = ℕ} 0 1 = cc in absurd (omega arith)

-- records that stand at the front
fronted : {X Y : Type 0} (seen : X → Y) (rs slots : List Y) (xs : List X) (n : ℕ) → n ≡ length rs → map seen xs ≡ stored rs slots → map seen (take n xs) ≡ rs
fronted seen rs slots xs n e h = sym (take-map seen n xs) ∙ ap (take n) h ∙ take_at rs (drop (length rs) slots) n (sym e)

within : {X Y : Type 0} (seen : X → Y) (rs slots : List Y) (xs : List X) (n : ℕ) → n ≡ length rs → map seen xs ≡ stored rs slots → n ≤ length xs
within seen rs slots xs n e h =
    let all : length xs ≡ length (rs ++ drop (length rs) slots) = sym (length-map xs seen) ∙ ap length h in
    omega (arith, length-append rs (drop (length rs) slots))

-- a refused plot
pub plotted_refused : (m : Meaning) (t t' : Tables) (v : Window) (xs : List ℕ) {e : Told} → Recorded (verdict m.frame (slots_of t) v xs) t (Err e) t' → Plotted m t v xs (Err e) t' m
plotted_refused m t t' v xs {e} h =
    let o = verdict m.frame (slots_of t) v xs in
    let k = refused_by o.books o.refusal e h.told in
    record {
      answered = k.0;
      shown = subst (λ os. Shows m (map (cover.laid v) os) m) (sym k.1) (overlaid_shows (overlaid_none m));
      held = h.held;
    }

module _ (f : Frame) (t : Tables) (v : Window) (xs : List ℕ) (d : Drawing) (aps : List Aperture) (os : List Object) (ps : List Piece) (h : Recorded (verdict f (slots_of t) v xs) t (Ok d) (tables_of aps os ps)) where
  counted : d ≡ counts (verdict f (slots_of t) v xs).books
  counted = (accepted_by (verdict f (slots_of t) v xs).books (verdict f (slots_of t) v xs).refusal d h.told).0

  unrefused : (verdict f (slots_of t) v xs).refusal ≡ None
  unrefused = (accepted_by (verdict f (slots_of t) v xs).books (verdict f (slots_of t) v xs).refusal d h.told).1

  -- the window is on the film, and the records are in the slots
  pub recorded_ready : (window_on f v ≡ true) × ((d.apertures ≤ length aps) × ((d.objects ≤ length os) × (d.pieces ≤ length ps)))
  recorded_ready =
      let b = (verdict f (slots_of t) v xs).books in (
        fits_by (window_on f v) (judged (slots_of t) xs) d h.told,
        (
          within seen_aperture b.apertures t.apertures aps d.apertures (ap (λ z. z.apertures) counted) (ap (λ z. z.apertures) h.held),
          (
            within seen_object b.objects t.objects os d.objects (ap (λ z. z.objects) counted) (ap (λ z. z.objects) h.held),
            within seen_piece b.pieces t.pieces ps d.pieces (ap (λ z. z.pieces) counted) (ap (λ z. z.pieces) h.held),
          ),
        ),
      )

  -- what they lay
  lays_is : laid_objects (map seen_aperture (take d.apertures aps)) (map seen_object (take d.objects os)) (map seen_piece (take d.pieces ps)) ≡ lays_by (verdict f (slots_of t) v xs).books (verdict f (slots_of t) v xs).refusal
  lays_is =
      let b = (verdict f (slots_of t) v xs).books in
      let a = fronted seen_aperture b.apertures t.apertures aps d.apertures (ap (λ z. z.apertures) counted) (ap (λ z. z.apertures) h.held) in
      let o = fronted seen_object b.objects t.objects os d.objects (ap (λ z. z.objects) counted) (ap (λ z. z.objects) h.held) in
      let p = fronted seen_piece b.pieces t.pieces ps d.pieces (ap (λ z. z.pieces) counted) (ap (λ z. z.pieces) h.held) in
      (λ i. laid_objects (a i) (o i) (p i)) ∙ sym (ap (lays_by b) unrefused)

  numbered : Ok (d.objects, d.laid) ≡ numbers (verdict f (slots_of t) v xs)
  numbered =
      let b = (verdict f (slots_of t) v xs).books in
      (λ i. Ok ((counted i).objects, (counted i).laid)) ∙ sym (ap (numbers_by b) unrefused)

-- an accepted plot
module _ (m : Meaning) (t : Tables) (v : Window) (xs : List ℕ) (d : Drawing) (aps : List Aperture) (os : List Object) (ps : List Piece) where
  pub plotted_accepted : {n : Meaning} {drawn laid : ℕ} → Recorded (verdict m.frame (slots_of t) v xs) t (Ok d) (tables_of aps os ps)
      → LaidOn m v (laid_objects (map seen_aperture (take d.apertures aps)) (map seen_object (take d.objects os)) (map seen_piece (take d.pieces ps))) n
      → (drawn ≡ d.objects) × (laid ≡ d.laid) → Plotted m t v xs (Ok (drawn, laid)) (tables_of aps os ps) n
  plotted_accepted {n} h l e =
      record {
        answered = (λ i. Ok (e.0 i, e.1 i)) ∙ numbered m.frame t v xs d aps os ps h;
        shown = subst (λ z. Shows m (map (cover.laid v) z) n) (lays_is m.frame t v xs d aps os ps h) (laid_shows l);
        held = h.held;
      }
