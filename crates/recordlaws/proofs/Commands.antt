-- What each command has the tables take, and the state that it leaves.
use Rattle.std.proofs.Common.{◌≡◌, ℕ, zero, suc, ◌+◌, ◌-◌, ◌<◌, ◌≤◌, true, false, cond, not, ◌&&◌, eqb, ltb, ◌⊎◌, List, [], ◌∷◌, ◌++◌, length, drop, ℤ, is_some, Some, None, Ok, Err, Option, Result, sym, refl, ap, ◌∙◌, subst, inl, inr, arith}
use Rattle.contour.specs.Chain.{last_of}
use Rattle.forms.specs.Orders as order
use Rattle.forms.specs.Orders.{Order}
use Rattle.forms.specs.declared.Mode.TheVariants.{Clockwise, Counterclockwise, Linear}
use Rattle.forms.specs.declared.Mode.{Mode}
use Rattle.plane.proofs.Equal.{same_is_equal}
use Rattle.plane.specs.Plane.{At, way}
use Rattle.recordlaws.proofs.Fits.{AllEarlier, AllOwned, ApertureFit, BlockFit, ContourFit, EffectFit, Fit, NewFigure, OwnerFit, RegionFit, RepeatFit, StateFit}
use Rattle.recordlaws.proofs.Growing.{block_there, figure_last, fits_aperture, fits_object, fits_piece}
use Rattle.recordlaws.proofs.Holding.{Holds, anything, held, then_holds}
use Rattle.recordlaws.proofs.Numbers.{BothFit, EndsFit, both_fit, centre_fits, ends_fit, point_of_fits, repeats_fit, round_fits, side_fits, wanted_is}
use Rattle.recordlaws.proofs.Weighing.{figure_sound}
use Rattle.recordlaws.specs.Laws.{AperturesSound, ContourSound, Earlier, FigureSound, IsBlock, ObjectsSound, OutlineSound, OwnerSound, SideHalf, Within}
use Rattle.records.specs.Records as seen
use Rattle.records.specs.Records.{ApertureSeen, FigureSeen, ObjectSeen, OutlineSeen}
use Rattle.records.specs.Weights.{figure_at}
use Rattle.records.specs.declared.kinds.Owner.TheVariants.{Block, Layer, Repeat}
use Rattle.records.specs.declared.kinds.Owner.{Owner}
use Rattle.records.specs.declared.kinds.Repeat.{Repeat as RepeatRecord}
use Rattle.rules.specs.Rules as rules
use Rattle.rules.specs.Rules.{arc_fits, arrived, block_opened, centre_of, circle_defined, closed_only, contour_ended, decided, defines, drawn, drawn_at, draws, ends_of, flash_of, flashes, free, given_both, half_of, in_block, in_repeat, is_begun, is_open, is_outside, leaves, may_stand, mode_wanted, moves, number_from, number_of, obeyed, obround_defined, on_layer, otherwise, pen_of, piece_drawn, point_of, ready, rectangle_defined, region_closed, repeat_of, repeat_opened, repeats, round_half, scale_of, selected, selection, short_stroke, side_half, stands_at, step_of, stroke_drawn, stroke_half, stroke_in, value_of, wanted}
use Rattle.rules.specs.Settings.{with_aperture, with_contour, with_owner, with_point, without_region}
use Rattle.rules.specs.States as state
use Rattle.rules.specs.States.{EffectSeen, RegionSeen, StateSeen}
use Rattle.rules.specs.declared.measures.Scale.{Scale}
use Rattle.std.proofs.lemmas.List.{drop_all, length_push, take_rest}
use Rattle.std.proofs.lemmas.Bool.{and_parts, cond_both, eqb-false, ltb-true, ne_eqb, not-true}
use Rattle.words.specs.Words.{onward}

-- The next state and the effect of a command that is not refused.
abbrev pub Fitting : List ApertureSeen → List ObjectSeen → List At → StateSeen × EffectSeen → Type 0
Fitting aps os pcs d = EffectFit aps os pcs d.0 d.1

-- No contour is begun.
outside_fits : (pcs : List At) (p : Option At) (g : RegionSeen) → is_outside g ≡ true → RegionFit pcs p g
outside_fits pcs p state.outside e = tt
outside_fits pcs p state.inside e = tt
outside_fits pcs p (state.begun a first) e = let z : ◌≡◌ {A = ℕ} 0 1 = cc in absurd (omega arith)

free_outside : (s : StateSeen) → free s ≡ true → is_outside s.region ≡ true
free_outside s e = (and_parts (ready s) (is_outside s.region) e).1

-- What is open, for an object.
owner_sound : (aps : List ApertureSeen) (os : List ObjectSeen) (o : OutlineSeen) (w : Owner) → OwnerFit aps os w → ((k : ℕ) → w ≡ Block k → Earlier k o) → OwnerSound aps o w
owner_sound aps os o Layer f h = tt
owner_sound aps os o (Block k) f h = (f.there, f.block, h k refl)
owner_sound aps os o (Repeat r) f h = (f.columns, f.rows)

-- The selected aperture, when something else opens or closes.
other_open : (aps : List ApertureSeen) (w v : Owner) (n : Option ℕ) → ApertureFit aps w n → ((m : ℕ) → m < length aps → is_open v m ≡ false) → ApertureFit aps v n
other_open aps w v None f h = tt
other_open aps w v (Some n) (l, e) h = (l, h n l)

-- Every flash is of an aperture that is there.
flash_earlier : (aps : List ApertureSeen) (pcs : List At) (o : OutlineSeen) → OutlineSound aps pcs o → Earlier (length aps) o
flash_earlier aps pcs (seen.circle p h) s = tt
flash_earlier aps pcs (seen.rectangle p a b) s = tt
flash_earlier aps pcs (seen.obround p a b) s = tt
flash_earlier aps pcs (seen.stroke b e h) s = tt
flash_earlier aps pcs (seen.arc b e c clockwise h) s = tt
flash_earlier aps pcs (seen.contour a first count) s = tt
flash_earlier aps pcs (seen.block n p m) s = s.1

all_earlier : (aps : List ApertureSeen) (pcs : List At) (os : List ObjectSeen) → ObjectsSound aps pcs os → AllEarlier (length aps) os
all_earlier aps pcs [] s = tt
all_earlier aps pcs (o ∷ os) (a, b, s) = (flash_earlier aps pcs o.outline a, all_earlier aps pcs os s)

-- A code that is found is that of one of the apertures.
abbrev Below : ℕ → Option ℕ → Type 0
Below n None = Unit {0}
Below n (Some m) = m < n

found_below : (n k : ℕ) (aps : List ApertureSeen) → Below (n + length aps) (number_from n k aps)
found_below n k [] = tt
found_below n k (a ∷ aps) =
    let z : n + 1 + length aps ≡ n + length (a ∷ aps) = omega arith in
    cond_both (eqb a.code k) (Some n) (number_from (n + 1) k aps) (Below (n + length (a ∷ aps)))
    (λ e. omega arith)
    (λ e. subst (λ b. Below b (number_from (n + 1) k aps)) z (found_below (n + 1) k aps))

closed_fits : (w : Owner) (n : ℕ) (m : Option ℕ) → Below n m → Holds (λ i. (i < n) × (is_open w i ≡ false)) (closed_only w m)
closed_fits w n None b = tt
closed_fits w n (Some m) b = held (λ i. (i < n) × (is_open w i ≡ false)) (not (is_open w m)) 23 (Ok m) (λ e. (b, not-true (is_open w m) e))

-- The figure of the selected aperture.
figure_found : (aps : List ApertureSeen) (n : ℕ) → n < length aps → rules.figure_at aps n ≡ Some (figure_at aps n)
figure_found [] n h = absurd (omega arith)
figure_found (a ∷ aps) zero h = refl
figure_found (a ∷ aps) (suc n) h = figure_found aps n (omega arith)

figure_fits : (aps : List ApertureSeen) (n : ℕ) → n < length aps → Holds (λ f. figure_at aps n ≡ f) (wanted (rules.figure_at aps n))
figure_fits aps n h = subst (λ (r : Option FigureSeen). Holds (λ f. figure_at aps n ≡ f) (wanted r)) (sym (figure_found aps n h)) refl

half_fits : (n : ℕ) (f : FigureSeen) → FigureSound n f → Holds (λ h. h ≤ 5000) (stroke_half f)
half_fits n (seen.circle h) s = s
half_fits n (seen.rectangle a b) s = tt
half_fits n (seen.obround a b) s = tt
half_fits n (seen.block first) s = tt

module _ (aps : List ApertureSeen) (os : List ObjectSeen) (pcs : List At) (s : StateSeen) (fit : StateFit aps os pcs s) where
  -- an object drawn, with the next state
  drawn_fits : (next : StateSeen) (o : OutlineSeen) → next.owner ≡ s.owner → StateFit aps os pcs next → OutlineSound aps pcs o → ((k : ℕ) → s.owner ≡ Block k → Earlier k o)
      → EffectFit aps os pcs next (drawn s o)
  drawn_fits next o e f h b =
      let w = owner_sound aps os o s.owner fit.owner b in (
        record { outline = h; owned = w; owner = fit.owner },
        fits_object (record { polarity = s.polarity; owner = s.owner; outline = o }) (sym e) (subst (OwnerSound aps o) (sym e) w) f,
      )

  -- the current point, no contour being begun
  at_point : (p : At) → Within 30000 p → is_outside s.region ≡ true → Fit aps os pcs (Some p) s.aperture s.owner s.region
  at_point p h e = record { point = h; aperture = fit.aperture; owner = fit.owner; region = outside_fits pcs (Some p) s.region e }

  -- the effect of a command, and the state that it leaves
  leaving : (next : StateSeen) (r : Result EffectSeen ℕ) → Holds (EffectFit aps os pcs next) r → Holds (Fitting aps os pcs) (leaves next r)
  leaving next (Ok e) h = h
  leaving next (Err n) h = tt

  -- Apertures

  defined : (k : ℕ) (f : FigureSeen) → FigureSound (length os) f → NewFigure (length os) f → (IsBlock f → ⊥) → Holds (EffectFit aps os pcs s) (defines k aps f)
  defined k f h n b =
      held (EffectFit aps os pcs s) (not (is_some (number_of k aps))) 23 (Ok (state.aperture (record { code = k; figure = f })))
      (λ e. (h, n, fits_aperture (record { code = k; figure = f }) b fit))

  circle_fits : (c : Scale) (k d : ℕ) → Holds (EffectFit aps os pcs s) (circle_defined c aps k d)
  circle_fits c k d =
      then_holds (λ h. h ≤ 5000) (EffectFit aps os pcs s) (round_half (half_of c d)) (λ h. defines k aps (seen.circle h)) (round_fits (half_of c d))
      (λ h b. defined k (seen.circle h) b tt (λ z. z))

  rectangle_fits : (c : Scale) (k w h : ℕ) → Holds (EffectFit aps os pcs s) (rectangle_defined c aps k w h)
  rectangle_fits c k w h =
      then_holds SideHalf (EffectFit aps os pcs s) (side_half (half_of c w)) (λ a. onward (side_half (half_of c h)) (λ b. defines k aps (seen.rectangle a b))) (side_fits (half_of c w)) (λ a x.
      then_holds SideHalf (EffectFit aps os pcs s) (side_half (half_of c h)) (λ b. defines k aps (seen.rectangle a b)) (side_fits (half_of c h)) (λ b y.
      defined k (seen.rectangle a b) (x, y) tt (λ z. z)))

  obround_fits : (c : Scale) (k w h : ℕ) → Holds (EffectFit aps os pcs s) (obround_defined c aps k w h)
  obround_fits c k w h =
      then_holds SideHalf (EffectFit aps os pcs s) (side_half (half_of c w)) (λ a. onward (side_half (half_of c h)) (λ b. defines k aps (seen.obround a b))) (side_fits (half_of c w)) (λ a x.
      then_holds SideHalf (EffectFit aps os pcs s) (side_half (half_of c h)) (λ b. defines k aps (seen.obround a b)) (side_fits (half_of c h)) (λ b y.
      defined k (seen.obround a b) (x, y) tt (λ z. z)))

  -- Blocks and step and repeats

  new_block : (a : ApertureSeen) → IsBlock a.figure → ObjectsSound aps pcs os → BlockFit (aps ++ (a ∷ [])) os (length aps)
  new_block a b sound =
      record {
        there = simp length_push (omega arith);
        block = subst IsBlock (sym (figure_last aps a)) b;
        last = λ n b. let t = block_there (aps ++ (a ∷ [])) n b in omega (arith, length_push aps a);
        earlier = all_earlier aps pcs os sound;
      }

  more_apertures : (a : ApertureSeen) (w : Owner) (n : Option ℕ) → ApertureFit aps w n → ApertureFit (aps ++ (a ∷ [])) w n
  more_apertures a w None f = tt
  more_apertures a w (Some n) (l, e) = (simp length_push (omega arith), e)

  block_fits : (k : ℕ) → ObjectsSound aps pcs os → free s ≡ true → Holds (Fitting aps os pcs) (block_opened s aps (length os) k)
  block_fits k sound e =
      let a : ApertureSeen = record { code = k; figure = seen.block (length os) } in
      let next = with_owner (Block (length aps)) s in
      leaving next (defines k aps (seen.block (length os))) (
      held (EffectFit aps os pcs next) (not (is_some (number_of k aps))) 23 (Ok (state.aperture a)) (λ u. (
        omega arith,
        refl,
        record {
          point = tt;
          aperture = more_apertures a (Block (length aps)) s.aperture (other_open aps s.owner (Block (length aps)) s.aperture fit.aperture (λ m l. ne_eqb (length aps) m (λ z. omega arith)));
          owner = new_block a tt sound;
          region = outside_fits pcs None s.region (free_outside s e);
        },
      )))

  closing_fits : free s ≡ true → StateFit aps os pcs (with_owner Layer s)
  closing_fits e =
      record {
        point = tt;
        aperture = other_open aps s.owner Layer s.aperture fit.aperture (λ m l. refl);
        owner = tt;
        region = outside_fits pcs None s.region (free_outside s e);
      }

  new_repeat : (c : Scale) (i j x y : ℕ) → Holds (RepeatFit os) (repeat_of c (length os) i j x y)
  new_repeat c i j x y =
      let dx = step_of c x in
      let dy = step_of c y in
      let r : RepeatRecord = record { first = length os; columns = i; rows = j; step_x = dx; step_y = dy } in
      held (RepeatFit os) (repeats i dx && repeats j dy) 22 (Ok r) (λ u.
      let t = and_parts (repeats i dx) (repeats j dy) u in
      record {
        columns = repeats_fit i dx t.0;
        rows = repeats_fit j dy t.1;
        there = omega arith;
        owned = subst (AllOwned (Repeat r)) (sym (drop_all (length os) os (omega arith))) tt;
      })

  repeat_fits : (r : Result RepeatRecord ℕ) → Holds (RepeatFit os) r → free s ≡ true → Holds (Fitting aps os pcs) (repeat_opened s r)
  repeat_fits r h e =
      then_holds (RepeatFit os) (Fitting aps os pcs) r (λ r. Ok (with_owner (Repeat r) s, state.nothing)) h (λ r f.
      record {
        point = tt;
        aperture = other_open aps s.owner (Repeat r) s.aperture fit.aperture (λ m l. refl);
        owner = f;
        region = outside_fits pcs None s.region (free_outside s e);
      })

  select_fits : (k : ℕ) → Holds (Fitting aps os pcs) (selected s aps k)
  select_fits k =
      let z : 0 + length aps ≡ length aps = omega arith in
      then_holds (λ i. (i < length aps) × (is_open s.owner i ≡ false)) (Fitting aps os pcs) (closed_only s.owner (number_of k aps)) (λ n. Ok (with_aperture n s, state.nothing))
      (closed_fits s.owner (length aps) (number_of k aps) (subst (λ n. Below n (number_of k aps)) z (found_below 0 k aps)))
      (λ n h. record { point = fit.point; aperture = h; owner = fit.owner; region = fit.region })

  -- Contours

  -- an effect that every next state fits, if what is open stays
  abbrev Ended : EffectSeen → Type 0
  Ended e = (next : StateSeen) → next.owner ≡ s.owner → StateFit aps os pcs next → EffectFit aps os pcs next e

  closes : (a : At) (first : ℕ) → ContourFit pcs s.point a first → stands_at s.point a ≡ true → last_of a (drop first pcs) ≡ a
  closes a first f e = same_is_equal.yes (last_of a (drop first pcs)) a (subst (λ (p : Option At). stands_at p a ≡ true) f.leads e)

  contour_sound : (a : At) (first : ℕ) → ContourFit pcs s.point a first → first < length pcs → stands_at s.point a ≡ true → ContourSound pcs a first (length pcs - first)
  contour_sound a first f l e = record { some = omega arith; there = omega arith; closed = ap (last_of a) (take_rest pcs first) ∙ closes a first f e }

  ended_fits : (g : RegionSeen) → RegionFit pcs s.point g → Holds Ended (contour_ended s (length pcs) g)
  ended_fits state.outside f = λ next e h. h
  ended_fits state.inside f = λ next e h. h
  ended_fits (state.begun a first) f =
      let o = seen.contour a first (length pcs - first) in
      cond_both (ltb first (length pcs)) (otherwise (stands_at s.point a) 28 (Ok (drawn s o))) (Ok state.nothing) (Holds Ended)
      (λ l. held Ended (stands_at s.point a) 28 (Ok (drawn s o)) (λ e.
      λ next w h. drawn_fits next o w h (f.begins, contour_sound a first f (ltb-true first (length pcs) l) e) (λ k z. tt)))
      (λ l. λ next e h. h)

  -- a contour that ends, with the next state
  ending : (next : StateSeen) → next.owner ≡ s.owner → StateFit aps os pcs next → Holds (Fitting aps os pcs) (leaves next (contour_ended s (length pcs) s.region))
  ending next e h =
      then_holds Ended (Fitting aps os pcs) (contour_ended s (length pcs) s.region) (λ e. Ok (next, e)) (ended_fits s.region fit.region) (λ f g. g next e h)

  close_fits : Holds (Fitting aps os pcs) (region_closed s (length pcs))
  close_fits = ending (without_region s) refl (record { point = tt; aperture = fit.aperture; owner = fit.owner; region = tt })

  -- a contour that begins
  begin_fits : (p : At) → Within 30000 p → StateFit aps os pcs (with_contour p (length pcs) s)
  begin_fits p h =
      record {
        point = h;
        aperture = fit.aperture;
        owner = fit.owner;
        region = record { begins = h; there = omega arith; leads = ap Some (sym (ap (last_of p) (drop_all (length pcs) pcs (omega arith)))) };
      }

  arrived_fits : (p : At) → Within 30000 p → ((arrived s (length pcs) p).owner ≡ s.owner) × StateFit aps os pcs (arrived s (length pcs) p)
  arrived_fits p h =
      cond_both (is_outside s.region) (with_point p s) (with_contour p (length pcs) s) (λ (next : StateSeen). (next.owner ≡ s.owner) × StateFit aps os pcs next)
      (λ e. (refl, at_point p h e))
      (λ e. (refl, begin_fits p h))

  move_fits : (x y : Option ℤ) → Holds (Fitting aps os pcs) (moves s (length pcs) x y)
  move_fits x y =
      then_holds (Within 30000) (Fitting aps os pcs) (point_of (scale_of s) s.point x y)
      (λ p. leaves (arrived s (length pcs) p) (contour_ended s (length pcs) s.region)) (point_of_fits (scale_of s) s.point x y fit.point) (λ p h.
      let f = arrived_fits p h in
      ending (arrived s (length pcs) p) f.0 f.1)

  piece_fits : (p : At) → Within 30000 p → (g : RegionSeen) → s.region ≡ g → is_begun g ≡ true → EffectFit aps os pcs (with_point p s) (state.piece p)
  piece_fits p h state.outside e b = let z : ◌≡◌ {A = ℕ} 0 1 = cc in absurd (omega arith)
  piece_fits p h state.inside e b = let z : ◌≡◌ {A = ℕ} 0 1 = cc in absurd (omega arith)
  piece_fits p h (state.begun a first) e b =
      let f : Fit aps os pcs s.point s.aperture s.owner (state.begun a first) = subst (Fit aps os pcs s.point s.aperture s.owner) e fit in
      (h, subst (Fit aps os (pcs ++ (p ∷ [])) (Some p) s.aperture s.owner) (sym e) (fits_piece p h f))

  pieces_fit : (to : Option ℤ × Option ℤ) → BothFit 30000 to → Holds (Fitting aps os pcs) (piece_drawn s to)
  pieces_fit to g =
      then_holds EndsFit (Fitting aps os pcs) (ends_of s.point to)
      (λ ends. otherwise (is_begun s.region) 28 (Ok (with_point ends.1 s, state.piece ends.1))) (ends_fit s.point to fit.point g) (λ ends h.
      held (Fitting aps os pcs) (is_begun s.region) 28 (Ok (with_point ends.1 s, state.piece ends.1)) (piece_fits ends.1 h.1 s.region refl))

  -- Flashes and strokes

  -- the selected aperture and its figure
  abbrev Selected : ℕ × FigureSeen → Type 0
  Selected a = (a.0 < length aps) × (is_open s.owner a.0 ≡ false) × (figure_at aps a.0 ≡ a.1)

  selection_fits : Holds Selected (selection aps s.aperture)
  selection_fits =
      then_holds (λ n. s.aperture ≡ Some n) Selected (wanted s.aperture) (λ n. onward (wanted (rules.figure_at aps n)) (λ f. Ok (n, f))) (wanted_is s.aperture) (λ n e.
      let h : (n < length aps) × (is_open s.owner n ≡ false) = subst (ApertureFit aps s.owner) e fit.aperture in
      then_holds (λ f. figure_at aps n ≡ f) Selected (wanted (rules.figure_at aps n)) (λ f. Ok (n, f)) (figure_fits aps n h.0) (λ f g. (h.0, h.1, g)))

  -- an outline that may be drawn now
  abbrev Drawable : OutlineSeen → Type 0
  Drawable o = OutlineSound aps pcs o × ((k : ℕ) → s.owner ≡ Block k → Earlier k o)

  drawn_at_lem : (p : At) (r : Result OutlineSeen ℕ) → Within 30000 p → is_outside s.region ≡ true → Holds Drawable r → Holds (Fitting aps os pcs) (drawn_at s p r)
  drawn_at_lem p r w e h =
      then_holds Drawable (Fitting aps os pcs) r (λ o. Ok (with_point p s, drawn s o)) h (λ o f. drawn_fits (with_point p s) o refl (at_point p w e) f.0 f.1)

  module _ (sound : AperturesSound (length os) aps) where
    selected_sound : (n : ℕ) (f : FigureSeen) → figure_at aps n ≡ f → FigureSound (length os) f
    selected_sound n f e = subst (FigureSound (length os)) e (figure_sound (length os) aps n sound)

    flash_sound : (n : ℕ) (p : At) (f : FigureSeen) → n < length aps → figure_at aps n ≡ f → FigureSound (length os) f → Within 30000 p
        → OutlineSound aps pcs (flash_of s.mirror p (n, f))
    flash_sound n p (seen.circle h) l e t w = (w, t)
    flash_sound n p (seen.rectangle a b) l e t w = (w, t.0, t.1)
    flash_sound n p (seen.obround a b) l e t w = (w, t.0, t.1)
    flash_sound n p (seen.block first) l e t w = (w, l, subst IsBlock (sym e) tt)

    flash_falls : (n : ℕ) (p : At) (f : FigureSeen) → figure_at aps n ≡ f → is_open s.owner n ≡ false → (k : ℕ) → s.owner ≡ Block k → Earlier k (flash_of s.mirror p (n, f))
    flash_falls n p (seen.circle h) e c k w = tt
    flash_falls n p (seen.rectangle a b) e c k w = tt
    flash_falls n p (seen.obround a b) e c k w = tt
    flash_falls n p (seen.block first) e c k w =
        let f : BlockFit aps os k = subst (OwnerFit aps os) w fit.owner in
        let l = f.last n (subst IsBlock (sym e) tt) in
        let d = eqb-false k n (subst (λ (v : Owner). is_open v n ≡ false) w c) in
        by_order d (search arith)
      where
        by_order : (k ≡ n → ⊥) → (n < k) ⊎ (k ≡ n) → n < k
        by_order d (inl l) = l
        by_order d (inr q) = absurd (d q)

    flash_fits : (x y : Option ℤ) → free s ≡ true → Holds (Fitting aps os pcs) (flashes s aps x y)
    flash_fits x y e =
        then_holds (Within 30000) (Fitting aps os pcs) (point_of (scale_of s) s.point x y)
        (λ p. onward (selection aps s.aperture) (λ a. drawn_at s p (Ok (flash_of s.mirror p a)))) (point_of_fits (scale_of s) s.point x y fit.point) (λ p w.
        then_holds Selected (Fitting aps os pcs) (selection aps s.aperture) (λ a. drawn_at s p (Ok (flash_of s.mirror p a))) selection_fits (λ a h.
        drawn_at_lem p (Ok (flash_of s.mirror p a)) w (free_outside s e)
        (flash_sound a.0 p a.1 h.0 h.2 (selected_sound a.0 a.1 h.2) w, flash_falls a.0 p a.1 h.2 h.1)))

    -- what strokes are drawn with
    abbrev Pen : Mode × ℕ → Type 0
    Pen m = m.1 ≤ 5000

    pen_fits : Holds Pen (pen_of aps s.aperture s.arcs s.mode)
    pen_fits =
        then_holds Selected Pen (selection aps s.aperture)
        (λ a. onward (mode_wanted s.arcs s.mode) (λ m. onward (stroke_half a.1) (λ h. Ok (m, h)))) selection_fits (λ a f.
        then_holds (λ m. Unit {0}) Pen (mode_wanted s.arcs s.mode) (λ m. onward (stroke_half a.1) (λ h. Ok (m, h))) (anything (mode_wanted s.arcs s.mode)) (λ m u.
        then_holds (λ h. h ≤ 5000) Pen (stroke_half a.1) (λ h. Ok (m, h)) (half_fits (length os) a.1 (selected_sound a.0 a.1 f.2)) (λ h d. d)))

    stroke_fits : (pen : Mode × ℕ) (from to centre : At) → Within 30000 from → Within 30000 to → Within 45000 centre → Pen pen → Holds Drawable (stroke_in pen from to centre)
    stroke_fits (Linear, h) from to centre a b c d = held Drawable (short_stroke from to) 27 (Ok (seen.stroke from to h)) (λ u. ((a, b, d), λ k z. tt))
    stroke_fits (Clockwise, h) from to centre a b c d =
        held Drawable (arc_fits (way centre from) (way centre to)) 26 (Ok (seen.arc from to centre true h)) (λ u. ((a, b, c, d), λ k z. tt))
    stroke_fits (Counterclockwise, h) from to centre a b c d =
        held Drawable (arc_fits (way centre from) (way centre to)) 26 (Ok (seen.arc from to centre false h)) (λ u. ((a, b, c, d), λ k z. tt))

    strokes_fit : (to by : Option ℤ × Option ℤ) → is_outside s.region ≡ true → BothFit 30000 to → BothFit 15000 by → Holds (Fitting aps os pcs) (stroke_drawn s aps to by)
    strokes_fit to by e ht hb =
        then_holds EndsFit (Fitting aps os pcs) (ends_of s.point to)
        (λ ends. onward (pen_of aps s.aperture s.arcs s.mode) (λ pen. drawn_at s ends.1 (stroke_in pen ends.0 ends.1 (centre_of ends.0 by))))
        (ends_fit s.point to fit.point ht) (λ ends h.
        then_holds Pen (Fitting aps os pcs) (pen_of aps s.aperture s.arcs s.mode)
        (λ pen. drawn_at s ends.1 (stroke_in pen ends.0 ends.1 (centre_of ends.0 by))) pen_fits (λ pen d.
        drawn_at_lem ends.1 (stroke_in pen ends.0 ends.1 (centre_of ends.0 by)) h.1 e
        (stroke_fits pen ends.0 ends.1 (centre_of ends.0 by) h.0 h.1 (centre_fits ends.0 by h.0 hb) d)))

    draw_fits : (x y i j : Option ℤ) → Holds (Fitting aps os pcs) (draws s aps x y i j)
    draw_fits x y i j =
        then_holds (BothFit 30000) (Fitting aps os pcs) (given_both 30000 (scale_of s) x y)
        (λ to. onward (given_both 15000 (scale_of s) i j) (λ by. cond (is_outside s.region) (stroke_drawn s aps to by) (piece_drawn s to))) (both_fit 30000 (scale_of s) x y) (λ to ht.
        then_holds (BothFit 15000) (Fitting aps os pcs) (given_both 15000 (scale_of s) i j)
        (λ by. cond (is_outside s.region) (stroke_drawn s aps to by) (piece_drawn s to)) (both_fit 15000 (scale_of s) i j) (λ by hb.
        cond_both (is_outside s.region) (stroke_drawn s aps to by) (piece_drawn s to) (Holds (Fitting aps os pcs))
        (λ e. strokes_fit to by e ht hb)
        (λ e. pieces_fit to ht)))

-- Every command that may stand.
obeyed_fits : (aps : List ApertureSeen) (os : List ObjectSeen) (pcs : List At) (s : StateSeen) → StateFit aps os pcs s → AperturesSound (length os) aps → ObjectsSound aps pcs os
    → (o : Order) → may_stand s o ≡ true → Holds (Fitting aps os pcs) (obeyed s aps (length os) (length pcs) o)
obeyed_fits aps os pcs s f a b (order.format d g) e = f
obeyed_fits aps os pcs s f a b (order.unit u) e = f
obeyed_fits aps os pcs s f a b (order.circle k d) e =
    leaving aps os pcs s f s (circle_defined (scale_of s) aps k.value d.value) (circle_fits aps os pcs s f (scale_of s) k.value d.value)
obeyed_fits aps os pcs s f a b (order.rectangle k w h) e =
    leaving aps os pcs s f s (rectangle_defined (scale_of s) aps k.value w.value h.value) (rectangle_fits aps os pcs s f (scale_of s) k.value w.value h.value)
obeyed_fits aps os pcs s f a b (order.obround k w h) e =
    leaving aps os pcs s f s (obround_defined (scale_of s) aps k.value w.value h.value) (obround_fits aps os pcs s f (scale_of s) k.value w.value h.value)
obeyed_fits aps os pcs s f a b (order.block_open k) e = block_fits aps os pcs s f k.value b (and_parts (free s) (on_layer s.owner) e).0
obeyed_fits aps os pcs s f a b order.block_close e = closing_fits aps os pcs s f (and_parts (free s) (in_block s.owner) e).0
obeyed_fits aps os pcs s f a b (order.repeat_open i j x y) e =
    repeat_fits aps os pcs s f (repeat_of (scale_of s) (length os) i.value j.value x.value y.value) (new_repeat aps os pcs s f (scale_of s) i.value j.value x.value y.value) (and_parts (free s) (on_layer s.owner) e).0
obeyed_fits aps os pcs s f a b order.repeat_close e = closing_fits aps os pcs s f (and_parts (free s) (in_repeat s.owner) e).0
obeyed_fits aps os pcs s f a b (order.polarity p) e = f
obeyed_fits aps os pcs s f a b (order.mirror x y) e = f
obeyed_fits aps os pcs s f a b (order.attribute k t) e = f
obeyed_fits aps os pcs s f a b (order.comment t) e = f
obeyed_fits aps os pcs s f a b (order.mode m) e = f
obeyed_fits aps os pcs s f a b order.multi_quadrant e = f
obeyed_fits aps os pcs s f a b order.region_open e = record { point = f.point; aperture = f.aperture; owner = f.owner; region = tt }
obeyed_fits aps os pcs s f a b order.region_close e = close_fits aps os pcs s f
obeyed_fits aps os pcs s f a b order.end_of_file e = f
obeyed_fits aps os pcs s f a b (order.select k) e = select_fits aps os pcs s f k.value
obeyed_fits aps os pcs s f a b (order.draw x y i j) e = draw_fits aps os pcs s f a (value_of x) (value_of y) (value_of i) (value_of j)
obeyed_fits aps os pcs s f a b (order.move x y) e = move_fits aps os pcs s f (value_of x) (value_of y)
obeyed_fits aps os pcs s f a b (order.flash x y) e = flash_fits aps os pcs s f a (value_of x) (value_of y) e

pub decided_fits : (aps : List ApertureSeen) (os : List ObjectSeen) (pcs : List At) (s : StateSeen) → StateFit aps os pcs s → AperturesSound (length os) aps → ObjectsSound aps pcs os
    → (o : Order) → Holds (Fitting aps os pcs) (decided s aps (length os) (length pcs) o)
unfolding decided
decided_fits aps os pcs s f a b o = held (Fitting aps os pcs) (may_stand s o) 21 (obeyed s aps (length os) (length pcs) o) (obeyed_fits aps os pcs s f a b o)
