-- Window plots that hold every pixel, and one whole plot in their stead.
use Rattle.std.proofs.Common.{◌≡◌, ℕ, Bool, true, false, cond, ◌&&◌, ◌⊎◌, List, [], ◌∷◌, ◌++◌, map, length, Some, None, Option, sym, refl, ap, ◌∙◌, subst, inl, inr, append_assoc, append-nil, arith}
use Rattle.drawing.specs.Books.{Books, begin}
use Rattle.drawing.specs.Reading.{Outcome, refused}
use Rattle.film.proofs.Limiting.{limits_of}
use Rattle.film.specs.Film.{Meaning}
use Rattle.film.specs.Frame.{Frame, in_limits}
use Rattle.film.specs.Made.{window_on}
use Rattle.film.specs.declared.window.Window.{Window}
use Rattle.history.proofs.Calling.{past_append}
use Rattle.history.proofs.Overlaying.{Overlaid, leaves, leaves_again, leaves_append, leaves_left, left_leaves, overlaid_shows, shows_overlaid}
use Rattle.history.specs.Calls.{AllAnswered, Answers, Call, Said, clear, lays, look, part, past, said_by, whole}
use Rattle.history.specs.Coverings.{Covering, Left, laid, on}
use Rattle.history.specs.History.{History}
use Rattle.history.specs.Tiles.{Accepted, AllSay, Each, EveryTiling, Holds, RefusedPlot, SomeOne, Tile, TilesAsWhole, Tiling, WindowOf, whole_said}
use Rattle.history.specs.Verdicts.{Slots, accepts, entire, judged, lay_list, lays_by, no_refusal, numbers, plot_coverings, verdict}
use Rattle.laid.specs.Covered.{covers_point}
use Rattle.film.specs.Frame.{centre_x, centre_y}
use Rattle.laid.specs.Laid.{LaidObject}
use Rattle.paint.specs.Painted.{in_window}
use Rattle.std.proofs.lemmas.Bool.{false≢true, true≢false}
use Rattle.std.proofs.lemmas.Bool.Decides.{nat_tests}
use Rattle.words.specs.Words.{Told, fault}

-- the whole film is a window of it, as a film within its limits has a pixel
pub whole_fits : (f : Frame) → in_limits f ≡ true → window_on f (entire f) ≡ true
whole_fits f h = let l = limits_of f h in let w = l.wide in let t = l.tall in grind (arith, nat_tests)

corner : (f : Frame) → window_on f (entire f) ≡ true → on f 0 0 ≡ true
corner f h = grind (arith, nat_tests)

entire_holds : (f : Frame) (c r : ℕ) → on f c r ≡ true → in_window (entire f) c r ≡ true
entire_holds f c r h = grind (arith, nat_tests)

-- an accepted window is of no account to the file's verdict
window_by : (t : Bool) (o : Outcome) → accepts (cond t o (refused (fault 3 0 0) begin)) ≡ true → cond t o (refused (fault 3 0 0) begin) ≡ o
window_by true o h = refl
window_by false o h = absurd (false≢true h)

window_verdict : (f : Frame) (s : Slots) (v : Window) (xs : List ℕ) → Accepted f s v xs → verdict f s v xs ≡ judged s xs
window_verdict f s v xs h = window_by (window_on f v) (judged s xs) h

entire_verdict : (f : Frame) (s : Slots) (xs : List ℕ) → window_on f (entire f) ≡ true → verdict f s (entire f) xs ≡ judged s xs
entire_verdict f s xs fits = ap (λ t. cond t (judged s xs) (refused (fault 3 0 0) begin)) fits

-- an accepted window plot has the verdict of the whole plot
tile_verdict : (f : Frame) (s t : Slots) (v : Window) (xs ys : List ℕ) → window_on f (entire f) ≡ true → t ≡ s → ys ≡ xs → Accepted f t v ys → verdict f t v ys ≡ verdict f s (entire f) xs
tile_verdict f s t v xs ys fits es ex ok = window_verdict f t v ys ok ∙ ap (λ z. judged z ys) es ∙ ap (judged s) ex ∙ sym (entire_verdict f s xs fits)

-- a refused plot lays nothing
none_by : (b : Books) (t : Option Told) → no_refusal t ≡ false → lays_by b t ≡ []
none_by b None h = absurd (true≢false h)
none_by b (Some t) h = refl

module _ (f : Frame) (c r : ℕ) where
  -- two windows that hold the pixel
  through : (v w : Window) (os : List LaidObject) (b : Bool) → in_window v c r ≡ true → in_window w c r ≡ true → leaves f c r b (map (laid v) os) ≡ leaves f c r b (map (laid w) os)
  through v w [] b hv hw = refl
  through v w (o ∷ os) b hv hw =
      let shape = covers_point o.outline (centre_x f c) (centre_y f r) in
      ap (λ t. leaves f c r (cond (t && shape) o.dark b) (map (laid v) os)) (hv ∙ sym hw)
      ∙ through v w os (cond (in_window w c r && shape) o.dark b) hv hw

  -- a window that does not
  missed : (v : Window) (os : List LaidObject) (b : Bool) → in_window v c r ≡ false → leaves f c r b (map (laid v) os) ≡ b
  missed v [] b h = refl
  missed v (o ∷ os) b h =
      ap (λ t. leaves f c r (cond (t && covers_point o.outline (centre_x f c) (centre_y f r)) o.dark b) (map (laid v) os)) h ∙ missed v os b h

-- what a whole plot makes of the pixel
abbrev plotted : Frame → Slots → List ℕ → ℕ → ℕ → Bool → Bool
plotted f s xs c r b = leaves f c r b (plot_coverings f s (entire f) xs)

module _ (f : Frame) (s : Slots) (fits : window_on f (entire f) ≡ true) (xs : List ℕ) (c r : ℕ) (here : on f c r ≡ true) where
  holding : (t : Slots) (v : Window) (ys : List ℕ) (b : Bool) → t ≡ s → ys ≡ xs → Accepted f t v ys → in_window v c r ≡ true → leaves f c r b (plot_coverings f t v ys) ≡ plotted f s xs c r b
  holding t v ys b es ex ok h =
      ap (λ o. leaves f c r b (map (laid v) (lay_list o))) (tile_verdict f s t v xs ys fits es ex ok)
      ∙ through f c r v (entire f) (lay_list (verdict f s (entire f) xs)) b h (entire_holds f c r here)

  -- a call leaves the pixel, or does what the whole plot does
  abbrev Effect : Call → Type 0
  Effect q = ((b : Bool) → leaves f c r b (lays f q) ≡ b) ⊎ ((b : Bool) → leaves f c r b (lays f q) ≡ plotted f s xs c r b)

  none : (t : Slots) (v : Window) (ys : List ℕ) → RefusedPlot f t v ys → (b : Bool) → leaves f c r b (plot_coverings f t v ys) ≡ b
  none t v ys h b = ap (λ os. leaves f c r b (map (laid v) os)) (none_by (verdict f t v ys).books (verdict f t v ys).refusal h)

  window_effect : (t : Slots) (v : Window) (ys : List ℕ) → t ≡ s → ys ≡ xs → (k h : Bool) → accepts (verdict f t v ys) ≡ k → in_window v c r ≡ h → Effect (part t v ys)
  window_effect t v ys es ex false h ok holds = inl (none t v ys ok)
  window_effect t v ys es ex true true ok holds = inr (λ b. holding t v ys b es ex ok holds)
  window_effect t v ys es ex true false ok holds = inl (λ b. missed f c r v (lay_list (verdict f t v ys)) b holds)

  effect : (q : Call) → Tile f s xs q → Effect q
  effect (whole t ys) h = inl (none t (entire f) ys h)
  effect (part t v ys) (inl e) = window_effect t v ys e.0 e.1 (accepts (verdict f t v ys)) (in_window v c r) refl refl
  effect (part t v ys) (inr h) = inl (none t v ys h)
  effect clear h = absurd h
  effect (look x y) h = inl (λ b. refl)

  held : (q : Call) (b : Bool) → Holds f s xs c r q → leaves f c r b (lays f q) ≡ plotted f s xs c r b
  held (whole t ys) b h = absurd h
  held (part t v ys) b h = holding t v ys b h.0 h.1 h.2 h.3
  held clear b h = absurd h
  held (look x y) b h = absurd h

  -- where the whole plot would change nothing, no tile does
  kept_by : (q : Call) (rest : List Covering) (b : Bool) → Effect q → plotted f s xs c r b ≡ b → leaves f c r b rest ≡ b → leaves f c r b (lays f q ++ rest) ≡ b
  kept_by q rest b (inl e) fix ih = leaves_append f c r b (lays f q) rest ∙ ap (λ v. leaves f c r v rest) (e b) ∙ ih
  kept_by q rest b (inr e) fix ih = leaves_append f c r b (lays f q) rest ∙ ap (λ v. leaves f c r v rest) (e b ∙ fix) ∙ ih

  kept : (qs : List Call) → Each (Tile f s xs) qs → (b : Bool) → plotted f s xs c r b ≡ b → leaves f c r b (past f qs) ≡ b
  kept [] h b fix = refl
  kept (q ∷ qs) h b fix = kept_by q (past f qs) b (effect q h.0) fix (kept qs h.1 b fix)

  twice : (b : Bool) → plotted f s xs c r (plotted f s xs c r b) ≡ plotted f s xs c r b
  twice b = leaves_again f c r (plot_coverings f s (entire f) xs) b

  later_by : (q : Call) (rest : List Covering) (b : Bool) → Effect q → ((d : Bool) → leaves f c r d rest ≡ plotted f s xs c r d) → leaves f c r b (lays f q ++ rest) ≡ plotted f s xs c r b
  later_by q rest b (inl e) ih = leaves_append f c r b (lays f q) rest ∙ ap (λ v. leaves f c r v rest) (e b) ∙ ih b
  later_by q rest b (inr e) ih = leaves_append f c r b (lays f q) rest ∙ ap (λ v. leaves f c r v rest) (e b) ∙ ih (plotted f s xs c r b) ∙ twice b

  tiled : (qs : List Call) → Each (Tile f s xs) qs → SomeOne (Holds f s xs c r) qs → (b : Bool) → leaves f c r b (past f qs) ≡ plotted f s xs c r b
  tiled [] h k b = absurd k
  tiled (q ∷ qs) h (inl k) b =
      leaves_append f c r b (lays f q) (past f qs) ∙ ap (λ v. leaves f c r v (past f qs)) (held q b k) ∙ kept qs h.1 (plotted f s xs c r b) (twice b)
  tiled (q ∷ qs) h (inr k) b = later_by q (past f qs) b (effect q h.0) (tiled qs h.1 k)

-- the coverings xs and ys leave every pixel alike, whatever it was
abbrev Same : Frame → List Covering → List Covering → Type 0
Same f xs ys = (c r : ℕ) → on f c r ≡ true → (b : Bool) → leaves f c r b xs ≡ leaves f c r b ys

tiles_same : (f : Frame) (s : Slots) → window_on f (entire f) ≡ true → (xs : List ℕ) (qs : List Call) → Tiling f s xs qs → Same f (past f qs) (lays f (whole s xs))
tiles_same f s fits xs qs t c r here b = tiled f s fits xs c r here qs t.only (t.every c r here) b

same_after : (f : Frame) (cs xs ys : List Covering) → Same f xs ys → Same f (cs ++ xs) (cs ++ ys)
same_after f cs xs ys h c r here b = leaves_append f c r b cs xs ∙ h c r here (leaves f c r b cs) ∙ sym (leaves_append f c r b cs ys)

same_before : (f : Frame) (ds xs ys : List Covering) → Same f xs ys → Same f (xs ++ ds) (ys ++ ds)
same_before f ds xs ys h c r here b = leaves_append f c r b xs ds ∙ ap (λ v. leaves f c r v ds) (h c r here b) ∙ sym (leaves_append f c r b ys ds)

same_answer : (m : Meaning) (xs ys : List Covering) (q : Call) (a : Said) → Same m.frame xs ys → Answers m xs q a → Answers m ys q a
same_answer m xs ys (whole s f) a e h = h
same_answer m xs ys (part s v f) a e h = h
same_answer m xs ys clear a e h = h
same_answer m xs ys (look c r) a e h = (
  λ here.
      let k = h.0 here in
      let is = leaves_left m.frame c r (m.pixel c r) xs k.0 k.1.1 ∙ e c r here (m.pixel c r) in
      (k.0, (k.1.0, subst (Left m.frame c r (m.pixel c r) ys) (sym is) (left_leaves m.frame c r (m.pixel c r) ys))),
  h.1,
)

same_answers : (m : Meaning) (xs ys : List Covering) (qs : List Call) (rs : List Said) → Same m.frame xs ys → AllAnswered m xs qs rs → AllAnswered m ys qs rs
same_answers m xs ys [] [] e h = tt
same_answers m xs ys [] (r ∷ rs) e h = absurd h
same_answers m xs ys (q ∷ qs) [] e h = absurd h
same_answers m xs ys (q ∷ qs) (r ∷ rs) e h =
    (same_answer m xs ys q r e h.0, same_answers m (xs ++ lays m.frame q) (ys ++ lays m.frame q) qs rs (same_before m.frame (lays m.frame q) xs ys e) h.1)

-- the answers past the first calls
skipped : (m : Meaning) (cs : List Covering) (pre post : List Call) (xs zs : List Said) → length xs ≡ length pre → AllAnswered m cs (pre ++ post) (xs ++ zs) → AllAnswered m (cs ++ past m.frame pre) post zs
skipped m cs [] post [] zs e h = subst (λ l. AllAnswered m l post zs) (sym (append-nil cs)) h
skipped m cs [] post (x ∷ xs) zs e h = absurd (omega arith)
skipped m cs (q ∷ pre) post [] zs e h = absurd (omega arith)
skipped m cs (q ∷ pre) post (x ∷ xs) zs e h =
    subst (λ l. AllAnswered m l post zs) (append_assoc cs (lays m.frame q) (past m.frame pre))
    (skipped m (cs ++ lays m.frame q) pre post xs zs (omega arith) h.1)

-- other calls and answers past the first
replaced : (m : Meaning) (cs : List Covering) (pre post post' : List Call) (xs zs zs' : List Said) → length xs ≡ length pre → AllAnswered m cs (pre ++ post) (xs ++ zs)
    → AllAnswered m (cs ++ past m.frame pre) post' zs' → AllAnswered m cs (pre ++ post') (xs ++ zs')
replaced m cs [] post post' [] zs zs' e h k = subst (λ l. AllAnswered m l post' zs') (append-nil cs) k
replaced m cs [] post post' (x ∷ xs) zs zs' e h k = absurd (omega arith)
replaced m cs (q ∷ pre) post post' [] zs zs' e h k = absurd (omega arith)
replaced m cs (q ∷ pre) post post' (x ∷ xs) zs zs' e h k = (
  h.0,
  replaced m (cs ++ lays m.frame q) pre post post' xs zs zs' (omega arith) h.1
      (subst (λ l. AllAnswered m l post' zs') (sym (append_assoc cs (lays m.frame q) (past m.frame pre))) k),
)

-- each window's answer is the whole plot's
one_says : (m : Meaning) (s : Slots) → window_on m.frame (entire m.frame) ≡ true → (cs : List Covering) (xs : List ℕ) (q : Call) (a : Said) → Answers m cs q a → WindowOf m.frame s xs q → a ≡ whole_said m.frame s xs
one_says m s fits cs xs (whole t ys) a h w = absurd w
one_says m s fits cs xs (part t v ys) a h w = h ∙ ap (λ o. said_by (numbers o)) (tile_verdict m.frame s t v xs ys fits w.0 w.1 w.2)
one_says m s fits cs xs clear a h w = absurd w
one_says m s fits cs xs (look c r) a h w = absurd w

all_say : (m : Meaning) (s : Slots) → window_on m.frame (entire m.frame) ≡ true → (cs : List Covering) (xs : List ℕ) (qs post : List Call) (ys zs : List Said) → length ys ≡ length qs → AllAnswered m cs (qs ++ post) (ys ++ zs)
    → AllSay m.frame s xs (whole_said m.frame s xs) qs ys
all_say m s fits cs xs [] post [] zs e h = tt
all_say m s fits cs xs [] post (y ∷ ys) zs e h = absurd (omega arith)
all_say m s fits cs xs (q ∷ qs) post [] zs e h = absurd (omega arith)
all_say m s fits cs xs (q ∷ qs) post (y ∷ ys) zs e h = (one_says m s fits cs xs q y h.0, all_say m s fits (cs ++ lays m.frame q) xs qs post ys zs (omega arith) h.1)

-- some window was accepted, so the file is
accepted_one : (f : Frame) (s : Slots) → window_on f (entire f) ≡ true → (xs : List ℕ) (c r : ℕ) (q : Call) → Holds f s xs c r q → Accepted f s (entire f) xs
accepted_one f s fits xs c r (whole t ys) h = absurd h
accepted_one f s fits xs c r (part t v ys) h = ap accepts (sym (tile_verdict f s t v xs ys fits h.0 h.1 h.2)) ∙ h.2
accepted_one f s fits xs c r clear h = absurd h
accepted_one f s fits xs c r (look x y) h = absurd h

accepted_some : (f : Frame) (s : Slots) → window_on f (entire f) ≡ true → (xs : List ℕ) (c r : ℕ) (qs : List Call) → SomeOne (Holds f s xs c r) qs → Accepted f s (entire f) xs
accepted_some f s fits xs c r [] h = absurd h
accepted_some f s fits xs c r (q ∷ qs) (inl h) = accepted_one f s fits xs c r q h
accepted_some f s fits xs c r (q ∷ qs) (inr h) = accepted_some f s fits xs c r qs h

overlaid_same : (before after : Meaning) (xs ys : List Covering) → Same before.frame xs ys → Overlaid before xs after → Overlaid before ys after
overlaid_same before after xs ys e p = record { framed = p.framed; pixels = λ c r h. p.pixels c r h ∙ e c r h (before.pixel c r) }

pub tiles_as_whole_lem : (before after : Meaning) → window_on before.frame (entire before.frame) ≡ true → (qs : List Call) (answers : List Said) → History before qs answers after → TilesAsWhole before qs answers after
tiles_as_whole_lem before after fits qs answers hist s xs pre tiles post xa xb xc eq ea lena lenb t =
    let f = before.frame in
    let said : AllAnswered before [] (pre ++ (tiles ++ post)) (xa ++ (xb ++ xc)) =
    subst (λ l. AllAnswered before [] (pre ++ (tiles ++ post)) l) ea (subst (λ l. AllAnswered before [] l answers) eq hist.answered) in
    let from_tiles : AllAnswered before (past f pre) (tiles ++ post) (xb ++ xc) = skipped before [] pre (tiles ++ post) xa (xb ++ xc) lena said in
    let same : Same f (past f tiles) (lays f (whole s xs)) = tiles_same f s fits xs tiles t in
    let from_post : AllAnswered before (past f pre ++ lays f (whole s xs)) post xc =
    same_answers before (past f pre ++ past f tiles) (past f pre ++ lays f (whole s xs)) post xc (same_after f (past f pre) (past f tiles) (lays f (whole s xs)) same)
    (skipped before (past f pre) tiles post xb xc lenb from_tiles) in
    let parts : past f qs ≡ past f pre ++ (past f tiles ++ past f post) =
    ap (past f) eq ∙ past_append f pre (tiles ++ post) ∙ ap (λ l. past f pre ++ l) (past_append f tiles post) in
    let around = same_after f (past f pre) (past f tiles ++ past f post) (lays f (whole s xs) ++ past f post) (same_before f (past f post) (past f tiles) (lays f (whole s xs)) same) in
    let overlaid = overlaid_same before after _ _ around (subst (λ l. Overlaid before l after) parts (shows_overlaid hist.shown)) in
    record {
      accepts = accepted_some f s fits xs 0 0 tiles (t.every 0 0 (corner f fits));
      instead = record {
        shown = overlaid_shows (subst (λ l. Overlaid before l after) (sym (past_append f pre (whole s xs ∷ post))) overlaid);
        answered = replaced before [] pre (tiles ++ post) (whole s xs ∷ post) xa (xb ++ xc) (whole_said f s xs ∷ xc) lena said (refl, from_post);
      };
      says = all_say before s fits (past f pre) xs tiles post xb xc lenb from_tiles;
    }

pub every_tiling : EveryTiling
every_tiling before after qs answers h = tiles_as_whole_lem before after (whole_fits before.frame h) qs answers
