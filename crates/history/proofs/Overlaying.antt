-- The last covering, and one pass over the coverings.
use Rattle.std.proofs.Common.{◌≡◌, ℕ, ◌<◌, Bool, true, false, cond, ltb, ◌⊎◌, List, [], ◌∷◌, ◌++◌, map, sym, refl, ap, ◌∙◌, subst, inl, inr}
use Rattle.film.specs.Film.{Meaning}
use Rattle.film.specs.Frame.{Frame}
use Rattle.film.specs.declared.window.Window.{Window}
use Rattle.history.specs.Coverings.{Covering, Left, Never, Shows, covers, is_dark, laid, on}
use Rattle.laid.specs.Covered.{LaidOn, covers_pixel, shown_by}
use Rattle.laid.specs.Laid.{LaidObject}
use Rattle.std.proofs.lemmas.Bool.{and_parts, ltb-true}

-- a pixel that was `before`, once the coverings were laid one after another
abbrev pub leaves : Frame → ℕ → ℕ → Bool → List Covering → Bool
leaves f c r before [] = before
leaves f c r before (x ∷ xs) = leaves f c r (cond (covers f x c r) (is_dark x) before) xs

-- every pixel is as one pass over the coverings leaves it
pub record Overlaid (before : Meaning) (cs : List Covering) (after : Meaning) : Type 0 where
  pub framed : after.frame ≡ before.frame
  pub pixels : (c r : ℕ) → on before.frame c r ≡ true → after.pixel c r ≡ leaves before.frame c r (before.pixel c r) cs

module _ (f : Frame) (c r : ℕ) where
  pub leaves_append : (b : Bool) (xs ys : List Covering) → leaves f c r b (xs ++ ys) ≡ leaves f c r (leaves f c r b xs) ys
  leaves_append b [] ys = refl
  leaves_append b (x ∷ xs) ys = leaves_append (cond (covers f x c r) (is_dark x) b) xs ys

  pub leaves_never : (b : Bool) (cs : List Covering) → Never f c r cs → leaves f c r b cs ≡ b
  leaves_never b [] n = refl
  leaves_never b (x ∷ xs) n = ap (λ t. leaves f c r (cond t (is_dark x) b) xs) n.0 ∙ leaves_never b xs n.1

  left_cons : (b : Bool) (x : Covering) (xs : List Covering) (a t : Bool) → covers f x c r ≡ t → Left f c r (cond t (is_dark x) b) xs a → Left f c r b (x ∷ xs) a
  left_cons b x xs a t e (inl h) =
      let l = h.1.0 in
      inl (h.0, (record { earlier = x ∷ l.earlier; later = l.later; stands = ap (λ ys. x ∷ ys) l.stands; covered = l.covered; uncovered = l.uncovered }, h.1.1))
  left_cons b x xs a true e (inr h) = inl (x, (record { earlier = []; later = xs; stands = refl; covered = e; uncovered = h.0 }, h.1))
  left_cons b x xs a false e (inr h) = inr ((e, h.0), h.1)

  -- one pass leaves what the last covering left
  pub left_leaves : (b : Bool) (cs : List Covering) → Left f c r b cs (leaves f c r b cs)
  left_leaves b [] = inr (tt, refl)
  left_leaves b (x ∷ xs) = left_cons b x xs _ (covers f x c r) refl (left_leaves (cond (covers f x c r) (is_dark x) b) xs)

  pub leaves_left : (b : Bool) (cs : List Covering) (a : Bool) → Left f c r b cs a → a ≡ leaves f c r b cs
  leaves_left b cs a (inr h) = h.1 ∙ sym (leaves_never b cs h.0)
  leaves_left b cs a (inl h) =
      let x = h.0 in
      let l = h.1.0 in
      let front = leaves f c r b l.earlier in
      let there : leaves f c r b cs ≡ is_dark x =
      ap (leaves f c r b) l.stands ∙ leaves_append b l.earlier (x ∷ l.later)
      ∙ ap (λ t. leaves f c r (cond t (is_dark x) front) l.later) l.covered
      ∙ leaves_never (is_dark x) l.later l.uncovered in
      h.1.1 ∙ sym there

  -- one pass either does not look at the pixel's value, or leaves it
  abbrev EitherWay : List Covering → Type 0
  EitherWay cs = ((b d : Bool) → leaves f c r b cs ≡ leaves f c r d cs) ⊎ ((b : Bool) → leaves f c r b cs ≡ b)

  either_cons : (x : Covering) (xs : List Covering) (t : Bool) → covers f x c r ≡ t → EitherWay xs → EitherWay (x ∷ xs)
  either_cons x xs t e (inl h) = inl (λ b d. h _ _)
  either_cons x xs true e (inr h) = inl (λ b d. ap (λ t. leaves f c r (cond t (is_dark x) b) xs) e ∙ sym (ap (λ t. leaves f c r (cond t (is_dark x) d) xs) e))
  either_cons x xs false e (inr h) = inr (λ b. ap (λ t. leaves f c r (cond t (is_dark x) b) xs) e ∙ h b)

  either_way : (cs : List Covering) → EitherWay cs
  either_way [] = inr (λ b. refl)
  either_way (x ∷ xs) = either_cons x xs (covers f x c r) refl (either_way xs)

  again_by : (cs : List Covering) (b : Bool) → EitherWay cs → leaves f c r (leaves f c r b cs) cs ≡ leaves f c r b cs
  again_by cs b (inl h) = h _ _
  again_by cs b (inr h) = h _

  -- laying the same coverings twice is laying them once
  pub leaves_again : (cs : List Covering) (b : Bool) → leaves f c r (leaves f c r b cs) cs ≡ leaves f c r b cs
  leaves_again cs b = again_by cs b (either_way cs)

  -- laid objects are coverings
  leaves_laid : (v : Window) (os : List LaidObject) (b : Bool) → shown_by f v c r b os ≡ leaves f c r b (map (laid v) os)
  leaves_laid v [] b = refl
  leaves_laid v (o ∷ os) b = leaves_laid v os (cond (covers_pixel f v o c r) o.dark b)

pub shows_overlaid : {a b : Meaning} {cs : List Covering} → Shows a cs b → Overlaid a cs b
shows_overlaid {a} {b} {cs} s = record { framed = s.framed; pixels = λ c r h. leaves_left a.frame c r _ cs _ (s.pixels c r h) }

pub overlaid_shows : {a b : Meaning} {cs : List Covering} → Overlaid a cs b → Shows a cs b
overlaid_shows {a} {b} {cs} s =
    record {
      framed = s.framed;
      pixels = λ c r h. subst (Left a.frame c r (a.pixel c r) cs) (sym (s.pixels c r h)) (left_leaves a.frame c r (a.pixel c r) cs);
    }

pub overlaid_none : (a : Meaning) → Overlaid a [] a
overlaid_none a = record { framed = refl; pixels = λ c r h. refl }

-- from a to b, and on from there
pub overlaid_then : {a b d : Meaning} {xs ys : List Covering} → Overlaid a xs b → Overlaid b ys d → Overlaid a (xs ++ ys) d
overlaid_then {a} {b} {d} {xs} {ys} p q =
    record {
      framed = q.framed ∙ p.framed;
      pixels = λ c r h.
          q.pixels c r (ap (λ f. on f c r) p.framed ∙ h)
          ∙ ap (λ f. leaves f c r (b.pixel c r) ys) p.framed
          ∙ ap (λ v. leaves a.frame c r v ys) (p.pixels c r h)
          ∙ sym (leaves_append a.frame c r (a.pixel c r) xs ys);
    }

-- a pixel on the film, in numbers
pub record OnFilm (f : Frame) (c r : ℕ) : Type 0 where
  pub across : c < f.width
  pub down : r < f.height

pub on_film : (f : Frame) (c r : ℕ) → on f c r ≡ true → OnFilm f c r
on_film f c r h =
    let parts = and_parts (ltb c f.width) (ltb r f.height) h in
    record { across = ltb-true c f.width parts.0; down = ltb-true r f.height parts.1 }

-- what laying objects within a window shows
pub laid_shows : {a b : Meaning} {v : Window} {os : List LaidObject} → LaidOn a v os b → Shows a (map (laid v) os) b
laid_shows {a} {b} {v} {os} l =
    overlaid_shows (record {
      framed = l.frame;
      pixels = λ c r h.
          let here = on_film a.frame c r h in
          l.pixels c r here.across here.down ∙ leaves_laid a.frame c r v os (a.pixel c r);
    })
