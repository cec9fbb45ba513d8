-- what laying leaves, one thing after another
use Rattle.std.proofs.Common.{◌≡◌, ℕ, ◌<◌, Bool, true, false, cond, ◌&&◌, List, [], ◌∷◌, ◌++◌, ℤ, sym, refl, ap, ◌∙◌, subst}
use Rattle.film.specs.Frame.{Frame, centre_x, centre_y}
use Rattle.film.specs.declared.window.Window.{Window}
use Rattle.laid.specs.Covered.{covers_pixel, covers_point, shown_by}
use Rattle.laid.specs.Laid.{LaidObject, LaidOutline}
use Rattle.laying.specs.Lays.{Lays, single}
use Rattle.paint.specs.Painted.{centre_covered, in_window}
use Rattle.paint.specs.Panes.{PaneSeen, Repainted}

shown_append : (f : Frame) (v : Window) (c r : ℕ) (before : Bool) (os ps : List LaidObject) → shown_by f v c r before (os ++ ps) ≡ shown_by f v c r (shown_by f v c r before os) ps
shown_append f v c r before [] ps = refl
shown_append f v c r before (o ∷ os) ps = shown_append f v c r (cond (covers_pixel f v o c r) o.dark before) os ps

-- nothing is laid
pub lays_none : (p : PaneSeen) → Lays p [] p
lays_none p = record { laid = record { frame = refl; pixels = λ c r i j. refl }; beside = refl; window = refl; film = refl }

-- these, and then those
pub lays_after : {p l q : PaneSeen} {os ps : List LaidObject} → Lays p os l → Lays l ps q → Lays p (os ++ ps) q
lays_after {p} {l} {q} {os} {ps} a b =
    record {
      laid = record {
        frame = b.laid.frame ∙ a.laid.frame;
        pixels = λ k r i j.
            let m = p.meaning in
            let i2 : k < l.meaning.frame.width = subst (λ (f : Frame). k < f.width) (sym a.laid.frame) i in
            let j2 : r < l.meaning.frame.height = subst (λ (f : Frame). r < f.height) (sym a.laid.frame) j in
            b.laid.pixels k r i2 j2
            ∙ ap (λ (f : Frame). shown_by f l.window k r (l.meaning.pixel k r) ps) a.laid.frame
            ∙ ap (λ (v : Window). shown_by m.frame v k r (l.meaning.pixel k r) ps) a.window
            ∙ ap (λ (t : Bool). shown_by m.frame p.window k r t ps) (a.laid.pixels k r i j)
            ∙ sym (shown_append m.frame p.window k r (m.pixel k r) os ps);
      };
      beside = b.beside ∙ a.beside;
      window = b.window ∙ a.window;
      film = b.film ∙ a.film;
    }

-- the same list under another name
pub lays_same : {p q : PaneSeen} {os ps : List LaidObject} → os ≡ ps → Lays p os q → Lays p ps q
lays_same {p} {q} e h = subst (λ (os : List LaidObject). Lays p os q) e h

-- a shape is painted
pub painted_lays : {p q : PaneSeen} {covered : ℤ → ℤ → Bool} {dark : Bool} (o : LaidOutline) → ((x y : ℤ) → covered x y ≡ covers_point o x y)
    → Repainted p (λ c r. in_window p.window c r && centre_covered p.meaning covered c r) dark q → Lays p (single dark o) q
painted_lays {p} {q} {covered} {dark} o e h =
    let m = p.meaning in
    record {
      laid = record {
        frame = h.painted.frame;
        pixels = λ k r i j. h.painted.pixels k r i j ∙ ap (λ (t : Bool). cond (in_window p.window k r && t) dark (m.pixel k r)) (e (centre_x m.frame k) (centre_y m.frame r));
      };
      beside = h.beside;
      window = h.window;
      film = h.film;
    }

-- an object that covers nothing
pub unseen_lays : (p : PaneSeen) (dark : Bool) (o : LaidOutline) → ((x y : ℤ) → covers_point o x y ≡ false) → Lays p (single dark o) p
unseen_lays p dark o e =
    let m = p.meaning in
    record {
      laid = record {
        frame = refl;
        pixels = λ k r i j.
            sym (ap (λ (t : Bool). cond (in_window p.window k r && t) dark (m.pixel k r)) (e (centre_x m.frame k) (centre_y m.frame r)) ∙ never (in_window p.window k r) dark (m.pixel k r));
      };
      beside = refl;
      window = refl;
      film = refl;
    }
  where
    never : (t d p : Bool) → cond (t && false) d p ≡ p
    never true d p = refl
    never false d p = refl

-- what is laid from l on completes what is laid from p on
abbrev pub Leads : PaneSeen → List LaidObject → PaneSeen → List LaidObject → Type 0
Leads p os l ps = (q : PaneSeen) → Lays l ps q → Lays p os q

pub leads_more : {p l k : PaneSeen} {os ps qs rs : List LaidObject} → Leads p os l ps → ps ≡ qs ++ rs → Lays l qs k → Leads p os k rs
leads_more f e h q r = f q (lays_same (sym e) (lays_after h r))

pub leads_end : {p q : PaneSeen} {os ps : List LaidObject} → Leads p os q ps → ps ≡ [] → Lays p os q
leads_end {q = q} f e = f q (lays_same (sym e) (lays_none q))
