use Rattle.std.proofs.Common.{◌≡◌, ℕ, ◌+◌, ◌-◌, ◌<◌, ◌≤◌, min, Bool, true, false, cond, ◌&&◌, ℤ, sym, refl, ap, ◌∙◌, subst, arith}
use Rattle.film.specs.Film.{in_span}
use Rattle.film.specs.Frame.{Frame, centre_x, centre_y}
use Rattle.film.specs.Made.{window_on}
use Rattle.film.specs.declared.window.Window.{Window}
use Rattle.paint.specs.Painted.{Clipped, centre_covered, in_area, in_window}
use Rattle.paint.specs.Panes.{PaneSeen, Repainted, on_film}
use Rattle.paint.specs.declared.area.Area.{Area}
use Rattle.plane.specs.declared.points.Bounds.{Bounds}
use Rattle.shapes.specs.Box.{Encloses}
use Rattle.std.proofs.lemmas.Bool.Decides.{nat_tests}

-- what one painting and then another leave
module _ (m l n : PaneSeen) (p q s : ℕ → ℕ → Bool) (d : Bool) where
  pub repainted_after : Repainted m p d l → Repainted l q d n
      → ((c r : ℕ) → cond (q c r) d (cond (p c r) d (m.meaning.pixel c r)) ≡ cond (s c r) d (m.meaning.pixel c r)) → Repainted m s d n
  repainted_after a b h =
      record {
        painted = record {
          frame = b.painted.frame ∙ a.painted.frame;
          pixels = λ c r i j.
              let i' : c < l.meaning.frame.width = rw a.painted.frame i in
              let j' : r < l.meaning.frame.height = rw a.painted.frame j in
              b.painted.pixels c r i' j' ∙ ap (λ z. cond (q c r) d z) (a.painted.pixels c r i j) ∙ h c r;
        };
        beside = b.beside ∙ a.beside;
        window = b.window ∙ a.window;
        film = b.film ∙ a.film;
      }

-- the same pixels under another test
pub repainted_same : (m n : PaneSeen) (p q : ℕ → ℕ → Bool) (d : Bool) → Repainted m p d n → ((c r : ℕ) → p c r ≡ q c r) → Repainted m q d n
repainted_same m n p q d a h =
    record {
      painted = record { frame = a.painted.frame; pixels = λ c r i j. a.painted.pixels c r i j ∙ ap (λ b. cond b d (m.meaning.pixel c r)) (h c r) };
      beside = a.beside;
      window = a.window;
      film = a.film;
    }

-- nothing painted
pub repainted_none : (m : PaneSeen) (p : ℕ → ℕ → Bool) (d : Bool) → ((c r : ℕ) → p c r ≡ false) → Repainted m p d m
repainted_none m p d h =
    record { painted = record { frame = refl; pixels = λ c r i j. rw (h c r) }; beside = refl; window = refl; film = refl }

module _ (cov : ℕ → ℕ → Bool) (row : ℕ) (d : Bool) (m : PaneSeen) where
  -- no column yet
  pub row_none : (first : ℕ) → Repainted m (λ c r. in_span row first first c r && cov c r) d m
  row_none first = repainted_none m _ d (λ c r. grind (arith, nat_tests))

  -- the columns up to start are right, those from start to col are all covered and now written
  pub row_join : (first start col : ℕ) (l n : PaneSeen) → first ≤ start → start ≤ col → Repainted m (λ c r. in_span row first start c r && cov c r) d l → ((k : ℕ) → start ≤ k → k < col → cov k row ≡ true) → Repainted l (in_span row start col) d n → Repainted m (λ c r. in_span row first col c r && cov c r) d n
  row_join first start col l n a b p h w = repainted_after m l n (λ c r. in_span row first start c r && cov c r) (in_span row start col) (λ c r. in_span row first col c r && cov c r) d p w (λ c r. let k = h c in grind (arith, nat_tests))

  -- one column more that is not covered
  pub row_skip : (first col : ℕ) (n : PaneSeen) → first ≤ col → Repainted m (λ c r. in_span row first col c r && cov c r) d n → cov col row ≡ false → Repainted m (λ c r. in_span row first (col + 1) c r && cov c r) d n
  row_skip first col n a p h = repainted_same m n _ _ d p (λ c r. grind (arith, nat_tests))

module _ (cov : ℕ → ℕ → Bool) (first end : ℕ) (d : Bool) (m : PaneSeen) where
  -- no row yet
  pub rows_none : (top : ℕ) → Repainted m (λ c r. in_area first end top top c r && cov c r) d m
  rows_none top = repainted_none m _ d (λ c r. grind (arith, nat_tests))

  -- one row more
  pub rows_more : (top row : ℕ) (l n : PaneSeen) → top ≤ row → Repainted m (λ c r. in_area first end top row c r && cov c r) d l → Repainted l (λ c r. in_span row first end c r && cov c r) d n → Repainted m (λ c r. in_area first end top (row + 1) c r && cov c r) d n
  rows_more top row l n a p w = repainted_after m l n (λ c r. in_area first end top row c r && cov c r) (λ c r. in_span row first end c r && cov c r) (λ c r. in_area first end top (row + 1) c r && cov c r) d p w (λ c r. grind (arith, nat_tests))

-- the centre of a pixel is covered, by the numbers that the film tells
pub covered_by : (f g : Frame) (covered : ℤ → ℤ → Bool) (c r : ℕ) {x y : ℤ} {b : Bool} → f ≡ g → x ≡ centre_x f c → y ≡ centre_y f r → b ≡ covered x y → covered (centre_x g c) (centre_y g r) ≡ b
covered_by f g covered c r {b = b} e x y is =
    subst (λ h. covered (centre_x h c) (centre_y h r) ≡ b) e (sym (λ i. covered (x i) (y i)) ∙ sym is)

-- all of a window that is on the film
pub on_film_same : (f : Frame) (v : Window) → window_on f v ≡ true → on_film f v ≡ v
on_film_same f v h =
    let across : v.x + v.width ≤ f.width = grind (arith, nat_tests) in
    let down : v.y + v.height ≤ f.height = grind (arith, nat_tests) in
    let x : min v.x f.width ≡ v.x = omega arith in
    let y : min v.y f.height ≡ v.y = omega arith in
    let width : min v.width (f.width - min v.x f.width) ≡ v.width = omega arith in
    let height : min v.height (f.height - min v.y f.height) ≡ v.height = omega arith in
    λ i. record { x = x i; y = y i; width = width i; height = height i }

-- an area within a window that holds a pixel wherever the window does
same_areas : (v : Window) (a : Area) (c r : ℕ) → v.x ≤ a.first → (a.first < a.end → a.end ≤ v.x + v.width) → v.y ≤ a.top → (a.top < a.foot → a.foot ≤ v.y + v.height)
    → (c < v.x + v.width → v.x ≤ c → r < v.y + v.height → v.y ≤ r → (a.first ≤ c) × (c < a.end) × (a.top ≤ r) × (r < a.foot))
    → (in_area a.first a.end a.top a.foot c r && true) ≡ (in_window v c r && true)
same_areas v a c r x e y f h = grind (arith, nat_tests)

-- what a box reaches of a window holds all that is covered there
pub clipped_same : (f : Frame) (v : Window) (b : Bounds) (a : Area) (covered : ℤ → ℤ → Bool) → Clipped f v b a → Encloses covered b
    → (c r : ℕ) → (in_area a.first a.end a.top a.foot c r && covered (centre_x f c) (centre_y f r)) ≡ (in_window v c r && covered (centre_x f c) (centre_y f r))
clipped_same f v b a covered k e c r =
    let go : (t : Bool) → covered (centre_x f c) (centre_y f r) ≡ t → (in_area a.first a.end a.top a.foot c r && t) ≡ (in_window v c r && t) =
    λ t. elim t as (λ t. covered (centre_x f c) (centre_y f r) ≡ t → (in_area a.first a.end a.top a.foot c r && t) ≡ (in_window v c r && t)) [
      | true ↦ (λ h. let i = e.inside (centre_x f c) (centre_y f r) h in let z = λ (p : c < v.x + v.width) (q : v.x ≤ c) (s : r < v.y + v.height) (u : v.y ≤ r). k.holds c r p q s u i in same_areas v a c r k.left k.right k.upper k.lower z)
      | false ↦ (λ h. grind (arith, nat_tests))
    ]
    in go (covered (centre_x f c) (centre_y f r)) refl

-- painting what a box reaches of a pane's window paints all that is covered there
pub reached : (p q : PaneSeen) (f : Frame) (b s : Bounds) (a : Area) (covered : ℤ → ℤ → Bool) (d : Bool) → f ≡ p.meaning.frame → b ≡ s → Encloses covered s → Clipped f p.window b a
    → Repainted p (λ c r. in_area a.first a.end a.top a.foot c r && centre_covered p.meaning covered c r) d q
    → Repainted p (λ c r. in_window p.window c r && centre_covered p.meaning covered c r) d q
reached p q f b s a covered d told is e k h =
    let here = subst (λ (f : Frame). Clipped f p.window b a) told k in
    let encloses = subst (Encloses covered) (sym is) e in
    repainted_same p q _ _ d h (clipped_same p.meaning.frame p.window b a covered here encloses)
