-- A window's numbers keep the limits, and a span of the window is a span below.
use Rattle.std.proofs.Common.{◌≡◌, ℕ, ◌+◌, ◌-◌, ◌<◌, ◌≤◌, Bool, true, false, cond, not, ◌&&◌, eqb, ltb, leb, ◌∷◌, negsuc, ◌≤ℤ◌, Ok, Err, Result, sym, refl, ap, ◌∙◌, subst, arith}
use mathlib.Core.Path.{fun_ext}
use Rattle.std.proofs.lemmas.Nat.{mul-le}
use Rattle.std.proofs.lemmas.Bool.{and_parts, ltb-true}
use Rattle.std.proofs.lemmas.Int.{ints}
use Rattle.std.proofs.lemmas.Bool.Decides.{nat_tests}
use Rattle.film.specs.Frame.{Frame, Limits, in_limits, highest}
use Rattle.film.specs.Faults.{Told, call}
use Rattle.film.specs.Film.{Meaning, Beside, SpanWritten, span_on, in_span}
use Rattle.film.specs.Made.{window_on}
use Rattle.film.specs.declared.window.Window.{Window}
use Rattle.film.proofs.Limiting.{limits_of, narrow, short}
use Rattle.piles.specs.Piles.{cut_frame, cut, cut_out, fitted, whole, in_window, hidden, outside, beside_cut}
use Rattle.piles.specs.Cutting.{Fitted}
use Rattle.piles.proofs.Comparing.{on_of, same_centres}

-- a window's numbers keep the limits of the film's
pub cut_limits : (f : Frame) (v : Window) → Limits f → window_on f v ≡ true → Limits (cut_frame v f)
cut_limits f v l e =
    let o = on_of f v e in
    let p = same_centres v f e in
    let w = mul-le v.width f.pitch f.width f.pitch (omega arith) (omega arith) in
    let h = mul-le v.height f.pitch f.height f.pitch (omega arith) (omega arith) in
    record {
      wide = o.wide;
      tall = o.tall;
      least = l.least;
      most = l.most;
      even = l.even;
      across = omega (arith, w, l.across);
      down = omega (arith, h, l.down);
      columns = λ c k. let q = sym (p c 0 k o.tall).0 in let z = l.columns (v.x + c) (omega arith) in (rw q at z.0, rw q at z.1);
      rows = λ r k. let q = sym (p 0 r o.wide k).1 in let z = l.rows (v.y + r) (omega arith) in (rw q at z.0, rw q at z.1);
    }

-- an origin lies near the centres
pub origin_x : (f : Frame) → Limits f → (negsuc 30063 ≤ℤ f.ox) × (f.ox ≤ℤ highest)
origin_x f l = let z = l.columns 0 l.wide in (omega (arith, ints, z.0), omega (arith, ints, z.1))

pub origin_y : (f : Frame) → Limits f → (negsuc 30063 ≤ℤ f.oy) × (f.oy ≤ℤ highest)
origin_y f l =
    let e : f.height - 1 - (f.height - 1) ≡ 0 = omega arith in
    let z = l.rows (f.height - 1) (omega (arith, l.tall)) in
    let a = rw e at z.0 in let b = rw e at z.1 in
    (omega (arith, ints), omega (arith, ints))

pub fitted_on : (f : Frame) (v : Window) → in_limits f ≡ true → window_on f v ≡ true → Fitted f v v
fitted_on f v k e =
    let l = limits_of f k in
    let o = on_of f v e in
    record { is = ap (λ b. cond b v (whole f)) (sym e); on = e; right = o.right; bottom = o.bottom; narrow = narrow f l; short = short f l }

pub fitted_off : (f : Frame) (v : Window) → in_limits f ≡ true → window_on f v ≡ false → Fitted f v (whole f)
fitted_off f v k e =
    let l = limits_of f k in
    let a = l.wide in let b = l.tall in
    record { is = ap (λ b. cond b v (whole f)) (sym e); on = grind (arith, nat_tests); right = omega arith; bottom = omega arith; narrow = narrow f l; short = short f l }

-- a span of the window v, as a span below
pub record Below (m : Meaning) (u v : Window) (row first end : ℕ) (dark : Bool) (a : Result (Unit {0}) Told) (n : Meaning) : Type 0 where
  pub fit : Fitted m.frame u v
  pub down : row < v.height
  pub order : first ≤ end
  pub across : end ≤ v.width
  pub span : SpanWritten m (v.y + row) (v.x + first) (v.x + end) dark a n

cut_pixel : (W H x y w h row first end c r : ℕ) (dark b : Bool) → x + w ≤ W → y + h ≤ H → row < h → first ≤ end → end ≤ w
    → cond (ltb (y + row) H && leb (x + first) (x + end) && leb (x + end) W && (eqb (y + r) (y + row) && leb (x + first) (x + c) && ltb (x + c) (x + end))) dark b
    ≡ cond (ltb row h && leb first end && leb end w && (eqb r row && leb first c && ltb c end)) dark b
cut_pixel W H x y w h row first end c r dark b i j k l q = grind (arith, nat_tests)

cut_answer : (W H x y w h row first end : ℕ) → x + w ≤ W → y + h ≤ H → row < h → first ≤ end → end ≤ w
    → (ltb (y + row) H && leb (x + first) (x + end) && leb (x + end) W) ≡ (ltb row h && leb first end && leb end w)
cut_answer W H x y w h row first end i j k l q = grind (arith, nat_tests)

pub cut_span : (m n : Meaning) (u v : Window) (row first end : ℕ) (dark : Bool) (a : Result (Unit {0}) Told)
    → Below m u v row first end dark a n → SpanWritten (cut_out u m) row first end dark a (cut_out u n)
cut_span m n u v row first end dark a s =
    let t = s.fit in
    let e : fitted n.frame u ≡ v = ap (λ f. fitted f u) s.span.frame ∙ sym t.is in
    let P : Window → Window → Type 0 = λ i j. SpanWritten (cut i m) row first end dark a (cut j n) in
    let base : SpanWritten (cut v m) row first end dark a (cut v n) = record {
      answer = s.span.answer ∙ ap (λ b. cond b (Ok tt) (Err (call 4))) (cut_answer m.frame.width m.frame.height v.x v.y v.width v.height row first end t.right t.bottom s.down s.order s.across);
      frame = ap (cut_frame v) s.span.frame;
      pixels = λ c r x y. s.span.pixels (v.x + c) (v.y + r) (omega arith) (omega arith)
          ∙ cut_pixel m.frame.width m.frame.height v.x v.y v.width v.height row first end c r dark (m.pixel (v.x + c) (v.y + r)) t.right t.bottom s.down s.order s.across;
    } in
    subst (λ j. P (fitted m.frame u) j) (sym e) (subst (λ i. P i v) t.is base)

guarded : (g x y : Bool) → (g ≡ true → x ≡ y) → (g && x) ≡ (g && y)
guarded true x y h = h refl
guarded false x y h = refl

-- a pixel that is not shown in the window is none of the span's
unspanned : (x y w h row first end c r : ℕ) (on dark b : Bool) → row < h → end ≤ w
    → not (leb x c && ltb c (x + w) && leb y r && ltb r (y + h)) ≡ true
    → cond (on && (eqb r (y + row) && leb (x + first) c && ltb c (x + end))) dark b ≡ b
unspanned x y w h row first end c r on dark b k l e = grind (arith, nat_tests)

-- the span alters none of what the window does not show
pub outside_kept : (m n : Meaning) (u v : Window) (row first end : ℕ) (dark : Bool) (a : Result (Unit {0}) Told)
    → Below m u v row first end dark a n → outside u n ≡ outside u m
outside_kept m n u v row first end dark a s = fun_ext (λ c. fun_ext (λ r.
    ap (λ f. hidden u f c r && n.pixel c r) s.span.frame
    ∙ guarded (hidden u m.frame c r) (n.pixel c r) (m.pixel c r) (λ g.
    let p = and_parts (ltb c m.frame.width && ltb r m.frame.height) (not (in_window (fitted m.frame u) c r)) g in
    let q = and_parts (ltb c m.frame.width) (ltb r m.frame.height) p.0 in
    let o : not (in_window v c r) ≡ true = subst (λ w. not (in_window w c r) ≡ true) (sym s.fit.is) p.1 in
    s.span.pixels c r (ltb-true c m.frame.width q.0) (ltb-true r m.frame.height q.1)
    ∙ unspanned v.x v.y v.width v.height row first end c r (span_on m.frame (v.y + row) (v.x + first) (v.x + end)) dark (m.pixel c r) s.down s.across o)))

pub beside_kept : (u : Window) (m n : Meaning) (b d : Beside) → outside u n ≡ outside u m → d ≡ b → beside_cut u n d ≡ beside_cut u m b
beside_kept u m n b d e k = ap (λ p. record { memory = d.memory; pixels = p ∷ d.pixels }) e ∙ ap (beside_cut u m) k
