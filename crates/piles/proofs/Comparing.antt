-- The laws of piles.
use Rattle.std.proofs.Common.{◌≡◌, ℕ, ◌+◌, ◌-◌, ◌*◌, ◌/◌, ◌≤◌, true, ℤ, pos, ◌+ℤ◌, sym, refl, ap, ◌∙◌, add_assoc, mul-add, arith}
use Rattle.std.proofs.lemmas.Int.{ints}
use Rattle.std.proofs.lemmas.Bool.Decides.{nat_tests}
use Rattle.film.specs.Frame.{Frame, framed}
use Rattle.film.specs.Made.{window_on}
use Rattle.film.specs.declared.window.Window.{Window}
use Rattle.piles.specs.Piles.{cut, cut_frame}
use Rattle.piles.specs.Laws.{MirrorTwice, NegativeTwice, Exchange, CutTwice, SameCentres, joined}

-- what a window on a film keeps to
pub record On (f : Frame) (v : Window) : Type 0 where
  pub wide : 1 ≤ v.width
  pub tall : 1 ≤ v.height
  pub right : v.x + v.width ≤ f.width
  pub bottom : v.y + v.height ≤ f.height

pub on_of : (f : Frame) (v : Window) → window_on f v ≡ true → On f v
on_of f v e = record { wide = grind (arith, nat_tests); tall = grind (arith, nat_tests); right = grind (arith, nat_tests); bottom = grind (arith, nat_tests) }

pub on_from : (f : Frame) (v : Window) → On f v → window_on f v ≡ true
on_from f v o = grind (arith, nat_tests)

-- two shifts of the origin are one
shifts : (o : ℤ) (p a b d : ℕ) → a + b ≡ d → (o +ℤ pos (p * a)) +ℤ pos (p * b) ≡ o +ℤ pos (p * d)
shifts o p a b d e = let q : p * d ≡ p * a + p * b = ap (λ n. p * n) (sym e) ∙ mul-add p a b in omega (arith, ints)

-- a centre from a shifted origin
shifted_centre : (o : ℤ) (p a b d h : ℕ) → a + b ≡ d → (o +ℤ pos (p * a)) +ℤ pos (p * b + h) ≡ o +ℤ pos (p * d + h)
shifted_centre o p a b d h e = let q : p * d ≡ p * a + p * b = ap (λ n. p * n) (sym e) ∙ mul-add p a b in omega (arith, ints)

pub cut_twice : CutTwice
cut_twice u v m a b =
    let p = on_of m.frame u a in
    let q = on_of (cut_frame u m.frame) v b in (
      on_from m.frame (joined u v) (record { wide = q.wide; tall = q.tall; right = omega arith; bottom = omega arith }),
      record {
        frame =
            let x = shifts m.frame.ox m.frame.pitch u.x v.x (u.x + v.x) refl in
            let y = shifts m.frame.oy m.frame.pitch (m.frame.height - u.y - u.height) (u.height - v.y - v.height) (m.frame.height - (u.y + v.y) - v.height) (omega arith) in
            ap (λ o. framed v.width v.height m.frame.pitch o (cut v (cut u m)).frame.oy) x
            ∙ ap (λ o. framed v.width v.height m.frame.pitch (cut (joined u v) m).frame.ox o) y;
        pixels = λ c r h k. ap (λ x. m.pixel x (u.y + (v.y + r))) (sym (add_assoc u.x v.x c)) ∙ ap (λ y. m.pixel (u.x + v.x + c) y) (sym (add_assoc u.y v.y r));
      },
    )

pub same_centres : SameCentres
same_centres v f e c r h k = let o = on_of f v e in (
  shifted_centre f.ox f.pitch v.x c (v.x + c) (f.pitch / 2) refl,
  shifted_centre f.oy f.pitch (f.height - v.y - v.height) (v.height - 1 - r) (f.height - 1 - (v.y + r)) (f.pitch / 2) (omega arith),
)
