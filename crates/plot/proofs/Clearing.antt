-- Rows made clear, one after another.
use Rattle.std.proofs.Common.{◌≡◌, ℕ, ◌+◌, ◌<◌, ◌≤◌, Bool, false, cond, ◌&&◌, ltb, [], ◌∷◌, Result, sym, refl, ap, ◌∙◌, subst, arith}
use Rattle.film.specs.Faults.{Told}
use Rattle.film.specs.Film.{Meaning, SpanWritten, in_span, span_on}
use Rattle.film.specs.Frame.{Frame}
use Rattle.film.specs.declared.span.Span.{Span}
use Rattle.history.proofs.Overlaying.{on_film, overlaid_shows}
use Rattle.history.specs.Coverings.{Shows, blanking}
use Rattle.std.proofs.lemmas.Bool.Decides.{nat_tests}

-- the first `row` rows are clear, all others as they were
pub record Cleared (before : Meaning) (row : ℕ) (after : Meaning) : Type 0 where
  pub framed : after.frame ≡ before.frame
  pub pixels : (c r : ℕ) → c < before.frame.width → r < before.frame.height → after.pixel c r ≡ cond (ltb r row) false (before.pixel c r)

pub cleared_none : (m : Meaning) → Cleared m 0 m
cleared_none m = record { framed = refl; pixels = λ c r i j. grind (arith, nat_tests) }

one_row : (f : Frame) (row c r : ℕ) (b : Bool) → row < f.height → c < f.width
    → cond (span_on f row 0 f.width && in_span row 0 f.width c r) false (cond (ltb r row) false b) ≡ cond (ltb r (row + 1)) false b
one_row f row c r b low i = grind (arith, nat_tests)

pub cleared_more : {before mid after : Meaning} {row : ℕ} {s : Span} {a : Result (Unit {0}) Told} (n : Frame) → n ≡ before.frame → Cleared before row mid → row < n.height
    → (s.row ≡ row) × ((s.first ≡ 0) × (s.end ≡ n.width)) → SpanWritten mid s.row s.first s.end false a after → Cleared before (row + 1) after
cleared_more {before} {mid} {after} {row} {s} n e p low whole w =
    record {
      framed = w.frame ∙ p.framed;
      pixels = λ c r i j.
          w.pixels c r (subst (λ f. c < f.width) (sym p.framed) i) (subst (λ f. r < f.height) (sym p.framed) j)
          ∙ (λ k. cond (span_on (p.framed k) (whole.0 k) (whole.1.0 k) (whole.1.1 k) && in_span (whole.0 k) (whole.1.0 k) (whole.1.1 k) c r) false (mid.pixel c r))
          ∙ ap (λ f. cond (span_on f row 0 n.width && in_span row 0 n.width c r) false (mid.pixel c r)) (sym e)
          ∙ ap (λ b. cond (span_on n row 0 n.width && in_span row 0 n.width c r) false b) (p.pixels c r i j)
          ∙ one_row n row c r (before.pixel c r) low (subst (λ f. c < f.width) (sym e) i);
    }

cleared : (row r : ℕ) (b : Bool) → r < row → cond (ltb r row) false b ≡ false
cleared row r b h = grind (arith, nat_tests)

-- all rows
pub cleared_all : {before after : Meaning} {row : ℕ} (n : Frame) → n ≡ before.frame → Cleared before row after → n.height ≤ row → Shows before (blanking ∷ []) after
cleared_all {before} {after} {row} n e p done =
    overlaid_shows (record {
      framed = p.framed;
      pixels = λ c r h.
          let here = on_film before.frame c r h in
          let low : r < n.height = subst (λ f. r < f.height) (sym e) here.down in
          p.pixels c r here.across here.down ∙ cleared row r (before.pixel c r) (omega arith);
    })
