-- One bar and one row more.
use Rattle.std.proofs.Common.{◌≡◌, ℕ, ◌+◌, ◌<◌, ◌≤◌, Bool, true, false, cond, ◌&&◌, ◌||◌, eqb, ltb, leb, sym, refl, ap, ◌∙◌, ⊎_elim, arith}
use Rattle.std.proofs.lemmas.Bool.{eq-eqb, ne_eqb, cases_eq}
use Rattle.std.proofs.lemmas.Bool.Decides.{nat_tests}
use Rattle.film.specs.Film.{Meaning}
use Rattle.testcard.specs.Card.{card_pixel}
use Rattle.testcard.specs.Drawn.{Covers, RowShows, Marked}

either_way : (in_row p q old : Bool) → (in_row && q) || cond in_row p old ≡ cond in_row (p || q) old
either_way true true true old = refl
either_way true true false old = refl
either_way true false true old = refl
either_way true false false old = refl
either_way false p q old = refl

-- a row that shows p, with a bar of q marked on it, shows both
pub mark_more : {w : ℕ} {m n o : Meaning} {row at first end : ℕ} {p q : ℕ → Bool} → RowShows m row p n → w ≡ m.frame.width → at ≡ row → Covers w first end q
    → Marked n at first end o → RowShows m row (λ c. p c || q c) o
mark_more {m = m} {n = n} {row = row} {at = at} {p = p} {q = q} s e i b k = record {
  frame = k.frame ∙ s.frame;
  pixels = λ c r hc hr.
      let wide = ap (λ f. f.width) s.frame in
      let tall = ap (λ f. f.height) s.frame in
      k.pixels c r (omega arith) (omega arith)
      ∙ ap (λ v. (eqb r at && v) || n.pixel c r) (b.same c (omega arith))
      ∙ ap (λ y. (eqb r y && q c) || n.pixel c r) i
      ∙ ap (λ v. (eqb r row && q c) || v) (s.pixels c r hc hr)
      ∙ either_way (eqb r row) (p c) (q c) (m.pixel c r);
}

-- the rows from `first` to `row` are drawn, and all else is as it was
pub record Between (m : Meaning) (first row : ℕ) (n : Meaning) : Type 0 where
  pub frame : n.frame ≡ m.frame
  pub pixels : (c r : ℕ) → c < m.frame.width → r < m.frame.height
      → n.pixel c r ≡ cond (leb first r && ltb r row) (card_pixel m.frame.width m.frame.height c r) (m.pixel c r)

pub between_more : {m n o : Meaning} {first row w h : ℕ} → first ≤ row → Between m first row n → w ≡ m.frame.width → h ≡ m.frame.height
    → RowShows n row (λ c. card_pixel w h c row) o → Between m first (row + 1) o
between_more {m = m} {n = n} {first = first} {row = row} {w = w} {h = h} le a ew eh s = record {
  frame = s.frame ∙ a.frame;
  pixels = λ c r hc hr.
      let wide = ap (λ f. f.width) a.frame in
      let tall = ap (λ f. f.height) a.frame in
      let card = card_pixel m.frame.width m.frame.height c r in
      let now = s.pixels c r (omega arith) (omega arith) in
      ⊎_elim
      (λ (e : r ≡ row).
      let on : (leb first r && ltb r (row + 1)) ≡ true = grind (arith, nat_tests) in
      now ∙ ap (λ v. cond v (card_pixel w h c row) (n.pixel c r)) (eq-eqb r row e)
      ∙ ap (λ k. card_pixel w h c k) (sym e) ∙ ap (λ k. card_pixel k h c r) ew ∙ ap (λ k. card_pixel m.frame.width k c r) eh
      ∙ sym (ap (λ v. cond v card (m.pixel c r)) on))
      (λ (d : r ≡ row → ⊥).
      let same : (leb first r && ltb r row) ≡ (leb first r && ltb r (row + 1)) = grind (arith, nat_tests, d) in
      now ∙ ap (λ v. cond v (card_pixel w h c row) (n.pixel c r)) (ne_eqb r row d) ∙ a.pixels c r hc hr
      ∙ ap (λ v. cond v card (m.pixel c r)) same)
      (cases_eq r row);
}
