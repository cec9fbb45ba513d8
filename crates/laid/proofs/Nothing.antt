-- a block whose laid count is 0 lays nothing
use Rattle.std.proofs.Common.{◌≡◌, ℕ, zero, suc, ◌<◌, ◌≤◌, min, Bool, true, false, cond, not, ◌&&◌, ltb, List, [], ◌∷◌, ◌++◌, length, get_or, Some, None, sym, refl, ap, ◌∙◌, ⊎_elim, arith}
use Rattle.forms.specs.declared.Polarity.{Polarity}
use Rattle.laid.specs.Laid.{LaidObject, is_dark, lay_all, lay_block, lay_outline, objects_in}
use Rattle.laid.specs.Puts.{Put, composed, flashed_at}
use Rattle.plane.specs.Plane.{At}
use Rattle.records.proofs.All.{weight_stays, weights_length}
use Rattle.records.specs.Records as seen
use Rattle.records.specs.Records.{ApertureSeen, FigureSeen, ObjectSeen, OutlineSeen}
use Rattle.records.specs.Weights.{capped, figure_at, laid_by, laid_in, none, or_nothing, owned_from, weighed, weight_at, weight_told, weights}
use Rattle.records.specs.declared.weights.Weight.{Weight}
use Rattle.std.proofs.lemmas.List.{get_or_past, get_or_push}
use Rattle.std.proofs.lemmas.Bool.{cases_lt, ltb-true}
use Rattle.std.proofs.lemmas.Bool.Decides.{nat_tests}

module _ (pcs : List At) (inner : Put → Bool → ℕ → List LaidObject) (ws : List Weight) (n : ℕ)
    (less : (q : Put) (turn : Bool) (m : ℕ) → m < n → (get_or ws m none).laid ≡ 0 → inner q turn m ≡ []) (q : Put) (turn : Bool) where
  outline_nothing : (p : Polarity) (o : OutlineSeen) → laid_by ws o ≡ 0 → lay_outline pcs inner n q turn p o ≡ []
  outline_nothing p (seen.circle a h) z = absurd (omega arith)
  outline_nothing p (seen.rectangle a x y) z = absurd (omega arith)
  outline_nothing p (seen.obround a x y) z = absurd (omega arith)
  outline_nothing p (seen.stroke s e h) z = absurd (omega arith)
  outline_nothing p (seen.arc s e c clockwise h) z = absurd (omega arith)
  outline_nothing p (seen.contour a first m) z = absurd (omega arith)
  outline_nothing p (seen.block m a mirror) z = go (ltb m n) refl
    where
      go : (b : Bool) → ltb m n ≡ b → cond b (inner (composed q (flashed_at a mirror)) (cond (is_dark p) turn (not turn)) m) [] ≡ []
      go true e = less (composed q (flashed_at a mirror)) (cond (is_dark p) turn (not turn)) m (ltb-true m n e) z
      go false e = refl

  all_nothing : (os : List ObjectSeen) → laid_in ws os ≡ 0 → lay_all pcs inner n q turn os ≡ []
  all_nothing [] z = refl
  all_nothing (o ∷ os) z =
      ap (λ (v : List LaidObject). v ++ lay_all pcs inner n q turn os) (outline_nothing o.polarity o.outline (omega arith))
      ∙ all_nothing os (omega arith)

  figure_nothing : (os : List ObjectSeen) (f : FigureSeen) → (weighed ws os n f).laid ≡ 0 → lay_all pcs inner n q turn (objects_in n os f) ≡ []
  figure_nothing os (seen.circle h) z = refl
  figure_nothing os (seen.rectangle a b) z = refl
  figure_nothing os (seen.obround a b) z = refl
  figure_nothing os (seen.block first) z = all_nothing (owned_from n first os) z

module _ (aps : List ApertureSeen) (os : List ObjectSeen) where
  weight_is : (n : ℕ) → weight_at aps os n ≡ weighed (weights aps os n) os n (figure_at aps n)
  unfolding weight_at
  weight_is n = get_or_push (weights aps os n) (weighed (weights aps os n) os n (figure_at aps n)) none n (weights_length aps os n)

  block_nothing : (pcs : List At) (deep : ℕ) (q : Put) (turn : Bool) (n : ℕ) → (weight_at aps os n).laid ≡ 0 → lay_block aps os pcs deep q turn n ≡ []
  block_nothing pcs zero q turn n z = refl
  block_nothing pcs (suc deep) q turn n z =
      figure_nothing pcs (lay_block aps os pcs deep) (weights aps os n) n
      (λ q2 turn2 m l y. block_nothing pcs deep q2 turn2 m (sym (ap (λ (w : Weight). w.laid) (weight_stays aps os n m l)) ∙ y))
      q turn os (figure_at aps n) (sym (ap (λ (w : Weight). w.laid) (weight_is n)) ∙ z)

  told_nothing : (m n : ℕ) → length aps ≡ m → n < 128 → (or_nothing (weight_told m aps os n)).laid ≡ 0 → (weight_at aps os n).laid ≡ 0
  told_nothing m n e h z =
      ⊎_elim
      (λ (l : n < m).
      let t : (ltb n m && ltb n 128) ≡ true = grind (arith, nat_tests) in
      let c : min 1000001 (weight_at aps os n).laid ≡ 0 = sym (ap (λ b. (or_nothing (cond b (Some (capped (weight_at aps os n))) None)).laid) t) ∙ z in
      omega arith)
      (λ (l : m ≤ n).
      let past : figure_at aps n ≡ seen.circle 0 = ap (λ (a : ApertureSeen). a.figure) (get_or_past aps n (record { code = 0; figure = seen.circle 0 }) (omega arith)) in
      ap (λ (w : Weight). w.laid) (weight_is n) ∙ ap (λ (f : FigureSeen). (weighed (weights aps os n) os n f).laid) past)
      (cases_lt n m)

  -- as the program holds the weights
  pub weighs_nothing : (m n : ℕ) (w : Weight) → length aps ≡ m → n < 128 → w ≡ or_nothing (weight_told m aps os n) → w.laid ≡ 0
      → (pcs : List At) (deep : ℕ) (q : Put) (turn : Bool) → lay_block aps os pcs deep q turn n ≡ []
  weighs_nothing m n w e h is z pcs deep q turn =
      block_nothing pcs deep q turn n (told_nothing m n e h (sym (ap (λ (v : Weight). v.laid) is) ∙ z))
