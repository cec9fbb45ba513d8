-- No block gets deeper than 8.
use Rattle.std.proofs.Common.{◌≡◌, ℕ, ◌+◌, ◌<◌, ◌≤◌, max, false, ◌&&◌, ltb, ◌⊎◌, List, [], ◌∷◌, ◌++◌, length, drop, Some, None, sym, ap, ◌∙◌, subst, inl, inr, arith}
use Rattle.drawing.specs.Books.{or_none, too_deep, weighs}
use Rattle.plane.specs.Plane.{At}
use Rattle.recordlaws.proofs.Fits.{BlockFit, NewFigure, OwnerFit}
use Rattle.recordlaws.proofs.Fronts.{front, front_perhaps}
use Rattle.recordlaws.proofs.Growing.{figure_last}
use Rattle.recordlaws.proofs.Weighing.{figure_sound, weight_aperture, weight_is, weight_object, weights_at, weights_object}
use Rattle.recordlaws.specs.Laws.{AperturesSound, Earlier, FigureSound, IsBlock, OwnerSound}
use Rattle.records.specs.Records as seen
use Rattle.records.specs.Records.{ApertureSeen, FigureSeen, ObjectSeen, OutlineSeen}
use Rattle.records.specs.Weights.{capped, deepest, depth_by, figure_at, is_block, owned_by, owned_from, weighed, weight_at, weights}
use Rattle.records.specs.declared.kinds.Mirror.{Mirror}
use Rattle.records.specs.declared.kinds.Owner.TheVariants.{Block, Layer, Repeat}
use Rattle.records.specs.declared.kinds.Owner.{Owner}
use Rattle.records.specs.declared.weights.Weight.{Weight}
use Rattle.std.proofs.lemmas.List.{drop_all, drop-append-le, length_push}
use Rattle.std.proofs.lemmas.Bool.{and_from, cases_order, cond-true, leb-false, lt-ltb, ne_eqb}

abbrev pub Shallow : List ApertureSeen → List ObjectSeen → Type 0
Shallow aps os = (k : ℕ) → k < length aps → (weight_at aps os k).depth ≤ 8

new_depth : (ws : List Weight) (os : List ObjectSeen) (k : ℕ) (f : FigureSeen) → NewFigure (length os) f → (weighed ws os k f).depth ≤ 8
new_depth ws os k (seen.circle h) e = omega arith
new_depth ws os k (seen.rectangle a b) e = omega arith
new_depth ws os k (seen.obround a b) e = omega arith
new_depth ws os k (seen.block first) e =
    let d = ap (λ (l : List ObjectSeen). deepest ws (front (owned_by k) l)) (drop_all first os (omega arith)) in
    omega arith

pub shallow_aperture : (aps : List ApertureSeen) (a : ApertureSeen) (os : List ObjectSeen) → Shallow aps os → NewFigure (length os) a.figure → Shallow (aps ++ (a ∷ [])) os
shallow_aperture aps a os s n k h = by_order (cases_order k (length aps))
  where
    by_order : (k ≡ length aps) ⊎ ((k < length aps) ⊎ (length aps < k)) → (weight_at (aps ++ (a ∷ [])) os k).depth ≤ 8
    by_order (inl e) =
        let w = weight_is (aps ++ (a ∷ [])) os k in
        let f = ap (figure_at (aps ++ (a ∷ []))) e ∙ figure_last aps a in
        subst (λ (v : Weight). v.depth ≤ 8) (sym w)
        (new_depth (weights (aps ++ (a ∷ [])) os k) os k (figure_at (aps ++ (a ∷ [])) k) (subst (NewFigure (length os)) (sym f) n))
    by_order (inr (inl l)) = subst (λ (v : Weight). v.depth ≤ 8) (sym (weight_aperture aps a os k l)) (s k l)
    by_order (inr (inr l)) = absurd (omega (arith, length_push aps a))

-- What an object weighs, for a flash of a block that is there.
pub flash_weighs : (aps : List ApertureSeen) (os : List ObjectSeen) (n : ℕ) (p : At) (m : Mirror) → n < length aps → length aps ≤ 128
    → weighs aps os (seen.block n p m) ≡ capped (weight_at aps os n)
flash_weighs aps os n p m l h =
    ap or_none (cond-true (ltb n (length aps) && ltb n 128) (Some (capped (weight_at aps os n))) None
    (and_from (ltb n (length aps)) (ltb n 128) (lt-ltb n (length aps) l) (lt-ltb n 128 (omega arith))))

-- The depth that it brings to block k.
reach : (aps : List ApertureSeen) (os : List ObjectSeen) (k : ℕ) (o : OutlineSeen) → k < length aps → length aps ≤ 128 → Earlier k o → (weighs aps os o).depth < 8
    → depth_by (weights aps os k) o ≤ 7
reach aps os k (seen.circle p h) t r e d = omega arith
reach aps os k (seen.rectangle p a b) t r e d = omega arith
reach aps os k (seen.obround p a b) t r e d = omega arith
reach aps os k (seen.stroke s f h) t r e d = omega arith
reach aps os k (seen.arc s f c clockwise h) t r e d = omega arith
reach aps os k (seen.contour s first count) t r e d = omega arith
reach aps os k (seen.block n p m) t r e d =
    let a = ap (λ (w : Weight). w.depth) (weights_at aps os k n e) in
    let b = ap (λ (w : Weight). w.depth) (flash_weighs aps os n p m (omega arith) r) in
    omega arith

deepest_more : (ws : List Weight) (os : List ObjectSeen) (o : ObjectSeen) → deepest ws (os ++ (o ∷ [])) ≡ max (deepest ws os) (depth_by ws o.outline)
deepest_more ws [] o = omega arith
deepest_more ws (x ∷ os) o = let r = deepest_more ws os o in omega arith

-- The open block with one more object.
deeper : (ws : List Weight) (os : List ObjectSeen) (o : ObjectSeen) (k : ℕ) (f : FigureSeen) → FigureSound (length os) f → depth_by ws o.outline ≤ 7
    → (weighed ws os k f).depth ≤ 8 → (weighed ws (os ++ (o ∷ [])) k f).depth ≤ 8
deeper ws os o k (seen.circle h) s d w = omega arith
deeper ws os o k (seen.rectangle a b) s d w = omega arith
deeper ws os o k (seen.obround a b) s d w = omega arith
deeper ws os o k (seen.block first) s d w = by_front (front_perhaps (owned_by k) (drop first os) o)
  where
    by_front : (front (owned_by k) (drop first os ++ (o ∷ [])) ≡ front (owned_by k) (drop first os))
        ⊎ (front (owned_by k) (drop first os ++ (o ∷ [])) ≡ front (owned_by k) (drop first os) ++ (o ∷ []))
        → 1 + deepest ws (owned_from k first (os ++ (o ∷ []))) ≤ 8
    by_front (inl e) =
        let a = ap (deepest ws) (ap (front (owned_by k)) (drop-append-le first os (o ∷ []) s) ∙ e) in
        omega arith
    by_front (inr e) =
        let a = ap (deepest ws) (ap (front (owned_by k)) (drop-append-le first os (o ∷ []) s) ∙ e) in
        let b = deepest_more ws (front (owned_by k) (drop first os)) o in
        omega arith

plain_depth : (ws : List Weight) (os : List ObjectSeen) (k : ℕ) (f : FigureSeen) → (IsBlock f → ⊥) → (weighed ws os k f).depth ≤ 8
plain_depth ws os k (seen.circle h) n = omega arith
plain_depth ws os k (seen.rectangle a b) n = omega arith
plain_depth ws os k (seen.obround a b) n = omega arith
plain_depth ws os k (seen.block first) n = absurd (n tt)

-- An object of the layer or of a step and repeat leaves all weights.
pub weight_outside : (aps : List ApertureSeen) (os : List ObjectSeen) (o : ObjectSeen) (k : ℕ) → AperturesSound (length os) aps → ((j : ℕ) → owned_by j o ≡ false)
    → weight_at aps (os ++ (o ∷ [])) k ≡ weight_at aps os k
weight_outside aps os o k s h = weight_object aps os o k s (λ j l. h j)

-- An object of block n leaves those below.
pub weight_below : (aps : List ApertureSeen) (os : List ObjectSeen) (o : ObjectSeen) (n k : ℕ) → AperturesSound (length os) aps → o.owner ≡ Block n → k < n
    → weight_at aps (os ++ (o ∷ [])) k ≡ weight_at aps os k
weight_below aps os o n k s e h = weight_object aps os o k s (λ j l. ap (is_block j) e ∙ ne_eqb n j (λ q. omega arith))

module _ (aps : List ApertureSeen) (os : List ObjectSeen) (o : ObjectSeen) (sound : AperturesSound (length os) aps) (few : length aps ≤ 128) (shallow : Shallow aps os) where
  outside : ((j : ℕ) → owned_by j o ≡ false) → Shallow aps (os ++ (o ∷ []))
  outside h k l = subst (λ (v : Weight). v.depth ≤ 8) (sym (weight_outside aps os o k sound h)) (shallow k l)

  within : (n : ℕ) → o.owner ≡ Block n → BlockFit aps os n → Earlier n o.outline → (weighs aps os o.outline).depth < 8 → Shallow aps (os ++ (o ∷ []))
  within n e f g d k h = by_order (cases_order k n)
    where
      by_order : (k ≡ n) ⊎ ((k < n) ⊎ (n < k)) → (weight_at aps (os ++ (o ∷ [])) k).depth ≤ 8
      by_order (inl q) =
          let same = weights_object aps os o n sound (λ j l. ap (is_block j) e ∙ ne_eqb n j (λ q. omega arith)) in
          let old : (weighed (weights aps os n) os n (figure_at aps n)).depth ≤ 8 = subst (λ (v : Weight). v.depth ≤ 8) (weight_is aps os n) (shallow n f.there) in
          let new : (weighed (weights aps os n) (os ++ (o ∷ [])) n (figure_at aps n)).depth ≤ 8 =
          deeper (weights aps os n) os o n (figure_at aps n) (figure_sound (length os) aps n sound) (reach aps os n o.outline f.there few g d) old in
          let is : weight_at aps (os ++ (o ∷ [])) n ≡ weighed (weights aps os n) (os ++ (o ∷ [])) n (figure_at aps n) =
          weight_is aps (os ++ (o ∷ [])) n ∙ ap (λ (ws : List Weight). weighed ws (os ++ (o ∷ [])) n (figure_at aps n)) same in
          subst (λ i. (weight_at aps (os ++ (o ∷ [])) i).depth ≤ 8) (sym q) (subst (λ (v : Weight). v.depth ≤ 8) (sym is) new)
      by_order (inr (inl l)) = subst (λ (v : Weight). v.depth ≤ 8) (sym (weight_below aps os o n k sound e l)) (shallow k h)
      by_order (inr (inr l)) =
          subst (λ (v : Weight). v.depth ≤ 8) (sym (weight_is aps (os ++ (o ∷ [])) k))
          (plain_depth (weights aps (os ++ (o ∷ [])) k) (os ++ (o ∷ [])) k (figure_at aps k) (λ b. let u = f.last k b in omega arith))

  -- An object that is not too deep.
  pub shallow_object : (w : Owner) → o.owner ≡ w → OwnerFit aps os w → OwnerSound aps o.outline w → too_deep w (weighs aps os o.outline).depth ≡ false
      → Shallow aps (os ++ (o ∷ []))
  shallow_object Layer e f s d = outside (λ j. ap (is_block j) e)
  shallow_object (Block n) e f s d = within n e f s.2 (leb-false 8 (weighs aps os o.outline).depth d)
  shallow_object (Repeat r) e f s d = outside (λ j. ap (is_block j) e)
