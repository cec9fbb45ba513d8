-- The laid count goes with the laid objects, as the tables grow.
use Rattle.std.proofs.Common.{◌≡◌, ℕ, zero, suc, ◌+◌, ◌*◌, ◌<◌, ◌≤◌, min, Bool, true, false, cond, eqb, ◌⊎◌, List, [], ◌∷◌, ◌++◌, length, take, drop, sym, refl, ap, ◌∙◌, subst, inl, inr, mul-le-mul_right, mul_assoc, mul-le-mul, mul-add, arith}
use Rattle.drawing.specs.Books.{adds, weighs}
use Rattle.laid.specs.Laid.{is_repeat, repeat_objects}
use Rattle.plane.specs.Plane.{At}
use Rattle.recordlaws.proofs.Depths.{flash_weighs, weight_below, weight_outside}
use Rattle.recordlaws.proofs.Fits.{AllEarlier, AllOwned, BlockFit, OwnerFit, RepeatFit}
use Rattle.recordlaws.proofs.Fronts.{AllPass, front, front_all, front_without, pass_more}
use Rattle.recordlaws.proofs.Laying.{count_from, counted, lays, lays_all}
use Rattle.recordlaws.proofs.Weighing.{weight_aperture}
use Rattle.recordlaws.specs.Laws.{AperturesSound, Earlier, ObjectsSound, OutlineSound, OwnerSound}
use Rattle.records.specs.Records as seen
use Rattle.records.specs.Records.{ApertureSeen, ObjectSeen, OutlineSeen}
use Rattle.records.specs.Weights.{is_block, owned_by}
use Rattle.records.specs.declared.kinds.Owner.TheVariants.{Block, Layer, Repeat}
use Rattle.records.specs.declared.kinds.Owner.{Owner}
use Rattle.records.specs.declared.kinds.Repeat.{Repeat as RepeatRecord}
use Rattle.records.specs.declared.weights.Weight.{Weight}
use Rattle.std.proofs.lemmas.List.{drop_all, drop-append-le, drop-drop}
use Rattle.std.proofs.lemmas.Bool.{cond-false, cond-true, eq-eqb, eqb-true, ne_eqb}
use Rattle.std.specs.List.{prefix_len}

-- Each of these objects lays as many as before.
abbrev pub Steady : List ApertureSeen → List ObjectSeen → List ApertureSeen → List ObjectSeen → List ObjectSeen → Type 0
Steady aps os aps2 os2 [] = Unit {0}
Steady aps os aps2 os2 (x ∷ xs) = (lays aps2 os2 x.outline ≡ lays aps os x.outline) × Steady aps os aps2 os2 xs

module _ (aps : List ApertureSeen) (os : List ObjectSeen) (aps2 : List ApertureSeen) (os2 : List ObjectSeen) where
  steady_drop : (n : ℕ) (xs : List ObjectSeen) → Steady aps os aps2 os2 xs → Steady aps os aps2 os2 (drop n xs)
  steady_drop zero xs s = s
  steady_drop (suc n) [] s = s
  steady_drop (suc n) (x ∷ xs) (e, s) = steady_drop n xs s

  steady_take : (n : ℕ) (xs : List ObjectSeen) → Steady aps os aps2 os2 xs → Steady aps os aps2 os2 (take n xs)
  steady_take zero xs s = tt
  steady_take (suc n) [] s = tt
  steady_take (suc n) (x ∷ xs) (e, s) = (e, steady_take n xs s)

  steady_all : (xs : List ObjectSeen) → Steady aps os aps2 os2 xs → lays_all aps2 os2 xs ≡ lays_all aps os xs
  steady_all [] s = refl
  steady_all (x ∷ xs) (e, s) = let r = steady_all xs s in omega arith

-- One more aperture

lays_aperture : (aps : List ApertureSeen) (a : ApertureSeen) (os : List ObjectSeen) (pcs : List At) (o : OutlineSeen) → OutlineSound aps pcs o
    → lays (aps ++ (a ∷ [])) os o ≡ lays aps os o
lays_aperture aps a os pcs (seen.circle p h) s = refl
lays_aperture aps a os pcs (seen.rectangle p x y) s = refl
lays_aperture aps a os pcs (seen.obround p x y) s = refl
lays_aperture aps a os pcs (seen.stroke b e h) s = refl
lays_aperture aps a os pcs (seen.arc b e c clockwise h) s = refl
lays_aperture aps a os pcs (seen.contour b first count) s = refl
lays_aperture aps a os pcs (seen.block n p m) (w, l, b) = ap (λ (v : Weight). v.laid) (weight_aperture aps a os n l)

steady_aperture : (aps : List ApertureSeen) (a : ApertureSeen) (os : List ObjectSeen) (pcs : List At) (xs : List ObjectSeen) → ObjectsSound aps pcs xs
    → Steady aps os (aps ++ (a ∷ [])) os xs
steady_aperture aps a os pcs [] s = tt
steady_aperture aps a os pcs (x ∷ xs) (p, q, s) = (lays_aperture aps a os pcs x.outline p, steady_aperture aps a os pcs xs s)

module _ (aps : List ApertureSeen) (a : ApertureSeen) (os : List ObjectSeen) (all : Steady aps os (aps ++ (a ∷ [])) os os) where
  counted_aperture : (i : ℕ) (o : OutlineSeen) (w : Owner) → lays (aps ++ (a ∷ [])) os o ≡ lays aps os o → counted (aps ++ (a ∷ [])) os i o w ≡ counted aps os i o w
  counted_aperture i o Layer e = e
  counted_aperture i o (Block k) e = refl
  counted_aperture i o (Repeat r) e =
      let p = λ (x : ObjectSeen). is_repeat r.first x.owner in
      let part = steady_take aps os (aps ++ (a ∷ [])) os (prefix_len p (drop r.first os)) (drop r.first os) (steady_drop aps os (aps ++ (a ∷ [])) os r.first os all) in
      ap (λ n. cond (eqb r.first i) (r.columns * (r.rows * n)) 0) (steady_all aps os (aps ++ (a ∷ [])) os (repeat_objects r os) part)

  count_aperture_from : (i : ℕ) (xs : List ObjectSeen) → Steady aps os (aps ++ (a ∷ [])) os xs → count_from (aps ++ (a ∷ [])) os i xs ≡ count_from aps os i xs
  count_aperture_from i [] s = refl
  count_aperture_from i (x ∷ xs) (e, s) =
      let c = counted_aperture i x.outline x.owner e in
      let r = count_aperture_from (i + 1) xs s in
      omega arith

pub count_aperture : (aps : List ApertureSeen) (a : ApertureSeen) (os : List ObjectSeen) (pcs : List At) → ObjectsSound aps pcs os
    → count_from (aps ++ (a ∷ [])) os 0 os ≡ count_from aps os 0 os
count_aperture aps a os pcs s = let all = steady_aperture aps a os pcs os s in count_aperture_from aps a os all 0 os all

-- One more object

lays_outside : (aps : List ApertureSeen) (os : List ObjectSeen) (o : ObjectSeen) → AperturesSound (length os) aps → ((j : ℕ) → owned_by j o ≡ false)
    → (x : OutlineSeen) → lays aps (os ++ (o ∷ [])) x ≡ lays aps os x
lays_outside aps os o s h (seen.circle p r) = refl
lays_outside aps os o s h (seen.rectangle p x y) = refl
lays_outside aps os o s h (seen.obround p x y) = refl
lays_outside aps os o s h (seen.stroke b e r) = refl
lays_outside aps os o s h (seen.arc b e c clockwise r) = refl
lays_outside aps os o s h (seen.contour b first count) = refl
lays_outside aps os o s h (seen.block n p m) = ap (λ (v : Weight). v.laid) (weight_outside aps os o n s h)

steady_outside : (aps : List ApertureSeen) (os : List ObjectSeen) (o : ObjectSeen) → AperturesSound (length os) aps → ((j : ℕ) → owned_by j o ≡ false)
    → (xs : List ObjectSeen) → Steady aps os aps (os ++ (o ∷ [])) xs
steady_outside aps os o s h [] = tt
steady_outside aps os o s h (x ∷ xs) = (lays_outside aps os o s h x.outline, steady_outside aps os o s h xs)

lays_below : (aps : List ApertureSeen) (os : List ObjectSeen) (o : ObjectSeen) (n : ℕ) → AperturesSound (length os) aps → o.owner ≡ Block n
    → (x : OutlineSeen) → Earlier n x → lays aps (os ++ (o ∷ [])) x ≡ lays aps os x
lays_below aps os o n s h (seen.circle p r) e = refl
lays_below aps os o n s h (seen.rectangle p x y) e = refl
lays_below aps os o n s h (seen.obround p x y) e = refl
lays_below aps os o n s h (seen.stroke b f r) e = refl
lays_below aps os o n s h (seen.arc b f c clockwise r) e = refl
lays_below aps os o n s h (seen.contour b first count) e = refl
lays_below aps os o n s h (seen.block k p m) e = ap (λ (v : Weight). v.laid) (weight_below aps os o n k s h e)

steady_below : (aps : List ApertureSeen) (os : List ObjectSeen) (o : ObjectSeen) (n : ℕ) → AperturesSound (length os) aps → o.owner ≡ Block n
    → (xs : List ObjectSeen) → AllEarlier n xs → Steady aps os aps (os ++ (o ∷ [])) xs
steady_below aps os o n s h [] a = tt
steady_below aps os o n s h (x ∷ xs) (e, a) = (lays_below aps os o n s h x.outline e, steady_below aps os o n s h xs a)

cond_same : (b : Bool) (x y : ℕ) → (b ≡ true → x ≡ y) → cond b x 0 ≡ cond b y 0
cond_same true x y h = h refl
cond_same false x y h = refl

lays_push : (aps : List ApertureSeen) (os : List ObjectSeen) (xs : List ObjectSeen) (o : ObjectSeen) → lays_all aps os (xs ++ (o ∷ [])) ≡ lays_all aps os xs + lays aps os o.outline
lays_push aps os [] o = omega arith
lays_push aps os (x ∷ xs) o = let r = lays_push aps os xs o in omega arith

pass_owned : (r : RepeatRecord) (xs : List ObjectSeen) → AllOwned (Repeat r) xs → AllPass (λ (x : ObjectSeen). is_repeat r.first x.owner) xs
pass_owned r [] a = tt
pass_owned r (x ∷ xs) (e, a) = (ap (is_repeat r.first) e ∙ eq-eqb r.first r.first refl, pass_owned r xs a)

module _ (aps : List ApertureSeen) (os : List ObjectSeen) (o : ObjectSeen) (all : Steady aps os aps (os ++ (o ∷ [])) os) where
  repeat_same : (r : RepeatRecord) → r.first ≤ length os → is_repeat r.first o.owner ≡ false
      → lays_all aps (os ++ (o ∷ [])) (repeat_objects r (os ++ (o ∷ []))) ≡ lays_all aps os (repeat_objects r os)
  repeat_same r h e =
      let p = λ (x : ObjectSeen). is_repeat r.first x.owner in
      let same : repeat_objects r (os ++ (o ∷ [])) ≡ repeat_objects r os = ap (front p) (drop-append-le r.first os (o ∷ []) h) ∙ front_without p (drop r.first os) o e in
      let part = steady_take aps os aps (os ++ (o ∷ [])) (prefix_len p (drop r.first os)) (drop r.first os) (steady_drop aps os aps (os ++ (o ∷ [])) r.first os all) in
      ap (lays_all aps (os ++ (o ∷ []))) same ∙ steady_all aps os aps (os ++ (o ∷ [])) (repeat_objects r os) part

  counted_same : (i : ℕ) (x : OutlineSeen) (w : Owner) → i ≤ length os → is_repeat i o.owner ≡ false → lays aps (os ++ (o ∷ [])) x ≡ lays aps os x
      → counted aps (os ++ (o ∷ [])) i x w ≡ counted aps os i x w
  counted_same i x Layer h e s = s
  counted_same i x (Block k) h e s = refl
  counted_same i x (Repeat r) h e s =
      cond_same (eqb r.first i) (r.columns * (r.rows * lays_all aps (os ++ (o ∷ [])) (repeat_objects r (os ++ (o ∷ []))))) (r.columns * (r.rows * lays_all aps os (repeat_objects r os)))
      (λ q. let f = eqb-true r.first i q in
      ap (λ n. r.columns * (r.rows * n)) (repeat_same r (omega arith) (subst (λ j. is_repeat j o.owner ≡ false) (sym f) e)))

  count_same : (i : ℕ) (xs : List ObjectSeen) → i + length xs ≤ length os → ((j : ℕ) → i ≤ j → j < length os → is_repeat j o.owner ≡ false)
      → Steady aps os aps (os ++ (o ∷ [])) xs → count_from aps (os ++ (o ∷ [])) i xs ≡ count_from aps os i xs
  count_same i [] h f s = refl
  count_same i (x ∷ xs) h f (e, s) =
      let c = counted_same i x.outline x.owner (omega arith) (f i (omega arith) (omega arith)) e in
      let r = count_same (i + 1) xs (omega arith) (λ j l. f j (omega arith)) s in
      omega arith

  count_push : (i : ℕ) (xs : List ObjectSeen) → count_from aps (os ++ (o ∷ [])) i (xs ++ (o ∷ []))
      ≡ count_from aps (os ++ (o ∷ [])) i xs + counted aps (os ++ (o ∷ [])) (i + length xs) o.outline o.owner
  count_push i [] = let z : i ≡ i + 0 = omega arith in let c = ap (λ j. counted aps (os ++ (o ∷ [])) j o.outline o.owner) z in omega arith
  count_push i (x ∷ xs) =
      let z : i + 1 + length xs ≡ i + suc (length xs) = omega arith in
      let c = ap (λ j. counted aps (os ++ (o ∷ [])) j o.outline o.owner) z in
      let r = count_push (i + 1) xs in
      omega arith

  -- in a step and repeat
  module _ (r : RepeatRecord) (is : o.owner ≡ Repeat r) (fit : RepeatFit os r) (steady : lays aps (os ++ (o ∷ [])) o.outline ≡ lays aps os o.outline) where
    repeat_all : repeat_objects r os ≡ drop r.first os
    repeat_all = front_all (λ (x : ObjectSeen). is_repeat r.first x.owner) (drop r.first os) (pass_owned r (drop r.first os) fit.owned)

    repeat_more : repeat_objects r (os ++ (o ∷ [])) ≡ drop r.first os ++ (o ∷ [])
    repeat_more =
        let p = λ (x : ObjectSeen). is_repeat r.first x.owner in
        let e : p o ≡ true = ap (is_repeat r.first) is ∙ eq-eqb r.first r.first refl in
        ap (front p) (drop-append-le r.first os (o ∷ []) fit.there)
        ∙ front_all p (drop r.first os ++ (o ∷ [])) (pass_more p (drop r.first os) o (pass_owned r (drop r.first os) fit.owned) e)

    lays_more : lays_all aps (os ++ (o ∷ [])) (repeat_objects r (os ++ (o ∷ []))) ≡ lays_all aps os (drop r.first os) + lays aps os o.outline
    lays_more =
        let a = ap (lays_all aps (os ++ (o ∷ []))) repeat_more in
        let b = lays_push aps (os ++ (o ∷ [])) (drop r.first os) o in
        let c = steady_all aps os aps (os ++ (o ∷ [])) (drop r.first os) (steady_drop aps os aps (os ++ (o ∷ [])) r.first os all) in
        omega arith

    other : (j : ℕ) → (r.first ≡ j → ⊥) → is_repeat j o.owner ≡ false
    other j h = ap (is_repeat j) is ∙ ne_eqb r.first j h

    -- the first object brings the copies of the new one
    grows_at : (x : ObjectSeen) → x.owner ≡ Repeat r
        → counted aps (os ++ (o ∷ [])) r.first x.outline x.owner ≡ counted aps os r.first x.outline x.owner + r.columns * (r.rows * lays aps os o.outline)
    grows_at x e =
        let t = eq-eqb r.first r.first refl in
        let a : counted aps (os ++ (o ∷ [])) r.first x.outline x.owner ≡ r.columns * (r.rows * (lays_all aps os (drop r.first os) + lays aps os o.outline)) =
        ap (counted aps (os ++ (o ∷ [])) r.first x.outline) e
        ∙ cond-true (eqb r.first r.first) (r.columns * (r.rows * lays_all aps (os ++ (o ∷ [])) (repeat_objects r (os ++ (o ∷ []))))) 0 t
        ∙ ap (λ n. r.columns * (r.rows * n)) lays_more in
        let b : counted aps os r.first x.outline x.owner ≡ r.columns * (r.rows * lays_all aps os (drop r.first os)) =
        ap (counted aps os r.first x.outline) e
        ∙ cond-true (eqb r.first r.first) (r.columns * (r.rows * lays_all aps os (repeat_objects r os))) 0 t
        ∙ ap (λ (l : List ObjectSeen). r.columns * (r.rows * lays_all aps os l)) repeat_all in
        let c = ap (λ n. r.columns * n) (mul-add r.rows (lays_all aps os (drop r.first os)) (lays aps os o.outline)) in
        let d = mul-add r.columns (r.rows * lays_all aps os (drop r.first os)) (r.rows * lays aps os o.outline) in
        omega arith

    grows : (i : ℕ) (xs : List ObjectSeen) → drop i os ≡ xs → i + length xs ≡ length os → i ≤ r.first → r.first < length os → Steady aps os aps (os ++ (o ∷ [])) xs
        → count_from aps (os ++ (o ∷ [])) i xs ≡ count_from aps os i xs + r.columns * (r.rows * lays aps os o.outline)
    grows i [] d h l m s = absurd (omega arith)
    grows i (x ∷ xs) d h l m (e, s) = by_order (λ q. grows (i + 1) xs (sym (drop-drop 1 i os) ∙ ap (drop 1) d) (omega arith) (omega arith) m s) (search arith)
      where
        by_order : (i < r.first → count_from aps (os ++ (o ∷ [])) (i + 1) xs ≡ count_from aps os (i + 1) xs + r.columns * (r.rows * lays aps os o.outline))
            → (i < r.first) ⊎ (i ≡ r.first)
            → count_from aps (os ++ (o ∷ [])) i (x ∷ xs) ≡ count_from aps os i (x ∷ xs) + r.columns * (r.rows * lays aps os o.outline)
        by_order more (inl q) =
            let c = counted_same i x.outline x.owner (omega arith) (other i (λ z. omega arith)) e in
            let n = more q in
            omega arith
        by_order more (inr q) =
            let f : AllOwned (Repeat r) (x ∷ xs) = subst (AllOwned (Repeat r)) (ap (λ j. drop j os) (sym q) ∙ d) fit.owned in
            let g = grows_at x f.0 in
            let c1 = ap (λ j. counted aps (os ++ (o ∷ [])) j x.outline x.owner) q in
            let c2 = ap (λ j. counted aps os j x.outline x.owner) q in
            let n = count_same (i + 1) xs (omega arith) (λ j l k. other j (λ z. omega arith)) s in
            omega arith

-- What an object brings to the film is what it adds.
module _ (aps : List ApertureSeen) (os : List ObjectSeen) (o : ObjectSeen) (sound : AperturesSound (length os) aps) where
  on_layer_lem : o.owner ≡ Layer → count_from aps (os ++ (o ∷ [])) 0 (os ++ (o ∷ [])) ≡ count_from aps os 0 os + lays aps os o.outline
  on_layer_lem e =
      let none : (j : ℕ) → owned_by j o ≡ false = λ j. ap (is_block j) e in
      let all = steady_outside aps os o sound none os in
      let p = count_push aps os o all 0 os in
      let s = count_same aps os o all 0 os (omega arith) (λ j l k. ap (is_repeat j) e) all in
      let c = ap (counted aps (os ++ (o ∷ [])) (0 + length os) o.outline) e in
      let l = lays_outside aps os o sound none o.outline in
      omega arith

  in_block : (n : ℕ) → o.owner ≡ Block n → BlockFit aps os n → count_from aps (os ++ (o ∷ [])) 0 (os ++ (o ∷ [])) ≡ count_from aps os 0 os + 0
  in_block n e f =
      let all = steady_below aps os o n sound e os f.earlier in
      let p = count_push aps os o all 0 os in
      let s = count_same aps os o all 0 os (omega arith) (λ j l k. ap (is_repeat j) e) all in
      let c = ap (counted aps (os ++ (o ∷ [])) (0 + length os) o.outline) e in
      omega arith

  in_repeat_lem : (r : RepeatRecord) → o.owner ≡ Repeat r → RepeatFit os r
      → count_from aps (os ++ (o ∷ [])) 0 (os ++ (o ∷ [])) ≡ count_from aps os 0 os + r.columns * (r.rows * lays aps os o.outline)
  in_repeat_lem r e f = by_order (search (arith, f.there))
    where
      none : (j : ℕ) → owned_by j o ≡ false
      none j = ap (is_block j) e

      all : Steady aps os aps (os ++ (o ∷ [])) os
      all = steady_outside aps os o sound none os

      steady : lays aps (os ++ (o ∷ [])) o.outline ≡ lays aps os o.outline
      steady = lays_outside aps os o sound none o.outline

      by_order : (r.first < length os) ⊎ (r.first ≡ length os)
          → count_from aps (os ++ (o ∷ [])) 0 (os ++ (o ∷ [])) ≡ count_from aps os 0 os + r.columns * (r.rows * lays aps os o.outline)
      by_order (inl l) =
          let p = count_push aps os o all 0 os in
          let g = grows aps os o all r e f steady 0 os refl (omega arith) (omega arith) l all in
          let c : counted aps (os ++ (o ∷ [])) (0 + length os) o.outline o.owner ≡ 0 =
          ap (counted aps (os ++ (o ∷ [])) (0 + length os) o.outline) e
          ∙ cond-false (eqb r.first (0 + length os)) (r.columns * (r.rows * lays_all aps (os ++ (o ∷ [])) (repeat_objects r (os ++ (o ∷ []))))) 0
          (ne_eqb r.first (0 + length os) (λ z. omega arith)) in
          omega arith
      by_order (inr l) =
          let p = count_push aps os o all 0 os in
          let s = count_same aps os o all 0 os (omega arith) (λ j a b. other aps os o all r e f steady j (λ z. omega arith)) all in
          let m = lays_more aps os o all r e f steady in
          let d = ap (lays_all aps os) (drop_all r.first os (omega arith)) in
          let n : lays_all aps (os ++ (o ∷ [])) (repeat_objects r (os ++ (o ∷ []))) ≡ lays aps os o.outline = omega arith in
          let c : counted aps (os ++ (o ∷ [])) (0 + length os) o.outline o.owner ≡ r.columns * (r.rows * lays aps os o.outline) =
          ap (counted aps (os ++ (o ∷ [])) (0 + length os) o.outline) e
          ∙ cond-true (eqb r.first (0 + length os)) (r.columns * (r.rows * lays_all aps (os ++ (o ∷ [])) (repeat_objects r (os ++ (o ∷ []))))) 0
          (eq-eqb r.first (0 + length os) (omega arith))
          ∙ ap (λ n. r.columns * (r.rows * n)) n in
          omega arith

  pub count_object : (w : Owner) → o.owner ≡ w → OwnerFit aps os w
      → count_from aps (os ++ (o ∷ [])) 0 (os ++ (o ∷ [])) ≡ count_from aps os 0 os + adds w (lays aps os o.outline)
  count_object Layer e f = on_layer_lem e
  count_object (Block n) e f = in_block n e f
  count_object (Repeat r) e f = let m = mul_assoc r.columns r.rows (lays aps os o.outline) in let c = in_repeat_lem r e f in omega arith

-- Below the limit the weight told is the weight.

pub weighs_lays : (aps : List ApertureSeen) (os : List ObjectSeen) (pcs : List At) (o : OutlineSeen) → OutlineSound aps pcs o → length aps ≤ 128
    → (weighs aps os o).laid ≡ min 1000001 (lays aps os o)
weighs_lays aps os pcs (seen.circle p r) s h = refl
weighs_lays aps os pcs (seen.rectangle p x y) s h = refl
weighs_lays aps os pcs (seen.obround p x y) s h = refl
weighs_lays aps os pcs (seen.stroke b e r) s h = refl
weighs_lays aps os pcs (seen.arc b e c clockwise r) s h = refl
weighs_lays aps os pcs (seen.contour b first count) s h = refl
weighs_lays aps os pcs (seen.block n p m) (w, l, b) h = ap (λ (v : Weight). v.laid) (flash_weighs aps os n p m l h)

pub adds_exactly : (aps : List ApertureSeen) (o : OutlineSeen) (w : Owner) (n x y : ℕ) → OwnerSound aps o w → y ≡ min 1000001 x → n + adds w y ≤ 1000000 → adds w y ≡ adds w x
adds_exactly aps o Layer n x y s e h = omega arith
adds_exactly aps o (Block k) n x y s e h = refl
adds_exactly aps o (Repeat r) n x y (a, b) e h =
    let c : 1 * 1 ≤ r.columns * r.rows = mul-le-mul a.0 b.0 in
    let m : 1 * y ≤ r.columns * r.rows * y = mul-le-mul_right y (omega arith) in
    let z : y ≡ x = omega arith in
    ap (λ i. r.columns * r.rows * i) z
