-- How many objects blocks, objects and step and repeats lay.
use Rattle.std.proofs.Common.{◌≡◌, ℕ, zero, suc, ◌+◌, ◌-◌, ◌*◌, ◌<◌, ◌≤◌, Bool, true, false, cond, not, eqb, ltb, leb, ◌⊎◌, List, [], ◌∷◌, length, take, drop, sym, refl, ap, ◌∙◌, subst, inl, inr, mul-le-mul_right, add-mul, arith}
use Rattle.forms.specs.declared.Polarity.{Polarity}
use Rattle.laid.specs.Laid.{LaidObject, block_objects, in_reach, is_dark, is_repeat, laid_objects, lay_all, lay_block, lay_copy, lay_from, lay_one, lay_outline, lay_owned, lay_repeat, objects_in, repeat_objects, up_to}
use Rattle.laid.specs.Puts.{Put, composed, flashed_at, shifted, still}
use Rattle.plane.specs.Plane.{At}
use Rattle.recordlaws.proofs.Depths.{Shallow}
use Rattle.recordlaws.proofs.Fits.{AllEarlier}
use Rattle.recordlaws.proofs.Fronts.{front, front_off, front_on}
use Rattle.recordlaws.proofs.Weighing.{weight_is, weights_at}
use Rattle.recordlaws.specs.Laws.{Earlier, ObjectsSound, OutlineSound, OwnerSound, Repeats}
use Rattle.records.specs.Records as seen
use Rattle.records.specs.Records.{ApertureSeen, FigureSeen, ObjectSeen, OutlineSeen}
use Rattle.records.specs.Weights.{deepest, depth_by, figure_at, is_block, laid_by, laid_in, owned_by, owned_from, weighed, weight_at, weights}
use Rattle.records.specs.declared.kinds.Owner.TheVariants.{Block, Layer, Repeat}
use Rattle.records.specs.declared.kinds.Owner.{Owner}
use Rattle.records.specs.declared.kinds.Repeat.{Repeat as RepeatRecord}
use Rattle.records.specs.declared.weights.Weight.{Weight}
use Rattle.std.proofs.lemmas.List.{length-append}
use Rattle.std.proofs.lemmas.Bool.{and_from, cases_Bool, cond-true, eqb-true, le-leb, lt-ltb}
use Rattle.std.specs.List.{prefix_len}

-- What an object lays: a flash of a block what the block lays, any other itself.
abbrev pub lays : List ApertureSeen → List ObjectSeen → OutlineSeen → ℕ
lays aps os (seen.circle p h) = 1
lays aps os (seen.rectangle p a b) = 1
lays aps os (seen.obround p a b) = 1
lays aps os (seen.stroke s e h) = 1
lays aps os (seen.arc s e c clockwise h) = 1
lays aps os (seen.contour s first count) = 1
lays aps os (seen.block n p m) = (weight_at aps os n).laid

abbrev pub lays_all : List ApertureSeen → List ObjectSeen → List ObjectSeen → ℕ
lays_all aps os [] = 0
lays_all aps os (x ∷ xs) = lays aps os x.outline + lays_all aps os xs

-- What the object with the number i, of this owner, brings to the film; all of a step and repeat with its first object.
abbrev pub counted : List ApertureSeen → List ObjectSeen → ℕ → OutlineSeen → Owner → ℕ
counted aps os i o Layer = lays aps os o
counted aps os i o (Block k) = 0
counted aps os i o (Repeat r) = cond (eqb r.first i) (r.columns * (r.rows * lays_all aps os (repeat_objects r os))) 0

abbrev pub count_from : List ApertureSeen → List ObjectSeen → ℕ → List ObjectSeen → ℕ
count_from aps os i [] = 0
count_from aps os i (x ∷ xs) = counted aps os i x.outline x.owner + count_from aps os (i + 1) xs

-- Blocks flash only earlier ones.
abbrev pub Falls : List ApertureSeen → List ObjectSeen → Type 0
Falls aps os = (n : ℕ) → AllEarlier n (block_objects aps os n)

module _ (aps : List ApertureSeen) (os : List ObjectSeen) (pcs : List At) (falls : Falls aps os) where
  abbrev Exact : ℕ → Type 0
  Exact d = (q : Put) (turn : Bool) (n : ℕ) → (weight_at aps os n).depth ≤ d → length (lay_block aps os pcs d q turn n) ≡ (weight_at aps os n).laid

  one_in_block : (d : ℕ) → Exact d → (n : ℕ) (q : Put) (turn : Bool) (p : Polarity) (o : OutlineSeen) → Earlier n o → depth_by (weights aps os n) o ≤ d
      → length (lay_outline pcs (lay_block aps os pcs d) n q turn p o) ≡ laid_by (weights aps os n) o
  one_in_block d exact n q turn p (seen.circle a h) e s = refl
  one_in_block d exact n q turn p (seen.rectangle a x y) e s = refl
  one_in_block d exact n q turn p (seen.obround a x y) e s = refl
  one_in_block d exact n q turn p (seen.stroke b f h) e s = refl
  one_in_block d exact n q turn p (seen.arc b f c clockwise h) e s = refl
  one_in_block d exact n q turn p (seen.contour a first count) e s = refl
  one_in_block d exact n q turn p (seen.block m a r) e s =
      let w = weights_at aps os n m e in
      let inner = lay_block aps os pcs d (composed q (flashed_at a r)) (cond (is_dark p) turn (not turn)) m in
      ap length (cond-true (ltb m n) inner [] (lt-ltb m n e))
      ∙ exact (composed q (flashed_at a r)) (cond (is_dark p) turn (not turn)) m (subst (λ (v : Weight). v.depth ≤ d) w s)
      ∙ sym (ap (λ (v : Weight). v.laid) w)

  all_in_block : (d : ℕ) → Exact d → (n : ℕ) (q : Put) (turn : Bool) (xs : List ObjectSeen) → AllEarlier n xs → deepest (weights aps os n) xs ≤ d
      → length (lay_all pcs (lay_block aps os pcs d) n q turn xs) ≡ laid_in (weights aps os n) xs
  all_in_block d exact n q turn [] e s = refl
  all_in_block d exact n q turn (x ∷ xs) (e, es) s =
      let a = one_in_block d exact n q turn x.polarity x.outline e (omega arith) in
      let b = all_in_block d exact n q turn xs es (omega arith) in
      let l = length-append (lay_one pcs (lay_block aps os pcs d) n q turn x) (lay_all pcs (lay_block aps os pcs d) n q turn xs) in
      omega arith

  in_figure : (d : ℕ) → Exact d → (n : ℕ) (q : Put) (turn : Bool) (f : FigureSeen) → AllEarlier n (objects_in n os f) → (weighed (weights aps os n) os n f).depth ≤ suc d
      → length (lay_all pcs (lay_block aps os pcs d) n q turn (objects_in n os f)) ≡ (weighed (weights aps os n) os n f).laid
  in_figure d exact n q turn (seen.circle h) e s = refl
  in_figure d exact n q turn (seen.rectangle a b) e s = refl
  in_figure d exact n q turn (seen.obround a b) e s = refl
  in_figure d exact n q turn (seen.block first) e s = all_in_block d exact n q turn (owned_from n first os) e (omega arith)

  no_depth : (n : ℕ) (f : FigureSeen) → (weighed (weights aps os n) os n f).depth ≤ 0 → 0 ≡ (weighed (weights aps os n) os n f).laid
  no_depth n (seen.circle h) s = refl
  no_depth n (seen.rectangle a b) s = refl
  no_depth n (seen.obround a b) s = refl
  no_depth n (seen.block first) s = absurd (omega arith)

  -- a block lays as many objects as it weighs, with room for its depth
  pub block_lays : (d : ℕ) (q : Put) (turn : Bool) (n : ℕ) → (weight_at aps os n).depth ≤ d → length (lay_block aps os pcs d q turn n) ≡ (weight_at aps os n).laid
  block_lays zero q turn n s =
      let w = weight_is aps os n in
      no_depth n (figure_at aps n) (subst (λ (v : Weight). v.depth ≤ 0) w s) ∙ sym (ap (λ (v : Weight). v.laid) w)
  block_lays (suc d) q turn n s =
      let w = weight_is aps os n in
      in_figure d (block_lays d) n q turn (figure_at aps n) (falls n) (subst (λ (v : Weight). v.depth ≤ suc d) w s) ∙ sym (ap (λ (v : Weight). v.laid) w)

-- Parts of sound objects

pub sound_drop : (aps : List ApertureSeen) (pcs : List At) (n : ℕ) (os : List ObjectSeen) → ObjectsSound aps pcs os → ObjectsSound aps pcs (drop n os)
sound_drop aps pcs zero os s = s
sound_drop aps pcs (suc n) [] s = s
sound_drop aps pcs (suc n) (o ∷ os) (a, b, s) = sound_drop aps pcs n os s

pub sound_take : (aps : List ApertureSeen) (pcs : List At) (n : ℕ) (os : List ObjectSeen) → ObjectsSound aps pcs os → ObjectsSound aps pcs (take n os)
sound_take aps pcs zero os s = tt
sound_take aps pcs (suc n) [] s = tt
sound_take aps pcs (suc n) (o ∷ os) (a, b, s) = (a, b, sound_take aps pcs n os s)

block_owner : (k : ℕ) (w : Owner) → is_block k w ≡ true → w ≡ Block k
block_owner k Layer e = let z : ◌≡◌ {A = ℕ} 0 1 = cc in absurd (omega arith)
block_owner k (Block j) e = ap Block (eqb-true j k e)
block_owner k (Repeat r) e = let z : ◌≡◌ {A = ℕ} 0 1 = cc in absurd (omega arith)

owned_earlier : (aps : List ApertureSeen) (pcs : List At) (k : ℕ) (xs : List ObjectSeen) → ObjectsSound aps pcs xs → AllEarlier k (front (owned_by k) xs)
owned_earlier aps pcs k [] s = tt
owned_earlier aps pcs k (x ∷ xs) (a, b, s) = by_test (owned_earlier aps pcs k xs s) (cases_Bool (owned_by k x))
  where
    by_test : AllEarlier k (front (owned_by k) xs) → (owned_by k x ≡ true) ⊎ (owned_by k x ≡ false) → AllEarlier k (front (owned_by k) (x ∷ xs))
    by_test r (inl e) =
        let o : OwnerSound aps x.outline (Block k) = subst (OwnerSound aps x.outline) (block_owner k x.owner e) b in
        subst (AllEarlier k) (sym (front_on (owned_by k) x xs e)) (o.2, r)
    by_test r (inr e) = subst (AllEarlier k) (sym (front_off (owned_by k) x xs e)) tt

pub falling : (aps : List ApertureSeen) (os : List ObjectSeen) (pcs : List At) → ObjectsSound aps pcs os → Falls aps os
falling aps os pcs s n = by_figure (figure_at aps n)
  where
    by_figure : (f : FigureSeen) → AllEarlier n (objects_in n os f)
    by_figure (seen.circle h) = tt
    by_figure (seen.rectangle a b) = tt
    by_figure (seen.obround a b) = tt
    by_figure (seen.block first) = owned_earlier aps pcs n (drop first os) (sound_drop aps pcs first os s)

-- Copies

pub copies : {X : Type 0} (n c : ℕ) (f : ℕ → List X) → ((i : ℕ) → i < n → length (f i) ≡ c) → length (up_to n f) ≡ n * c
copies zero c f h = omega arith
copies (suc n) c f h =
    let r = copies n c f (λ i l. h i (omega arith)) in
    let a = length-append (up_to n f) (f n) in
    let b = h n (omega arith) in
    let m = add-mul n 1 c in
    omega arith

-- no copy is moved past 60,000
in_reach_lem : (a n step : ℕ) → a < n → Repeats n step → a * step ≤ 60000
in_reach_lem a n step h r =
    let m : a * step ≤ (n - 1) * step = mul-le-mul_right step (omega arith) in
    omega (arith, r.2)

-- On the film
module _ (aps : List ApertureSeen) (os : List ObjectSeen) (pcs : List At) (sound : ObjectsSound aps pcs os) (few : length aps ≤ 128) (shallow : Shallow aps os) where
  one_lays : (q : Put) (turn : Bool) (p : Polarity) (o : OutlineSeen) → OutlineSound aps pcs o → length (lay_outline pcs (lay_block aps os pcs 8) 128 q turn p o) ≡ lays aps os o
  one_lays q turn p (seen.circle a h) s = refl
  one_lays q turn p (seen.rectangle a x y) s = refl
  one_lays q turn p (seen.obround a x y) s = refl
  one_lays q turn p (seen.stroke b f h) s = refl
  one_lays q turn p (seen.arc b f c clockwise h) s = refl
  one_lays q turn p (seen.contour a first count) s = refl
  one_lays q turn p (seen.block n a m) (w, l, b) =
      let inner = lay_block aps os pcs 8 (composed q (flashed_at a m)) (cond (is_dark p) turn (not turn)) n in
      ap length (cond-true (ltb n 128) inner [] (lt-ltb n 128 (omega arith)))
      ∙ block_lays aps os pcs (falling aps os pcs sound) 8 (composed q (flashed_at a m)) (cond (is_dark p) turn (not turn)) n (shallow n l)

  all_lay : (q : Put) (turn : Bool) (xs : List ObjectSeen) → ObjectsSound aps pcs xs → length (lay_all pcs (lay_block aps os pcs 8) 128 q turn xs) ≡ lays_all aps os xs
  all_lay q turn [] s = refl
  all_lay q turn (x ∷ xs) (a, b, s) =
      let e = one_lays q turn x.polarity x.outline a in
      let r = all_lay q turn xs s in
      let l = length-append (lay_one pcs (lay_block aps os pcs 8) 128 q turn x) (lay_all pcs (lay_block aps os pcs 8) 128 q turn xs) in
      omega arith

  -- a copy of a step and repeat
  abbrev copy : RepeatRecord → ℕ → ℕ → List LaidObject
  copy r x y = lay_copy aps os pcs 8 r x y

  copy_lays : (r : RepeatRecord) (x y : ℕ) → x ≤ 60000 → y ≤ 60000 → length (copy r x y) ≡ lays_all aps os (repeat_objects r os)
  copy_lays r x y h k =
      ap length (cond-true (in_reach x y) (lay_all pcs (lay_block aps os pcs 8) 128 (shifted x y) false (repeat_objects r os)) [] (and_from (leb x 60000) (leb y 60000) (le-leb x 60000 h) (le-leb y 60000 k)))
      ∙ all_lay (shifted x y) false (repeat_objects r os)
      (sound_take aps pcs (prefix_len (λ o. is_repeat r.first o.owner) (drop r.first os)) (drop r.first os) (sound_drop aps pcs r.first os sound))

  repeat_lays : (r : RepeatRecord) → Repeats r.columns r.step_x → Repeats r.rows r.step_y
      → length (lay_repeat aps os pcs 8 r) ≡ r.columns * (r.rows * lays_all aps os (repeat_objects r os))
  repeat_lays r c d =
      copies r.columns (r.rows * lays_all aps os (repeat_objects r os)) (λ a. up_to r.rows (λ b. copy r (a * r.step_x) (b * r.step_y))) (λ a h.
      copies r.rows (lays_all aps os (repeat_objects r os)) (λ b. copy r (a * r.step_x) (b * r.step_y)) (λ b g.
      copy_lays r (a * r.step_x) (b * r.step_y) (in_reach_lem a r.columns r.step_x h c) (in_reach_lem b r.rows r.step_y g d)))

  or_nothing_lem : (b : Bool) (l : List LaidObject) (c : ℕ) → length l ≡ c → length (cond b l []) ≡ cond b c 0
  or_nothing_lem true l c e = e
  or_nothing_lem false l c e = refl

  owned_lays : (i : ℕ) (o : ObjectSeen) (w : Owner) → OutlineSound aps pcs o.outline → OwnerSound aps o.outline w → length (lay_owned aps os pcs 8 i o w) ≡ counted aps os i o.outline w
  owned_lays i o Layer s c = one_lays still false o.polarity o.outline s
  owned_lays i o (Block k) s c = refl
  owned_lays i o (Repeat r) s (c, d) =
      or_nothing_lem (eqb r.first i) (lay_repeat aps os pcs 8 r) (r.columns * (r.rows * lays_all aps os (repeat_objects r os))) (repeat_lays r c d)

  from_lays : (i : ℕ) (xs : List ObjectSeen) → ObjectsSound aps pcs xs → length (lay_from aps os pcs 8 i xs) ≡ count_from aps os i xs
  from_lays i [] s = refl
  from_lays i (x ∷ xs) (a, b, s) =
      let e = owned_lays i x x.owner a b in
      let r = from_lays (i + 1) xs s in
      let l = length-append (lay_owned aps os pcs 8 i x x.owner) (lay_from aps os pcs 8 (i + 1) xs) in
      omega arith

  pub objects_lay : length (laid_objects aps os pcs) ≡ count_from aps os 0 os
  unfolding laid_objects
  objects_lay = from_lays 0 os sound
