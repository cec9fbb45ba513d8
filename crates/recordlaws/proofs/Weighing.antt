-- The weights of blocks as the tables grow.
use Rattle.std.proofs.Common.{◌≡◌, ℕ, zero, suc, ◌+◌, ◌<◌, ◌≤◌, false, ◌⊎◌, List, [], ◌∷◌, ◌++◌, length, get_or, drop, refl, ap, ◌∙◌, subst, inl, inr, arith}
use Rattle.recordlaws.proofs.Fronts.{front, front_without}
use Rattle.recordlaws.proofs.Growing.{figure_before}
use Rattle.recordlaws.specs.Laws.{AperturesSound, FigureSound}
use Rattle.records.specs.Records as seen
use Rattle.records.specs.Records.{ApertureSeen, FigureSeen, ObjectSeen}
use Rattle.records.specs.Weights.{deepest, figure_at, laid_in, none, owned_by, owned_from, weighed, weight_at, weights}
use Rattle.records.specs.declared.weights.Weight.{Weight}
use Rattle.std.proofs.lemmas.List.{drop-append-le, get_or_append_left, get_or_push, length_push}

module _ (aps : List ApertureSeen) (os : List ObjectSeen) where
  weights_length : (k : ℕ) → length (weights aps os k) ≡ k
  weights_length zero = refl
  weights_length (suc k) =
      let e = length_push (weights aps os k) (weighed (weights aps os k) os k (figure_at aps k)) in
      let r = weights_length k in
      omega arith

  -- the weight of a block, from those of the earlier ones
  pub weight_is : (k : ℕ) → weight_at aps os k ≡ weighed (weights aps os k) os k (figure_at aps k)
  unfolding weight_at
  weight_is k = get_or_push (weights aps os k) (weighed (weights aps os k) os k (figure_at aps k)) none k (weights_length k)

  pub weights_at : (k j : ℕ) → j < k → get_or (weights aps os k) j none ≡ weight_at aps os j
  unfolding weight_at
  weights_at zero j h = absurd (omega arith)
  weights_at (suc k) j h = by_order (λ l. weights_at k j l) (search arith)
    where
      by_order : (j < k → get_or (weights aps os k) j none ≡ weight_at aps os j) → (j < k) ⊎ (j ≡ k) → get_or (weights aps os (suc k)) j none ≡ weight_at aps os j
      by_order before (inl l) =
          let n = weights_length k in
          get_or_append_left (weights aps os k) (weighed (weights aps os k) os k (figure_at aps k) ∷ []) none j (omega arith) ∙ before l
      by_order before (inr e) = subst (λ i. get_or (weights aps os (suc i)) j none ≡ get_or (weights aps os (suc j)) j none) e refl

-- One more aperture

pub weights_aperture : (aps : List ApertureSeen) (a : ApertureSeen) (os : List ObjectSeen) (k : ℕ) → k ≤ length aps → weights (aps ++ (a ∷ [])) os k ≡ weights aps os k
weights_aperture aps a os zero h = refl
weights_aperture aps a os (suc k) h =
    let r = weights_aperture aps a os k (omega arith) in
    let f = figure_before aps a k (omega arith) in
    ap (λ (g : FigureSeen). weights (aps ++ (a ∷ [])) os k ++ (weighed (weights (aps ++ (a ∷ [])) os k) os k g ∷ [])) f
    ∙ ap (λ (ws : List Weight). ws ++ (weighed ws os k (figure_at aps k) ∷ [])) r

pub weight_aperture : (aps : List ApertureSeen) (a : ApertureSeen) (os : List ObjectSeen) (k : ℕ) → k < length aps → weight_at (aps ++ (a ∷ [])) os k ≡ weight_at aps os k
unfolding weight_at
weight_aperture aps a os k h = ap (λ (ws : List Weight). get_or ws k none) (weights_aperture aps a os (suc k) (omega arith))

-- One more object

pub figure_sound : (n : ℕ) (aps : List ApertureSeen) (k : ℕ) → AperturesSound n aps → FigureSound n (figure_at aps k)
figure_sound n [] k s = omega arith
figure_sound n (a ∷ aps) zero s = s.0
figure_sound n (a ∷ aps) (suc k) s = figure_sound n aps k s.1

owned_without : (os : List ObjectSeen) (o : ObjectSeen) (k first : ℕ) → first ≤ length os → owned_by k o ≡ false → owned_from k first (os ++ (o ∷ [])) ≡ owned_from k first os
owned_without os o k first h e = ap (front (owned_by k)) (drop-append-le first os (o ∷ []) h) ∙ front_without (owned_by k) (drop first os) o e

weighed_without : (ws : List Weight) (os : List ObjectSeen) (o : ObjectSeen) (k : ℕ) (f : FigureSeen) → FigureSound (length os) f → owned_by k o ≡ false
    → weighed ws (os ++ (o ∷ [])) k f ≡ weighed ws os k f
weighed_without ws os o k (seen.circle h) s e = refl
weighed_without ws os o k (seen.rectangle a b) s e = refl
weighed_without ws os o k (seen.obround a b) s e = refl
weighed_without ws os o k (seen.block first) s e =
    ap (λ (l : List ObjectSeen). record { depth = 1 + deepest ws l; laid = laid_in ws l }) (owned_without os o k first s e)

-- an object of no block below k leaves their weights
pub weights_object : (aps : List ApertureSeen) (os : List ObjectSeen) (o : ObjectSeen) (k : ℕ) → AperturesSound (length os) aps → ((j : ℕ) → j < k → owned_by j o ≡ false)
    → weights aps (os ++ (o ∷ [])) k ≡ weights aps os k
weights_object aps os o zero s h = refl
weights_object aps os o (suc k) s h =
    let r = weights_object aps os o k s (λ j l. h j (omega arith)) in
    let w = weighed_without (weights aps os k) os o k (figure_at aps k) (figure_sound (length os) aps k s) (h k (omega arith)) in
    ap (λ (ws : List Weight). ws ++ (weighed ws (os ++ (o ∷ [])) k (figure_at aps k) ∷ [])) r
    ∙ ap (λ (x : Weight). weights aps os k ++ (x ∷ [])) w

pub weight_object : (aps : List ApertureSeen) (os : List ObjectSeen) (o : ObjectSeen) (k : ℕ) → AperturesSound (length os) aps → ((j : ℕ) → j < suc k → owned_by j o ≡ false)
    → weight_at aps (os ++ (o ∷ [])) k ≡ weight_at aps os k
unfolding weight_at
weight_object aps os o k s h = ap (λ (ws : List Weight). get_or ws k none) (weights_object aps os o (suc k) s h)
