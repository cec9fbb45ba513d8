use Rattle.std.proofs.Common.{◌≡◌, ℕ, suc, ◌+◌, ◌<◌, min, List, [], ◌∷◌, ◌++◌, map, length, get_or, take, drop, set, sym, refl, ap, ◌∙◌, subst, add-one, arith}
use Rattle.records.specs.Records as seen
use Rattle.records.specs.Records.{ApertureSeen, FigureSeen, ObjectSeen, OutlineSeen, seen_aperture, seen_figure}
use Rattle.records.specs.Weights.{capped, deepest, depth_by, figure_at, laid_by, laid_in, none, owned_from, weighed, weights}
use Rattle.records.specs.declared.kinds.Aperture.{Aperture}
use Rattle.records.specs.declared.weights.Weight.{Weight}
use Rattle.std.proofs.Math.ListN as lists
use Rattle.std.proofs.lemmas.List.{drop-drop, drop-set-lt, get_or-map, map_push, take_more_set}

-- what one object brings, by capped weights
depth_capped : (ws : List Weight) (o : OutlineSeen) → min 9 (depth_by (map capped ws) o) ≡ min 9 (depth_by ws o)
depth_capped ws (seen.circle p h) = refl
depth_capped ws (seen.rectangle p a b) = refl
depth_capped ws (seen.obround p a b) = refl
depth_capped ws (seen.stroke s e h) = refl
depth_capped ws (seen.arc s e c clockwise h) = refl
depth_capped ws (seen.contour s first count) = refl
depth_capped ws (seen.block n p m) = let e = ap (λ (w : Weight). w.depth) (lists.get_or-map capped ws n none) in omega arith

laid_capped : (ws : List Weight) (o : OutlineSeen) → min 1000001 (laid_by (map capped ws) o) ≡ min 1000001 (laid_by ws o)
laid_capped ws (seen.circle p h) = refl
laid_capped ws (seen.rectangle p a b) = refl
laid_capped ws (seen.obround p a b) = refl
laid_capped ws (seen.stroke s e h) = refl
laid_capped ws (seen.arc s e c clockwise h) = refl
laid_capped ws (seen.contour s first count) = refl
laid_capped ws (seen.block n p m) = let e = ap (λ (w : Weight). w.laid) (lists.get_or-map capped ws n none) in omega arith

-- what all objects bring
deepest_capped : (ws : List Weight) (os : List ObjectSeen) → min 9 (1 + deepest (map capped ws) os) ≡ min 9 (1 + deepest ws os)
deepest_capped ws [] = refl
deepest_capped ws (o ∷ os) = omega (arith, depth_capped ws o.outline, deepest_capped ws os)

laid_in_capped : (ws : List Weight) (os : List ObjectSeen) → min 1000001 (laid_in (map capped ws) os) ≡ min 1000001 (laid_in ws os)
laid_in_capped ws [] = refl
laid_in_capped ws (o ∷ os) = omega (arith, laid_capped ws o.outline, laid_in_capped ws os)

weighed_depth : (ws : List Weight) (os : List ObjectSeen) (k : ℕ) (f : FigureSeen) → min 9 (weighed (map capped ws) os k f).depth ≡ min 9 (weighed ws os k f).depth
weighed_depth ws os k (seen.circle h) = refl
weighed_depth ws os k (seen.rectangle a b) = refl
weighed_depth ws os k (seen.obround a b) = refl
weighed_depth ws os k (seen.block n) = deepest_capped ws (owned_from k n os)

weighed_laid : (ws : List Weight) (os : List ObjectSeen) (k : ℕ) (f : FigureSeen) → min 1000001 (weighed (map capped ws) os k f).laid ≡ min 1000001 (weighed ws os k f).laid
weighed_laid ws os k (seen.circle h) = refl
weighed_laid ws os k (seen.rectangle a b) = refl
weighed_laid ws os k (seen.obround a b) = refl
weighed_laid ws os k (seen.block n) = laid_in_capped ws (owned_from k n os)

same_weight : (a b : Weight) → a.depth ≡ b.depth → a.laid ≡ b.laid → a ≡ b
same_weight a b p q =
    let F : ℕ → Weight = λ x. record { depth = x; laid = a.laid } in
    let G : ℕ → Weight = λ x. record { depth = b.depth; laid = x } in
    ap F p ∙ ap G q

-- entry j is written over the earlier ones
pub weigh_more : (aps : List ApertureSeen) (os : List ObjectSeen) (k j : ℕ) (mid : List Weight) (w : Weight)
    → k ≡ suc j → j < length mid
    → take j mid ≡ map capped (weights aps os j)
    → w.depth ≡ min 9 (weighed (take j mid) os j (figure_at aps j)).depth
    → w.laid ≡ min 1000001 (weighed (take j mid) os j (figure_at aps j)).laid
    → take k (set mid j w) ≡ map capped (weights aps os k)
weigh_more aps os k j mid w e h t d l =
    let f = figure_at aps j in
    let ws = weights aps os j in
    let d2 : w.depth ≡ min 9 (weighed ws os j f).depth = d ∙ ap (λ (v : List Weight). min 9 (weighed v os j f).depth) t ∙ weighed_depth ws os j f in
    let l2 : w.laid ≡ min 1000001 (weighed ws os j f).laid = l ∙ ap (λ (v : List Weight). min 1000001 (weighed v os j f).laid) t ∙ weighed_laid ws os j f in
    let wc : w ≡ capped (weighed ws os j f) = same_weight w (capped (weighed ws os j f)) d2 l2 in
    let s : take (j + 1) (set mid j w) ≡ map capped (weights aps os (suc j)) =
    take_more_set mid j w h ∙ ap (λ (v : List Weight). v ++ w ∷ []) t
    ∙ ap (λ (v : Weight). map capped ws ++ v ∷ []) wc ∙ sym (map_push capped ws (weighed ws os j f)) in
    subst (λ n. take n (set mid j w) ≡ map capped (weights aps os n)) (sym e) (rw add-one at s)

pub rest_more : (k j : ℕ) (mid old : List Weight) (w : Weight) → k ≡ j + 1 → drop j mid ≡ drop j old → drop k (set mid j w) ≡ drop k old
rest_more k j mid old w e h =
    let lt : j < k = omega arith in
    drop-set-lt k mid j w lt
    ∙ subst (λ n. drop n mid ≡ drop n old) (sym e) (sym (drop-drop 1 j mid) ∙ ap (drop 1) h ∙ drop-drop 1 j old)

-- the figure of an aperture record
pub figure_read : (aps : List Aperture) (j : ℕ) (x : Aperture) → j < length aps → x ≡ get_or aps j x → seen_figure x.figure ≡ figure_at (map seen_aperture aps) j
figure_read aps j x h e =
    ap (λ (a : Aperture). seen_figure a.figure) e ∙ sym (ap (λ (a : ApertureSeen). a.figure) (get_or-map seen_aperture aps j x (record { code = 0; figure = seen.circle 0 }) h))
