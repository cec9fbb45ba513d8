-- the weights of all apertures at once
use Rattle.std.proofs.Common.{◌≡◌, ℕ, zero, suc, ◌+◌, ◌-◌, ◌<◌, ◌≤◌, min, true, false, cond, ◌&&◌, ltb, ◌⊎◌, List, [], ◌∷◌, map, length, get_or, take, drop, replicate, Some, None, sym, refl, ap, ◌∙◌, inl, inr, ⊎_elim, arith}
use Rattle.std.proofs.Math.ListN.{get_or-map}
use Rattle.records.specs.Records.{ApertureSeen, ObjectSeen}
use Rattle.records.specs.Weights.{capped, figure_at, none, or_nothing, weighed, weight_at, weight_told, weights}
use Rattle.records.specs.declared.weights.Weight.{Weight}
use Rattle.std.proofs.lemmas.List.{get_or_append_left, get_or-drop, get_or_past, get_or-replicate, get_or-take, length-map, length_push, length-replicate, length-take}
use Rattle.std.proofs.lemmas.Bool.{cases_lt}
use Rattle.std.proofs.lemmas.Bool.Decides.{nat_tests}

-- nothing stands behind what is written over nothing
pub nothing_behind : (n k j : ℕ) (out front : List Weight) → take k out ≡ front → drop k out ≡ drop k (replicate n none) → get_or out j none ≡ get_or front j none
nothing_behind n k j out front t d = ⊎_elim before behind (cases_lt j k)
  where
    blank : (i : ℕ) → get_or (replicate n none) i none ≡ none
    blank i = ⊎_elim (λ (h : i < n). get_or-replicate n i none none h) (λ (h : n ≤ i). get_or_past (replicate n none) i none (omega (arith, length-replicate n none))) (cases_lt i n)

    before : j < k → get_or out j none ≡ get_or front j none
    before h = sym (get_or-take k out j none h) ∙ ap (λ (v : List Weight). get_or v j none) t

    behind : k ≤ j → get_or out j none ≡ get_or front j none
    behind h =
        let e : k + (j - k) ≡ j = omega arith in
        let few = length-take k out in
        let past : length (take k out) ≤ j = omega arith in
        ap (λ i. get_or out i none) (sym e) ∙ sym (get_or-drop k out (j - k) none) ∙ ap (λ (v : List Weight). get_or v (j - k) none) d
        ∙ get_or-drop k (replicate n none) (j - k) none ∙ blank (k + (j - k))
        ∙ sym (get_or_past (take k out) j none past) ∙ ap (λ (v : List Weight). get_or v j none) t

module _ (aps : List ApertureSeen) (os : List ObjectSeen) where
  pub weights_length : (k : ℕ) → length (weights aps os k) ≡ k
  weights_length zero = refl
  weights_length (suc k) = let e = length_push (weights aps os k) (weighed (weights aps os k) os k (figure_at aps k)) in let r = weights_length k in omega arith

  -- the weight of an earlier aperture stays
  pub weight_stays : (n k : ℕ) → k < n → get_or (weights aps os n) k none ≡ weight_at aps os k
  unfolding weight_at
  weight_stays zero k h = absurd (omega arith)
  weight_stays (suc n) k h = go (λ l. weight_stays n k l) (search arith)
    where
      go : (k < n → get_or (weights aps os n) k none ≡ weight_at aps os k) → (k < n) ⊎ (k ≡ n) → get_or (weights aps os (suc n)) k none ≡ weight_at aps os k
      go earlier (inl l) =
          let e = weights_length n in
          get_or_append_left (weights aps os n) (weighed (weights aps os n) os n (figure_at aps n) ∷ []) none k (omega arith) ∙ earlier l
      go earlier (inr e) = ap (λ m. get_or (weights aps os (suc m)) k none) (sym e)

  told : (n k : ℕ) → k < n → n ≤ 128 → (m : ℕ) → n ≤ m → or_nothing (weight_told m aps os k) ≡ capped (weight_at aps os k)
  told n k h l m g = let t : (ltb k m && ltb k 128) ≡ true = grind (arith, nat_tests) in ap (λ b. or_nothing (cond b (Some (capped (weight_at aps os k))) None)) t

  untold : (m k : ℕ) → min m 128 ≤ k → or_nothing (weight_told m aps os k) ≡ none
  untold m k h = let t : (ltb k m && ltb k 128) ≡ false = grind (arith, nat_tests) in ap (λ b. or_nothing (cond b (Some (capped (weight_at aps os k))) None)) t

  -- the last of the weights of the first k + 1 apertures is told
  pub last_weighed : (m k : ℕ) → k < m → k < 128 → Some (get_or (map capped (weights aps os (k + 1))) k none) ≡ weight_told m aps os k
  last_weighed m k h l =
      let t : (ltb k m && ltb k 128) ≡ true = grind (arith, nat_tests) in
      ap Some (get_or-map capped (weights aps os (k + 1)) k none ∙ ap capped (weight_stays (k + 1) k (omega arith))) ∙ sym (ap (λ b. cond b (Some (capped (weight_at aps os k))) None) t)

  pub all_weighed : (m n k : ℕ) → n ≡ min m 128 → get_or (map capped (weights aps os n)) k none ≡ or_nothing (weight_told m aps os k)
  all_weighed m n k e =
      ⊎_elim
      (λ (h : k < n). get_or-map capped (weights aps os n) k none ∙ ap capped (weight_stays n k h) ∙ sym (told n k h (omega arith) m (omega arith)))
      (λ (h : n ≤ k). let l = weights_length n in let p : length (map capped (weights aps os n)) ≤ k = simp length-map (omega arith) in get_or_past (map capped (weights aps os n)) k none p ∙ sym (untold m k (omega arith)))
      (cases_lt k n)
