-- the objects of a group, from the one with the number i on
use Rattle.std.proofs.Common.{◌≡◌, ℕ, ◌+◌, ◌<◌, Bool, true, false, cond, List, [], ◌∷◌, map, length, get_or, take, drop, sym, ap, ◌∙◌, one-add, arith}
use Rattle.records.proofs.Parts.{leading_map}
use Rattle.records.specs.Records.{ObjectSeen, seen_object}
use Rattle.records.specs.declared.kinds.Object.{Object}
use Rattle.std.proofs.lemmas.List.{drop-map, drop_more, get_or-map, length-map, take-map}
use Rattle.std.specs.List.{prefix_len}

abbrev pub front : (ObjectSeen → Bool) → List ObjectSeen → List ObjectSeen
front p os = take (prefix_len p os) os

module _ (p : ObjectSeen → Bool) where
  headed : (o : ObjectSeen) (os : List ObjectSeen) → p o ≡ true → front p (o ∷ os) ≡ o ∷ front p os
  headed o os e =
      ap (λ b. take (cond b (1 + prefix_len p os) 0) (o ∷ os)) e ∙ ap (λ n. take n (o ∷ os)) (one-add (prefix_len p os))

  stopped : (o : ObjectSeen) (os : List ObjectSeen) → p o ≡ false → front p (o ∷ os) ≡ []
  stopped o os e = ap (λ b. take (cond b (1 + prefix_len p os) 0) (o ∷ os)) e

  module _ (os : List Object) (i : ℕ) where
    -- the part of the table that they are
    pub front_part : (rest : List Object) (n : ℕ) → rest ≡ drop i os → n ≡ prefix_len (λ o. p (seen_object o)) rest → map seen_object (take n rest) ≡ front p (drop i (map seen_object os))
    front_part rest n e h =
        sym (take-map seen_object n rest) ∙ ap (λ k. take k (map seen_object rest)) (h ∙ sym (leading_map p seen_object rest))
        ∙ ap (front p) (ap (map seen_object) e ∙ sym (drop-map seen_object i os))

    module _ (x : Object) (h : i < length os) (e : x ≡ get_or os i x) where
      pub at_front : drop i (map seen_object os) ≡ seen_object x ∷ drop (i + 1) (map seen_object os)
      at_front =
          let l : i < length (map seen_object os) = simp length-map (omega arith) in
          drop_more (map seen_object os) i (seen_object x) l
          ∙ ap (λ (o : ObjectSeen). o ∷ drop (i + 1) (map seen_object os)) (get_or-map seen_object os i x (seen_object x) h ∙ ap seen_object (sym e))

      pub front_more : p (seen_object x) ≡ true → front p (drop i (map seen_object os)) ≡ seen_object x ∷ front p (drop (i + 1) (map seen_object os))
      front_more t = ap (front p) at_front ∙ headed (seen_object x) (drop (i + 1) (map seen_object os)) t

      pub front_stop : p (seen_object x) ≡ false → front p (drop i (map seen_object os)) ≡ []
      front_stop t = ap (front p) at_front ∙ stopped (seen_object x) (drop (i + 1) (map seen_object os)) t
