use Rattle.std.proofs.Common.{◌≡◌, ℕ, ◌+◌, ◌<◌, ◌≤◌, min, Bool, cond, List, [], ◌∷◌, map, length, take, drop, sym, refl, ap, ◌∙◌, ⊎_elim, arith}
use Rattle.std.proofs.lemmas.Bool.{cases_lt}
use Rattle.records.specs.Records.{seen_object}
use Rattle.records.specs.Weights.{owned_by, owned_from}
use Rattle.records.specs.declared.kinds.Object.{Object}
use Rattle.std.proofs.lemmas.List.{drop_all, drop-map, take-map}
use Rattle.std.specs.List.{prefix_len}

-- a front is as long before a map as after it
pub leading_map : {X Y : Type 0} (p : Y → Bool) (f : X → Y) (xs : List X) → prefix_len p (map f xs) ≡ prefix_len (λ x. p (f x)) xs
leading_map p f [] = refl
leading_map p f (x ∷ xs) = ap (λ n. cond (p (f x)) (1 + n) 0) (leading_map p f xs)

-- past its end a list leaves nothing
drop_min : {X : Type 0} (xs : List X) (n : ℕ) → drop (min n (length xs)) xs ≡ drop n xs
drop_min xs n =
    ⊎_elim
    (λ (h : n < length xs). let e : min n (length xs) ≡ n = omega arith in ap (λ i. drop i xs) e)
    (λ (h : length xs ≤ n). let e : min n (length xs) ≡ length xs = omega arith in ap (λ i. drop i xs) e ∙ drop_all (length xs) xs (omega arith) ∙ sym (drop_all n xs h))
    (cases_lt n (length xs))

-- the objects of a block, as they stand in the table
pub owned_part : (os rest : List Object) (k n j : ℕ) → rest ≡ drop (min n (length os)) os → j ≡ prefix_len (λ o. owned_by k (seen_object o)) rest → map seen_object (take j rest) ≡ owned_from k n (map seen_object os)
owned_part os rest k n j r h =
    let d : map seen_object rest ≡ drop n (map seen_object os) = ap (map seen_object) (r ∙ drop_min os n) ∙ sym (drop-map seen_object n os) in
    let l : j ≡ prefix_len (owned_by k) (drop n (map seen_object os)) = h ∙ sym (leading_map (owned_by k) seen_object rest) ∙ ap (prefix_len (owned_by k)) d in
    sym (take-map seen_object j rest) ∙ ap (take j) d ∙ ap (λ i. take i (drop n (map seen_object os))) l
