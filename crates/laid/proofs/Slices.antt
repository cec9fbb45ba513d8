-- parts of a slice
use Rattle.std.proofs.Common.{◌≡◌, ℕ, ◌-◌, ◌<◌, ◌≤◌, List, [], length, take, drop, Some, None, Option, Bor, unwrap_or, sym, ap, ◌∙◌, ⊎_elim, arith}
use Rattle.std.proofs.lemmas.List.{drop_all, length-drop, take_all}
use Rattle.std.specs.Slice.{IsGetRangeResult}

module _ {X : Type 0} (xs : List X) (n : ℕ) where
  -- from the item with the number n on, and nothing where there is none
  pub rest_of : (empty : Bor (List X)) (r : Option (Bor (List X))) → empty.now ≡ [] → IsGetRangeResult xs n (length xs) r → (unwrap_or r empty).now ≡ drop n xs
  rest_of empty None e h = let l : length xs ≤ n = ⊎_elim (λ (a : length xs < n). omega arith) (λ (a : length xs < length xs). omega arith) h.0 in e ∙ sym (drop_all n xs l)
  rest_of empty (Some s) e h = let l : length (drop n xs) ≤ length xs - n = simp length-drop (omega arith) in h.0.2 ∙ take_all (length xs - n) (drop n xs) l

  -- the first n items, and all where there are fewer
  pub front_of : (whole : Bor (List X)) (r : Option (Bor (List X))) → whole.now ≡ xs → IsGetRangeResult xs 0 n r → (unwrap_or r whole).now ≡ take n xs
  front_of whole None e h = let l : length xs ≤ n = ⊎_elim (λ (a : n < 0). omega arith) (λ (a : length xs < n). omega arith) h.0 in e ∙ sym (take_all n xs l)
  front_of whole (Some s) e h = let all : n - 0 ≡ n = omega arith in h.0.2 ∙ ap (λ k. take k xs) all
