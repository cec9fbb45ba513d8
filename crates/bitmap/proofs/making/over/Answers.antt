use Rattle.std.proofs.Common.{◌≡◌, ℕ, ◌≤◌, min, length, List, ◌++◌, drop, replicate, vec_items, ap, ◌∙◌, arith, rules}
use Rattle.std.specs.Vec.{with_items}
use Rattle.std.proofs.lemmas.List.{with_items_is}
use Rattle.bitmap.proofs.Places.{new_padded, new_bitmap, not_refused}
use Rattle.bitmap.proofs.making.over.Goals as goal

-- what the memory holds once its own part is cleared
cleared : (xs ys zs ws : List ℕ) (n k : ℕ) → zs ≡ ys → ys ≡ replicate (min k (length ws)) 0 ++ drop k ws → k ≤ length ws → k ≡ n → ws ≡ xs → zs ≡ replicate n 0 ++ drop n xs
cleared xs ys zs ws n k a b h e f =
    let m : min k (length ws) ≡ k = omega arith in
    a ∙ b ∙ ap (λ i. replicate i 0 ++ drop k ws) m ∙ ap (λ i. replicate i 0 ++ drop i ws) e ∙ ap (λ zs. replicate n 0 ++ drop n zs) f

pub invariant_of-result : goal.invariant_of-result
invariant_of-result c =
    let is : vec_items (with_items c.args.memory c.fill_front.new.memory) ≡ c.fill_front.new.memory = with_items_is c.args.memory c.fill_front.new.memory (search rules) in
    let e = cleared _ _ _ c.deref_mut.result.now _ c.own_bytes-own.result is c.fill_front.ensures (omega arith) c.own_bytes-own.ensures c.deref_mut.ensures.value in
    record { long = omega arith; padded = new_padded c.args.numbers (vec_items c.args.memory) _ e }

pub returns : goal.returns
returns c =
    let is : vec_items (with_items c.args.memory c.fill_front.new.memory) ≡ c.fill_front.new.memory = with_items_is c.args.memory c.fill_front.new.memory (search rules) in
    let e = cleared _ _ _ c.deref_mut.result.now _ c.own_bytes-own.result is c.fill_front.ensures (omega arith) c.own_bytes-own.ensures c.deref_mut.ensures.value in
    (not_refused c.args.numbers _ (omega arith), new_bitmap c.args.numbers (vec_items c.args.memory) _ e)
