use Rattle.std.proofs.Common.{◌≡◌, ℕ, ◌+◌, ◌<◌, List, [], ◌∷◌, ◌++◌, length, get_or, take, drop, replicate, set, sym, ap, ◌∙◌, append_assoc, arith}
use lib.ListN.{length-replicate}
use Rattle.std.proofs.lemmas.List.{drop_more, set_at, replicate_more}
use Rattle.film.proofs.memory.fill_front.Goals as goal

-- one place more
filled : {X : Type 0} (n : ℕ) (v : X) (xs : List X) → n < length xs → set (replicate n v ++ drop n xs) n v ≡ replicate (n + 1) v ++ drop (n + 1) xs
filled n v xs h =
    ap (λ ys. set (replicate n v ++ ys) n v) (drop_more xs n v h)
    ∙ set_at (replicate n v) (get_or xs n v) (drop (n + 1) xs) v n (simp length-replicate)
    ∙ sym (append_assoc (replicate n v) (v ∷ []) (drop (n + 1) xs))
    ∙ ap (λ ys. ys ++ drop (n + 1) xs) (replicate_more n v)

pub loop-place-preserved : goal.loop-place-preserved
loop-place-preserved g c =
    ap (λ xs. set xs c.loop-place.place-index c.args.value) c.loop-place.invariant
    ∙ filled c.loop-place.place-index c.args.value (take c.min-own.result c.args.memory.now) (omega arith)
