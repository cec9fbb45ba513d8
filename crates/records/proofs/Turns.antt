use Rattle.std.proofs.Common.{◌≡◌, ℕ, ◌+◌, ◌<◌, max, List, map, length, get_or, drop, sym, ap, ◌∙◌}
use Rattle.records.specs.Records.{seen_object, seen_outline}
use Rattle.records.specs.Weights.{deepest, depth_by, laid_by, laid_in}
use Rattle.records.specs.declared.kinds.Object.{Object}
use Rattle.records.specs.declared.weights.Weight.{Weight}
use Rattle.std.proofs.lemmas.List.{at_drop_more}

-- depth and laid count, one object on
module _ (ws : List Weight) (os : List Object) (i : ℕ) (x : Object) (h : i < length os) (e : x ≡ get_or os i x) where
  pub depth_more : deepest ws (map seen_object (drop i os)) ≡ max (depth_by ws (seen_outline x.outline)) (deepest ws (map seen_object (drop (i + 1) os)))
  depth_more = at_drop_more (λ (l : List Object). deepest ws (map seen_object l)) os i x h ∙ ap (λ (o : Object). max (depth_by ws (seen_outline o.outline)) (deepest ws (map seen_object (drop (i + 1) os)))) (sym e)

  pub laid_more : laid_in ws (map seen_object (drop i os)) ≡ laid_by ws (seen_outline x.outline) + laid_in ws (map seen_object (drop (i + 1) os))
  laid_more = at_drop_more (λ (l : List Object). laid_in ws (map seen_object l)) os i x h ∙ ap (λ (o : Object). laid_by ws (seen_outline o.outline) + laid_in ws (map seen_object (drop (i + 1) os))) (sym e)
