use Rattle.std.proofs.Common.{◌≡◌, ◌+◌, ◌≤◌, min, max, map, drop}
use Rattle.records.proofs.weights.weight_of.Given as goal
use Rattle.records.specs.Records.{seen_object}
use Rattle.records.specs.Weights.{deepest, laid_in}

abbrev pub invariant-loop-object : goal.invariant-loop-object
invariant-loop-object l =
    (max l.depth (deepest l.done (map seen_object (drop l.object-index l.part))) ≡ deepest l.done (map seen_object l.part))
    × (min 1000001 (l.laid + laid_in l.done (map seen_object (drop l.object-index l.part))) ≡ min 1000001 (laid_in l.done (map seen_object l.part)))
    × (l.laid ≤ 1000001)
