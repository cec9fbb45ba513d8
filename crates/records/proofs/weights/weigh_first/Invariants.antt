use Rattle.std.proofs.Common.{◌≡◌, map, take, drop}
use Rattle.records.specs.Records.{seen_aperture, seen_object}
use Rattle.records.specs.Weights.{capped, weights}
use Rattle.records.proofs.weights.weigh_first.Given as goal

abbrev pub invariant-loop-number : goal.invariant-loop-number
invariant-loop-number l =
    (take l.number l.out ≡ map capped (weights (map seen_aperture l.apertures) (map seen_object l.objects) l.number))
    × (drop l.number l.out ≡ drop l.number l.initial.out)
