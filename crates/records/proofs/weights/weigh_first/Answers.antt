use Rattle.std.proofs.Common.{◌≡◌, ◌+◌, map, get_or, take, drop, replicate, subst, ap, ◌∙◌, arith, rules}
use Rattle.records.proofs.All.{nothing_behind}
use Rattle.records.proofs.Caps.{figure_read, rest_more, weigh_more}
use Rattle.records.proofs.weights.weigh_first.Goals as goal
use Rattle.records.specs.Records.{seen_aperture, seen_object}
use Rattle.records.specs.Weights.{capped, none, weights}
use Rattle.records.specs.declared.weights.Weight.{Weight}
use Rattle.std.proofs.lemmas.List.{get_or-take, length-take}

pub loop-number-preserved : goal.loop-number-preserved
loop-number-preserved c =
    let k = c.args.k in
    let aps = c.args.apertures.now in
    let i = c.loop-number.number in
    let out = c.loop-number.out in
    let n = length-take k aps in
    let r : get_or (take c.args.k c.args.apertures.now) c.loop-number.number c.aperture-item.result ≡ get_or c.args.apertures.now c.loop-number.number c.aperture-item.result = get_or-take k aps i c.aperture-item.result (omega arith) in
    let f = figure_read aps i c.aperture-item.result (omega arith) (c.aperture-item.is ∙ r) in (
      weigh_more (map seen_aperture aps) (map seen_object c.args.objects.now) (i + 1) i out c.weigh_one.result (omega arith) (omega arith) c.loop-number.invariant.0
          (search rules)
          (search rules),
      rest_more (i + 1) i out _ c.weigh_one.result (omega arith) c.loop-number.invariant.1,
    )

pub returns : goal.returns
returns c j =
    let aps = c.args.apertures.now in
    let out = c.loop-number.out in
    let z : c.default-out.result ≡ none = search rules in
    let e : c.loop-number.number ≡ c.args.k = omega (arith, length-take c.args.k aps) in
    nothing_behind 128 c.args.k j out _
    (subst (λ i. take i c.loop-number.out ≡ map capped (weights (map seen_aperture c.args.apertures.now) (map seen_object c.args.objects.now) i)) e c.loop-number.invariant.0)
    (subst (λ i. drop i c.loop-number.out ≡ drop i (replicate 128 none)) e (c.loop-number.invariant.1 ∙ ap (λ (w : Weight). drop c.loop-number.number (replicate 128 w)) z))
