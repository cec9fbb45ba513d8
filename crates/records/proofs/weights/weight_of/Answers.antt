use Rattle.std.proofs.Common.{List, map, arith}
use Rattle.records.proofs.Turns.{depth_more, laid_more}
use Rattle.records.proofs.weights.weight_of.Goals as goal
use Rattle.records.specs.Records.{seen_object}
use Rattle.records.specs.Weights.{deepest, laid_in}
use Rattle.records.specs.declared.kinds.Object.{Object}
use Rattle.std.proofs.lemmas.List.{at_drop_all}

pub loop-object-preserved : goal.loop-object-preserved
loop-object-preserved c =
    let d = depth_more c.args.done.now c.args.part.now c.loop-object.object-index c.object-item.result (omega arith) c.object-item.is in
    let l = laid_more c.args.done.now c.args.part.now c.loop-object.object-index c.object-item.result (omega arith) c.object-item.is in (
      omega (arith, d, c.weight_by-weight.ensures.depth, c.max-depth.ensures, c.loop-object.invariant.0),
      omega (arith, l, c.weight_by-weight.ensures.laid, c.saturating_add.ensures, c.min-laid.ensures, c.loop-object.invariant.1),
      omega arith,
    )

pub returns : goal.returns
returns c =
    let d = at_drop_all (λ (l : List Object). deepest c.args.done.now (map seen_object l)) c.args.part.now c.loop-object.object-index (omega arith) in
    let l = at_drop_all (λ (l : List Object). laid_in c.args.done.now (map seen_object l)) c.args.part.now c.loop-object.object-index (omega arith) in
    record { depth = omega (arith, d, c.loop-object.invariant.0); laid = omega (arith, l, c.loop-object.invariant.1, c.loop-object.invariant.2) }
