use Rattle.std.proofs.Common.{◌-◌, ◌≤◌, List, length, take, drop, ap, ◌∙◌, rules, tests, arith}
use Rattle.std.proofs.lemmas.Iterator.{YieldsList-from_slice}
use Rattle.std.proofs.lemmas.Iterator.Consumers.{count_from_yields_List}
use Rattle.std.proofs.lemmas.Iterator.Search.{YieldsList-from_take_while}
use Rattle.std.proofs.lemmas.List.{length-drop, take_all}
use Rattle.std.proofs.lemmas.List.Folds.{length-prefix_len}
use Rattle.records.specs.Records.{seen_object}
use Rattle.records.specs.Weights.{owned_by}
use Rattle.records.specs.declared.kinds.Object.{Object}
use Rattle.records.proofs.Parts.{owned_part}
use Rattle.records.proofs.weights.part.Goals as goal

pub returns : goal.returns
returns c =
    let os = c.args.objects.now in
    let rest : List Object = take (length c.args.objects.now - c.min.result) (drop c.min.result c.args.objects.now) in
    let n = count_from_yields_List c.take_while.result _ c.count-count.ensures.ran
    (YieldsList-from_take_while _ (λ o. owned_by c.args.number (seen_object o)) (YieldsList-from_slice rest cc) c.take_while.ensures.closure c.take_while.ensures.done (λ x b q k. search (rules, tests)))
    ∙ length-prefix_len (λ o. owned_by c.args.number (seen_object o)) rest in
    let l : length (drop c.min.result c.args.objects.now) ≤ length c.args.objects.now - c.min.result = omega (arith, length-drop c.min.result c.args.objects.now) in
    owned_part os rest c.args.number c.args.first c.count-count.result (take_all _ _ l ∙ ap (λ i. drop i os) c.min.ensures) n
