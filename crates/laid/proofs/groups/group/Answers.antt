use Rattle.laid.proofs.Fronts.{front_part}
use Rattle.laid.proofs.Slices.{rest_of}
use Rattle.laid.proofs.groups.group.Goals as goal
use Rattle.laid.specs.Laid.{is_repeat}
use Rattle.records.specs.declared.kinds.Object.{Object}
use Rattle.std.proofs.Common.{◌≡◌, List, Bor, drop, refl, ap, ◌∙◌}

pub returns : goal.returns
returns c =
    let os = c.args.objects.now in
    let rest : c.unwrap_or-rest.result.now ≡ drop c.args.repeat.first os =
    ap (λ (s : Bor (List Object)). s.now) c.unwrap_or-rest.ensures ∙ rest_of os c.args.repeat.first _ c.get.result refl c.get.ensures.lookup in
    front_part (λ o. is_repeat c.args.repeat.first o.owner) os c.args.repeat.first _ c.group_length.result rest c.group_length.ensures.value
