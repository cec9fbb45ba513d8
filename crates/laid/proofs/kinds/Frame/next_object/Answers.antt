use Rattle.laid.proofs.Fronts.{front_more, front_stop}
use Rattle.laid.proofs.kinds.Frame.next_object.Goals as goal
use Rattle.records.specs.Records.{seen_object}
use Rattle.records.specs.Weights.{owned_by}
use Rattle.std.proofs.Common.{◌≡◌, true, false, refl, rules, tests}

pub returns-then-ne : goal.returns-then-ne
returns-then-ne c =
    let f = c.args.self.now in
    let o = c.in_ok-object.field-0.now in
    let at = c.in_ok-object.ensures.lookup in
    let other : owned_by f.block (seen_object o) ≡ false = search (rules, tests) in
    front_stop (owned_by f.block) c.args.objects.now f.next o at.3.0 at.1 other

pub returns : goal.returns
returns c =
    let f = c.args.self.now in
    let o = c.in_ok-object.field-0.now in
    let at = c.in_ok-object.ensures.lookup in
    let mine : owned_by f.block (seen_object o) ≡ true = search (rules, tests) in
    record {
      objects = front_more (owned_by f.block) c.args.objects.now f.next o at.3.0 at.1 mine;
      block = refl;
      placing = refl;
      turn = refl;
    }
