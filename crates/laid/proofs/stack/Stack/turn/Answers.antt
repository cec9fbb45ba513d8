use Rattle.laid.proofs.Walks.{Levels, closes, level_top, levels_push, levels_rest, moves}
use Rattle.laid.proofs.stack.Stack.turn.Goals as goal
use Rattle.plane.specs.declared.points.Placing.{Placing}
use Rattle.std.proofs.Common.{◌+◌, ◌≤◌, length, sym, subst, arith}

pub returns-in_err-object : goal.returns-in_err-object
returns-in_err-object c = rw c.from_residual-in_err-object.ensures (closes c.args.drawing.now c.args.self.now _ c.in_ok-top.top c.in_ok-top.ensures.items c.in_err-object.ensures)

pub invariant_of-self-2 : goal.invariant_of-self-2
invariant_of-self-2 c =
    let rest = c.pop.new.self.items in
    let all = subst Levels c.in_ok-top.ensures.items c.args.self.now.levels in
    let top = subst (λ (p : Placing). p.level ≤ length rest + 1) (sym c.in_ok-object.ensures.placing) (level_top rest c.in_ok-top.top all) in
    record {
      few = omega (arith, c.in_ok-top.ensures.len);
      levels = subst Levels (sym c.push.ensures.items) (levels_push rest c.next_object.new.self (levels_rest rest c.in_ok-top.top all) top);
    }

pub returns : goal.returns
returns c =
    moves c.args.drawing.now c.args.self.now _ c.take_up.new.self c.pop.new.self.items c.in_ok-top.top c.next_object.new.self c.in_ok-object.object c.take_up.result
    c.in_ok-top.ensures.items c.push.ensures.items c.in_ok-object.ensures c.take_up.ensures
