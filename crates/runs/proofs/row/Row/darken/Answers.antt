use Rattle.std.proofs.Common.{◌+◌, length, drop, sym, refl, ap, ◌∙◌, arith}
use Rattle.std.specs.List.{insert}
use Rattle.runs.specs.Held.{held}
use Rattle.runs.specs.Rows.{darkened}
use Rattle.runs.proofs.Holding.{held_length}
use Rattle.runs.proofs.Steps.{joins, row_length, spliced, put_room}
use Rattle.runs.proofs.row.Row.darken.Goals as goal

pub insert-requires : goal.insert-requires
insert-requires c =
    let xs = held c.args.self.now in
    let k = c.past-k.result in
    let j = k + c.join-count.result.1 in
    let x = c.join-count.result.0 in
    let q = joins c.args.run.first c.args.run.end k c.join-count.result.1 x xs c.runs.result.now c.runs-2.result.now c.runs.ensures c.runs-2.ensures
    (omega (arith, ap length c.runs.ensures, c.past-k.ensures.bound)) c.past-k.ensures.count c.join-count.ensures.0 c.join-count.ensures.1 in
    let l = row_length xs (darkened c.args.run.first c.args.run.end xs) (drop j xs) k j x q.order q.bound refl q.is in
    put_room xs (drop j xs) (held c.cut_out.new.self) k j c.cut_out.new.self.len (length c.cut_out.new.self.slots.now) q.order q.bound refl c.cut_out.ensures.runs (held_length c.cut_out.new.self)
    (omega (arith, l, c.requires, c.cut_out.ensures.same.room))

pub returns-clause-runs : goal.returns-clause-runs
returns-clause-runs c =
    let xs = held c.args.self.now in
    let k = c.past-k.result in
    let j = k + c.join-count.result.1 in
    let x = c.join-count.result.0 in
    let q = joins c.args.run.first c.args.run.end k c.join-count.result.1 x xs c.runs.result.now c.runs-2.result.now c.runs.ensures c.runs-2.ensures
    (omega (arith, ap length c.runs.ensures, c.past-k.ensures.bound)) c.past-k.ensures.count c.join-count.ensures.0 c.join-count.ensures.1 in
    c.insert.ensures.runs ∙ ap (λ z. insert z k x) c.cut_out.ensures.runs ∙ spliced xs (drop j xs) k x (omega (arith, q.order, q.bound)) ∙ sym q.is
