use Rattle.std.proofs.Common.{◌++◌, length, get_or, take, drop, sym, ap, ◌∙◌, arith}
use Rattle.std.specs.List.{insert}
use Rattle.std.proofs.lemmas.List.{get_or-take}
use Rattle.runs.specs.Held.{held}
use Rattle.runs.specs.Rows.{run, cleared, trimmed}
use Rattle.runs.proofs.Holding.{held_length}
use Rattle.runs.proofs.Steps.{ends_are, clear_none, clear_left, clear_right, row_length, length_trimmed, cut_trimmed, spliced, put_room, trimmed_length}
use Rattle.runs.proofs.row.Row.clear.Goals as goal

pub returns-then-k-self-clause-runs : goal.returns-then-k-self-clause-runs
returns-then-k-self-clause-runs c =
    let r = c.args.self.now in
    let xs = held r in
    let e = ends_are c.args.run.first c.args.run.end c.past-k.result c.past-j.result xs c.runs.result.now c.runs-2.result.now (omega arith) c.runs.ensures c.runs-2.ensures c.past-k.ensures.count c.past-j.ensures.count c.past-j.ensures.bound in
    sym (clear_none c.args.run.first c.args.run.end _ _ xs (omega arith) e (omega (arith, held_length r)))

pub cut_out-requires : goal.cut_out-requires
cut_out-requires c =
    let xs = held c.args.self.now in
    let j = c.past-j.result in
    let e = ends_are c.args.run.first c.args.run.end c.past-k.result j xs c.runs.result.now c.runs-2.result.now (omega arith) c.runs.ensures c.runs-2.ensures c.past-k.ensures.count c.past-j.ensures.count c.past-j.ensures.bound in
    (e.order, omega (arith, e.bound, trimmed_length c.args.run.end j xs (held c.trim.new.self) e.bound c.trim.ensures.runs, held_length c.trim.new.self))

pub insert-requires : goal.insert-requires
insert-requires c =
    let r = c.args.self.now in
    let xs = held r in
    let a = c.args.run.first in
    let b = c.args.run.end in
    let k = c.past-k.result in
    let j = c.past-j.result in
    let first = (get_or r.slots.now k (run 0 0)).first in
    let ts = trimmed b (drop j xs) in
    let e = ends_are a b k j xs c.runs.result.now c.runs-2.result.now (omega arith) c.runs.ensures c.runs-2.ensures c.past-k.ensures.count c.past-j.ensures.count c.past-j.ensures.bound in
    let f = get_or-take r.len r.slots.now k (run 0 0) c.if-k-self.false in
    let d = clear_left a b k j first xs (omega arith) e (omega (arith, held_length r)) (ap (λ x. x.first) (sym f)) c.if-first-run.true in
    let l = row_length xs (cleared a b xs) ts k j (run first a) e.order e.bound (length_trimmed b (drop j xs)) d in
    put_room xs ts (held c.cut_out.new.self) k j c.cut_out.new.self.len (length c.cut_out.new.self.slots.now) e.order e.bound (length_trimmed b (drop j xs))
    (c.cut_out.ensures.runs ∙ ap (λ z. take k z ++ drop j z) c.trim.ensures.runs ∙ cut_trimmed xs ts k j e.order e.bound)
    (held_length c.cut_out.new.self) (omega (arith, l, c.requires.room, c.cut_out.ensures.same.room, c.trim.ensures.same.room))

pub returns-then-first-run-clause-runs : goal.returns-then-first-run-clause-runs
returns-then-first-run-clause-runs c =
    let r = c.args.self.now in
    let xs = held r in
    let a = c.args.run.first in
    let b = c.args.run.end in
    let k = c.past-k.result in
    let j = c.past-j.result in
    let first = (get_or r.slots.now k (run 0 0)).first in
    let ts = trimmed b (drop j xs) in
    let e = ends_are a b k j xs c.runs.result.now c.runs-2.result.now (omega arith) c.runs.ensures c.runs-2.ensures c.past-k.ensures.count c.past-j.ensures.count c.past-j.ensures.bound in
    let f = get_or-take r.len r.slots.now k (run 0 0) c.if-k-self.false in
    let d = clear_left a b k j first xs (omega arith) e (omega (arith, held_length r)) (ap (λ x. x.first) (sym f)) c.if-first-run.true in
    c.insert.ensures.runs
    ∙ ap (λ z. insert z k (run first a)) (c.cut_out.ensures.runs ∙ ap (λ z. take k z ++ drop j z) c.trim.ensures.runs ∙ cut_trimmed xs ts k j e.order e.bound)
    ∙ spliced xs ts k (run first a) (omega (arith, e.order, e.bound)) ∙ sym d

pub returns-else-first-run-clause-runs : goal.returns-else-first-run-clause-runs
returns-else-first-run-clause-runs c =
    let r = c.args.self.now in
    let xs = held r in
    let a = c.args.run.first in
    let b = c.args.run.end in
    let k = c.past-k.result in
    let j = c.past-j.result in
    let first = (get_or r.slots.now k (run 0 0)).first in
    let e = ends_are a b k j xs c.runs.result.now c.runs-2.result.now (omega arith) c.runs.ensures c.runs-2.ensures c.past-k.ensures.count c.past-j.ensures.count c.past-j.ensures.bound in
    let f = get_or-take r.len r.slots.now k (run 0 0) c.if-k-self.false in
    let d = clear_right a b k j first xs (omega arith) e (omega (arith, held_length r)) (ap (λ x. x.first) (sym f)) c.if-first-run.false in
    c.cut_out.ensures.runs ∙ ap (λ z. take k z ++ drop j z) c.trim.ensures.runs ∙ cut_trimmed xs (trimmed b (drop j xs)) k j e.order e.bound ∙ sym d
