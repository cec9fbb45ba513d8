use Rattle.std.proofs.Common.{◌*◌, ◌+◌, ◌≤◌, leb, length, get_or, ap, arith}
use Rattle.std.proofs.lemmas.Bool.{and_parts, leb-true}
use Rattle.runs.specs.Slots.{row_slots}
use Rattle.runs.proofs.Places.{row_put}
use Rattle.runs.proofs.rows.write_row.Goals as goal

pub returns : goal.returns
returns c =
    let counts = c.args.counts.now in
    let slots = c.args.slots.now in
    let w = c.args.width in
    let p = c.args.span in
    let k = c.row_slots-room.result in
    let ys = c.write_runs-len.new.slots in
    let sound = and_parts (leb (get_or counts p.row 0) (row_slots w)) _ c.requires.ready.0 in
    let few = leb-true _ _ sound.0 in
    let e : p.row * k + k ≤ length slots = let z = ap (λ n. p.row * n + n) c.row_slots-room.ensures in omega arith in
    row_put w p.row p.first p.end c.write_runs-len.result k c.args.dark counts slots ys c.requires.ready.1.0 e c.row_slots-room.ensures
    (omega arith) (omega arith) (omega arith) c.write_runs-len.ensures.row
