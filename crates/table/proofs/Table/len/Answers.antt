use Rattle.table.proofs.Laws.{kept_slots, records_len}
use Rattle.table.proofs.Table.len.Goals as goal
use Rattle.table.specs.Tables.{records}
use Rattle.std.proofs.Common.{◌++◌, drop, sym, ap, ◌∙◌}

pub returns : goal.returns
returns g c =
    let t = c.args.self.now in
    record { count = sym (records_len t); slots = λ old k. kept_slots old t k ∙ ap (λ n. records t ++ drop n old.slots.now) (records_len t) }
