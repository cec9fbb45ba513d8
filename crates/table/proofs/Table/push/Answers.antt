use Rattle.std.proofs.Common.{◌≡◌, ◌+◌, ◌<◌, true, ltb, length, Ok, sym, refl, ap, arith, rules}
use Rattle.std.proofs.lemmas.List.{drop-set-lt, length-set, take_more_set}
use Rattle.std.proofs.lemmas.Bool.{ltb-true}
use Rattle.table.proofs.Laws.{records_len}
use Rattle.table.proofs.Table.push.Goals as goal
use Rattle.table.specs.Tables.{records, room}

pub returns : goal.returns
returns g c =
    let t = c.args.self.now in
    let n = records_len t in
    let full : ltb (length (records c.args.self.now)) (room c.args.self.now) ≡ true = search rules in
    let roomy = ltb-true (length (records t)) (room t) full in
    let h : t.len < length t.slots.now = omega (arith, n) in
    record {
      kept = record {
        lent = refl;
        limit = refl;
        size = length-set t.slots.now t.len c.args.record;
        more = omega arith;
        past = drop-set-lt (t.len + 1) t.slots.now t.len c.args.record (omega arith);
      };
      outcome = rw full (ap Ok (sym n), take_more_set t.slots.now t.len c.args.record h);
    }
