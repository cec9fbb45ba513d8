use Rattle.std.proofs.Common.{◌≡◌, ◌+◌, ◌-◌, ◌++◌, length, drop, sym, refl, ap, ◌∙◌, subst, arith}
use Rattle.std.proofs.lemmas.List.{length-take-le, take-append-drop, drop-drop}
use Rattle.table.specs.declared.Table.{Table}
use Rattle.table.specs.Tables.{records, Kept}

pub records_len : {X : Type 0} (t : Table X) → length (records t) ≡ t.len
records_len t = length-take-le t.len t.slots.now t.within

pub kept_refl : {X : Type 0} (t : Table X) → Kept t t
kept_refl t = record { lent = refl; limit = refl; more = omega arith; size = refl; past = refl }

pub kept_trans : {X : Type 0} (a b c : Table X) → Kept a b → Kept b c → Kept a c
kept_trans a b c p q =
    let e : b.len + (c.len - b.len) ≡ c.len = omega (arith, q.more) in
    let m = c.len - b.len in
    let past2 : drop (b.len + m) b.slots.now ≡ drop (b.len + m) a.slots.now =
    sym (drop-drop m b.len b.slots.now) ∙ ap (drop m) p.past ∙ drop-drop m b.len a.slots.now in
    record {
      lent = q.lent ∙ p.lent;
      limit = q.limit ∙ p.limit;
      more = omega (arith, p.more, q.more);
      size = q.size ∙ p.size;
      past = q.past ∙ subst (λ n. drop n b.slots.now ≡ drop n a.slots.now) e past2;
    }

-- what the lent slots hold at last
pub kept_slots : {X : Type 0} (a t : Table X) → Kept a t → t.slots.now ≡ records t ++ drop (length (records t)) a.slots.now
kept_slots a t k =
    sym (take-append-drop t.len t.slots.now)
    ∙ ap (λ v. records t ++ v) k.past
    ∙ ap (λ n. records t ++ drop n a.slots.now) (sym (records_len t))
