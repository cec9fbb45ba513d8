use Rattle.drawing.proofs.Whole.{says_counts, says_refusal, slots_hold, too_long}
use Rattle.drawing.proofs.reading.read_drawing.Goals as goal
use Rattle.drawing.specs.Answers.{answer, stored, told_plot}
use Rattle.drawing.specs.Reading.{Outcome}
use Rattle.records.specs.Records.{seen_aperture, seen_object, seen_piece}
use Rattle.std.proofs.lemmas.Result.{err_from_is_err_and}
use Rattle.std.proofs.Common.{map, Err, ap, ◌∙◌, rules}

pub returns-then-not-is_short-clause-answer : goal.returns-then-not-is_short-clause-answer
returns-then-not-is_short-clause-answer c = ap answer (too_long _ _ _ _ c.if-not-is_short.ensures)

pub returns-then-not-is_short-clause-apertures : goal.returns-then-not-is_short-clause-apertures
returns-then-not-is_short-clause-apertures c = ap (λ (u : Outcome). stored u.books.apertures (map seen_aperture c.args.slots.now.apertures.now)) (too_long _ _ _ _ c.if-not-is_short.ensures)

pub returns-then-not-is_short-clause-objects : goal.returns-then-not-is_short-clause-objects
returns-then-not-is_short-clause-objects c = ap (λ (u : Outcome). stored u.books.objects (map seen_object c.args.slots.now.objects.now)) (too_long _ _ _ _ c.if-not-is_short.ensures)

pub returns-then-not-is_short-clause-pieces : goal.returns-then-not-is_short-clause-pieces
returns-then-not-is_short-clause-pieces c = ap (λ (u : Outcome). stored u.books.pieces (map seen_piece c.args.slots.now.pieces.now)) (too_long _ _ _ _ c.if-not-is_short.ensures)

pub returns-in_err-laid-clause-answer : goal.returns-in_err-laid-clause-answer
returns-in_err-laid-clause-answer c =
    let x = err_from_is_err_and c.from_residual.result c.from_residual.ensures.1 in
    ap told_plot (x.1 ∙ ap Err x.2)
    ∙ says_refusal _ _ _ _ _ _ _ (record { empty = c.new-apertures.ensures.empty; limit = c.new-apertures.ensures.limit; same = c.new-apertures.ensures.same }) (record { empty = c.new-objects.ensures.empty; limit = c.new-objects.ensures.limit; same = c.new-objects.ensures.same }) (record { empty = c.new-pieces.ensures.empty; limit = c.new-pieces.ensures.limit; same = c.new-pieces.ensures.same }) c.if-not-is_short.ensures _ _ _ _ c.in_err-laid.ensures

pub returns-clause-answer : goal.returns-clause-answer
returns-clause-answer c =
    says_counts _ _ _ _ _ _ _ (record { empty = c.new-apertures.ensures.empty; limit = c.new-apertures.ensures.limit; same = c.new-apertures.ensures.same }) (record { empty = c.new-objects.ensures.empty; limit = c.new-objects.ensures.limit; same = c.new-objects.ensures.same }) (record { empty = c.new-pieces.ensures.empty; limit = c.new-pieces.ensures.limit; same = c.new-pieces.ensures.same }) c.if-not-is_short.ensures _ _ _ _ c.in_ok-laid.ensures _ _ _ c.len.ensures.count c.len-2.ensures.count c.len-3.ensures.count

pub returns-in_err-laid-clause-apertures : goal.returns-in_err-laid-clause-apertures
returns-in_err-laid-clause-apertures c =
    let l = c.in_err-laid.ensures.kept.apertures.lent ∙ c.new-apertures.ensures.lent in
    let h = (slots_hold _ _ _ _ _ _ _ (record { empty = c.new-apertures.ensures.empty; limit = c.new-apertures.ensures.limit; same = c.new-apertures.ensures.same }) (record { empty = c.new-objects.ensures.empty; limit = c.new-objects.ensures.limit; same = c.new-objects.ensures.same }) (record { empty = c.new-pieces.ensures.empty; limit = c.new-pieces.ensures.limit; same = c.new-pieces.ensures.same }) c.if-not-is_short.ensures _ _ _ _ c.in_err-laid.ensures).0 in
    search rules

pub returns-in_err-laid-clause-objects : goal.returns-in_err-laid-clause-objects
returns-in_err-laid-clause-objects c =
    let l = c.in_err-laid.ensures.kept.objects.lent ∙ c.new-objects.ensures.lent in
    let h = (slots_hold _ _ _ _ _ _ _ (record { empty = c.new-apertures.ensures.empty; limit = c.new-apertures.ensures.limit; same = c.new-apertures.ensures.same }) (record { empty = c.new-objects.ensures.empty; limit = c.new-objects.ensures.limit; same = c.new-objects.ensures.same }) (record { empty = c.new-pieces.ensures.empty; limit = c.new-pieces.ensures.limit; same = c.new-pieces.ensures.same }) c.if-not-is_short.ensures _ _ _ _ c.in_err-laid.ensures).1 in
    search rules

pub returns-in_err-laid-clause-pieces : goal.returns-in_err-laid-clause-pieces
returns-in_err-laid-clause-pieces c =
    let l = c.in_err-laid.ensures.kept.pieces.lent ∙ c.new-pieces.ensures.lent in
    let h = (slots_hold _ _ _ _ _ _ _ (record { empty = c.new-apertures.ensures.empty; limit = c.new-apertures.ensures.limit; same = c.new-apertures.ensures.same }) (record { empty = c.new-objects.ensures.empty; limit = c.new-objects.ensures.limit; same = c.new-objects.ensures.same }) (record { empty = c.new-pieces.ensures.empty; limit = c.new-pieces.ensures.limit; same = c.new-pieces.ensures.same }) c.if-not-is_short.ensures _ _ _ _ c.in_err-laid.ensures).2 in
    search rules

pub returns-clause-apertures : goal.returns-clause-apertures
returns-clause-apertures c =
    let l = c.in_ok-laid.ensures.kept.apertures.lent ∙ c.new-apertures.ensures.lent in
    let h = (slots_hold _ _ _ _ _ _ _ (record { empty = c.new-apertures.ensures.empty; limit = c.new-apertures.ensures.limit; same = c.new-apertures.ensures.same }) (record { empty = c.new-objects.ensures.empty; limit = c.new-objects.ensures.limit; same = c.new-objects.ensures.same }) (record { empty = c.new-pieces.ensures.empty; limit = c.new-pieces.ensures.limit; same = c.new-pieces.ensures.same }) c.if-not-is_short.ensures _ _ _ _ c.in_ok-laid.ensures).0 in
    search rules

pub returns-clause-objects : goal.returns-clause-objects
returns-clause-objects c =
    let l = c.in_ok-laid.ensures.kept.objects.lent ∙ c.new-objects.ensures.lent in
    let h = (slots_hold _ _ _ _ _ _ _ (record { empty = c.new-apertures.ensures.empty; limit = c.new-apertures.ensures.limit; same = c.new-apertures.ensures.same }) (record { empty = c.new-objects.ensures.empty; limit = c.new-objects.ensures.limit; same = c.new-objects.ensures.same }) (record { empty = c.new-pieces.ensures.empty; limit = c.new-pieces.ensures.limit; same = c.new-pieces.ensures.same }) c.if-not-is_short.ensures _ _ _ _ c.in_ok-laid.ensures).1 in
    search rules

pub returns-clause-pieces : goal.returns-clause-pieces
returns-clause-pieces c =
    let l = c.in_ok-laid.ensures.kept.pieces.lent ∙ c.new-pieces.ensures.lent in
    let h = (slots_hold _ _ _ _ _ _ _ (record { empty = c.new-apertures.ensures.empty; limit = c.new-apertures.ensures.limit; same = c.new-apertures.ensures.same }) (record { empty = c.new-objects.ensures.empty; limit = c.new-objects.ensures.limit; same = c.new-objects.ensures.same }) (record { empty = c.new-pieces.ensures.empty; limit = c.new-pieces.ensures.limit; same = c.new-pieces.ensures.same }) c.if-not-is_short.ensures _ _ _ _ c.in_ok-laid.ensures).2 in
    search rules
