use Rattle.laid.proofs.Entering.{enters, passes}
use Rattle.laid.proofs.drawing.Drawing.entered.Goals as goal
use Rattle.laid.proofs.drawing.Drawing.entered.Goals.{else-number-within-via-else-number-within, else-number-within-via-then-number-within+else-lays_any}
use Rattle.laid.specs.Stacks.{apertures_of, objects_of}
use Rattle.records.specs.Weights.{none}
use Rattle.std.proofs.Common.{length, get_or, arith}
use Rattle.std.proofs.lemmas.Bool.Decides.{nat_tests}
use Rattle.std.proofs.lemmas.List.{length-map}

pub returns-then-lays_any : goal.returns-then-lays_any
returns-then-lays_any c =
    let d = c.args.self.now in
    enters (apertures_of d) (objects_of d) c.args.within c.args.number c.first_of.result (omega arith) c.first_of.ensures

pub returns-else-number-within : goal.returns-else-number-within
returns-else-number-within c =
    let d = c.args.self.now in
    elim c.else-number-within.branch [
      | else-number-within-via-then-number-within+else-lays_any w ↦
          passes (apertures_of d) (objects_of d) c.args.within c.args.number (length d.records.apertures.now) (get_or d.weights c.args.number none)
          (simp length-map) (omega arith) (d.weighed c.args.number) w.if-lays_any.ensures
      | else-number-within-via-else-number-within w ↦ (λ pcs deep q turn. grind (arith, nat_tests))
    ]
