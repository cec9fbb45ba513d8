use Rattle.std.proofs.Common.{◌≡◌, drop}
use Rattle.std.specs.List.{list_any}
use Rattle.runs.specs.Rows.{in_run}
use Rattle.runs.proofs.finding.holds.Given as goal

abbrev pub invariant-loop-run : goal.invariant-loop-run
invariant-loop-run l = list_any (λ x. in_run x l.col) (drop l.run-index l.row) ≡ list_any (λ x. in_run x l.col) l.row
