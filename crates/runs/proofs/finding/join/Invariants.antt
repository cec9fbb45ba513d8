use Rattle.std.proofs.Common.{◌≡◌, drop}
use Rattle.runs.specs.Rows.{absorbed}
use Rattle.runs.proofs.finding.join.Given as goal

-- the runs so far are joined, and the others still to come
abbrev pub invariant-loop-next : goal.invariant-loop-next
invariant-loop-next l = (absorbed l.joined.first l.joined.end (drop l.next-index l.row) ≡ absorbed l.fn.run.first l.fn.run.end l.row) × (l.count ≡ l.next-index)
