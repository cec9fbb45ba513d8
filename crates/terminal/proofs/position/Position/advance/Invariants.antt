use Rattle.std.proofs.Common.{◌≡◌}
use Rattle.terminal.proofs.position.Position.advance.Given as goal

abbrev pub invariant-loop : goal.invariant-loop
invariant-loop l = (l.at.file.now ≡ l.self.file.now) × (l.at.place ≡ l.counter)
