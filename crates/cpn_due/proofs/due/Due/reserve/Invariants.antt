-- Room is made, and nothing else changes.
use Rattle.std.proofs.Common.{◌≡◌, ◌≤◌, ◌-◌}
use Rattle.cpn_due.proofs.due.Due.reserve.Given as goal

abbrev pub invariant-loop-self : goal.invariant-loop-self
invariant-loop-self l = (l.initial.self.spare ≤ l.self.spare) × (l.self.elements ≡ l.initial.self.elements) × (l.self.clock ≡ l.initial.self.clock)

abbrev pub decreases-loop-self : goal.decreases-loop-self
decreases-loop-self l = l.n - l.self.spare
