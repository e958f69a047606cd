-- What comes of what is at hand is what the inscription means, among the locals as they were.
use Rattle.std.proofs.Common.{◌≡◌}
use Rattle.cpn_definitions.specs.Outcome.{◌>>=◌}
use Rattle.cpn_core.specs.Inscriptions.{expr_view}
use Rattle.cpn_eval.specs.Frames.{ahead, given_at, locals_of, meant_at}
use Rattle.cpn_eval.proofs.frames.Machine.value_of.Given as goal

abbrev pub invariant-loop-turn : goal.invariant-loop-turn
invariant-loop-turn l =
    ahead l.world l.self l.now ≡ (meant_at l.world l.initial.self.visible (locals_of l.initial.self) (expr_view l.expr) >>= given_at l.initial.self.visible (locals_of l.initial.self))
