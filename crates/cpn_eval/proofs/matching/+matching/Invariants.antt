-- What was bound so far, and then what the rest binds, is what all bind.
use Rattle.std.proofs.Common.{◌≡◌, drop, map}
use Rattle.cpn_core.specs.Views.{value_view, values_view}
use Rattle.cpn_core.specs.Inscriptions.{patterns_view}
use Rattle.cpn_definitions.specs.Matching.{matched_each}
use Rattle.cpn_eval.specs.Answers.{with_front}
use Rattle.cpn_eval.proofs.matching.+matching.Given as goal

abbrev pub invariant-all_match-loop-i : goal.invariant-all_match-loop-i
invariant-all_match-loop-i l =
    with_front (map value_view l.initial.found.items) (matched_each (patterns_view l.patterns.items) (values_view l.items))
    ≡ with_front (map value_view l.found.items) (matched_each (patterns_view (drop l.i l.patterns.items)) (values_view (drop l.i l.items)))
