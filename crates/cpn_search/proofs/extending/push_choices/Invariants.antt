-- What was added so far, and what the values that are left make, is what all make.
use Rattle.std.proofs.Common.{◌≡◌, ◌++◌, map, drop}
use Rattle.cpn_definitions.specs.Inscription.{variable_pattern}
use Rattle.cpn_core.specs.Views.{value_view}
use Rattle.cpn_core.specs.Nets.{net_view}
use Rattle.cpn_stages.specs.Trials.{matching, next}
use Rattle.cpn_search.specs.TrialViews.{all_under_way, after}
use Rattle.cpn_search.proofs.extending.push_choices.Given as goal

abbrev pub invariant-loop-value : goal.invariant-loop-value
invariant-loop-value l =
    all_under_way l.ahead.items ++ after l.tried (next (net_view l.net) (matching (variable_pattern l.variable) (map value_view (drop l.value-index l.values))) l.partial)
    ≡ all_under_way l.fn.ahead.items ++ after l.tried (next (net_view l.net) (matching (variable_pattern l.variable) (map value_view l.values)) l.partial)
