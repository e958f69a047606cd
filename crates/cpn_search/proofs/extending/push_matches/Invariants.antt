-- What was added so far, and what the values that are left make, is what all make.
use Rattle.std.proofs.Common.{◌≡◌, ◌++◌, drop}
use Rattle.std.specs.Option.{IfSome}
use Rattle.cpn_core.specs.Inscriptions.{pattern_view}
use Rattle.cpn_core.specs.Nets.{net_view}
use Rattle.cpn_stages.specs.Trials.{matching, next}
use Rattle.cpn_tmset.specs.ListedViews.{pointed_view}
use Rattle.cpn_search.specs.TrialViews.{all_under_way, after}
use Rattle.cpn_search.proofs.extending.push_matches.Given as goal

abbrev pub invariant-loop-value : goal.invariant-loop-value
invariant-loop-value l =
    (all_under_way l.ahead.items ++ after l.tried (next (net_view l.net) (matching (pattern_view l.pattern) (pointed_view (drop l.value-index l.values))) l.partial)
    ≡ all_under_way l.fn.ahead.items ++ after l.tried (next (net_view l.net) (matching (pattern_view l.pattern) (pointed_view l.values)) l.partial))
    × IfSome l.spare (λ copy. copy ≡ l.partial)
