-- What the patterns and the items from here on make of the partial binding at hand is what all make of the first; which it
-- extends.
use Rattle.std.proofs.Common.{◌≡◌, drop}
use Rattle.cpn_core.specs.Views.{values_view}
use Rattle.cpn_core.specs.Inscriptions.{patterns_view}
use Rattle.cpn_stages.specs.Partial.{Extends}
use Rattle.cpn_stages.specs.Fitting.{fitted_each}
use Rattle.cpn_match.proofs.matching.+fitting.Given as goal

abbrev pub invariant-fit_all-loop-i : goal.invariant-fit_all-loop-i
invariant-fit_all-loop-i l =
    (fitted_each (patterns_view l.patterns.items) (values_view l.items) l.initial.partial
    ≡ fitted_each (patterns_view (drop l.i l.patterns.items)) (values_view (drop l.i l.items)) l.partial)
    × Extends l.initial.partial l.partial
