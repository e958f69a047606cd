-- The plain stages, trials and partial bindings under way that those of the program stand for.
use Rattle.std.specs.Prelude.{ℕ, List, map}
use Rattle.cpn_definitions.specs.Inscription.{variable_pattern}
use Rattle.cpn_core.specs.Views.{value_view}
use Rattle.cpn_core.specs.Inscriptions.{pattern_view, expr_view}
use Rattle.cpn_stages.specs.Partial.{PlainPartial}
use Rattle.cpn_stages.specs.Trials.{Trial, matching, solving}
use Rattle.cpn_tmset.specs.Listed.{values_of}
use Rattle.cpn_tmset.specs.ListedViews.{pointed_view}
use Rattle.cpn_search.specs.declared.trials.Trial as program
use Rattle.cpn_search.specs.declared.trials.Trial.TheVariants as trials
use Rattle.cpn_search.specs.declared.extending.UnderWay.{UnderWay}

abbrev pub trial_view : program.Trial → Trial
trial_view (trials.Unlisted pattern tokens) = matching (pattern_view pattern.now) (values_of tokens.now)
trial_view (trials.Matching pattern values) = matching (pattern_view pattern.now) (pointed_view values.items)
trial_view (trials.Solving variable inscription) = solving variable (expr_view inscription.now)
trial_view (trials.Choosing variable values) = matching (variable_pattern variable) (map value_view values.now)

abbrev pub trials_view : List program.Trial → List Trial
trials_view ts = map trial_view ts

-- a partial binding, and how many trials made it
abbrev pub PlainUnderWay : Type 0
PlainUnderWay = PlainPartial × ℕ

abbrev pub under_way_view : UnderWay → PlainUnderWay
under_way_view o = (o.partial, o.tried)

abbrev pub all_under_way : List UnderWay → List PlainUnderWay
all_under_way os = map under_way_view os

-- several partial bindings that so many trials made
abbrev pub after : ℕ → List PlainPartial → List PlainUnderWay
after tried bs = map (λ b. (b, tried)) bs
