-- What is kept is what fits.
use Rattle.std.proofs.Common.{rules, subst}
use Rattle.std.specs.Bool.{OnTrue, OnFalse}
use Rattle.cpn_core.specs.Views.{value_view}
use Rattle.cpn_core.specs.Inscriptions.{pattern_view}
use Rattle.cpn_core.specs.Nets.{net_view}
use Rattle.cpn_stages.specs.Instances.{Matches, MatchesNot}
use Rattle.cpn_search.specs.TrialViews.{all_under_way}
use Rattle.cpn_search.proofs.TrialSteps.{kept_matched, kept_unmatched}
use Rattle.cpn_search.proofs.extending.push_match.Goals as goal

pub returns-then-not-matched-clause-appended : goal.returns-then-not-matched-clause-appended
returns-then-not-matched-clause-appended c =
    kept_unmatched (net_view c.args.net.now) (pattern_view c.args.pattern.now) (value_view c.args.value.now) c.args.partial.now c.args.tried (all_under_way c.args.ahead.now.items) c.in_ok-matched.matched (search rules)
    (subst (λ b. OnFalse c.in_ok-matched.matched (MatchesNot b (pattern_view c.args.pattern.now) (value_view c.args.value.now))) c.requires.same c.in_ok-matched.ensures.not_matched)

pub returns-clause-appended : goal.returns-clause-appended
returns-clause-appended c =
    kept_matched (net_view c.args.net.now) (pattern_view c.args.pattern.now) (value_view c.args.value.now) c.args.partial.now c.match_pat.new.partial c.args.tried (all_under_way c.args.ahead.now.items) (all_under_way c.push_kept.new.ahead.items) c.in_ok-matched.matched (search rules)
    (subst (λ b. OnTrue c.in_ok-matched.matched (Matches b (pattern_view c.args.pattern.now) (value_view c.args.value.now) c.match_pat.new.partial)) c.requires.same c.in_ok-matched.ensures.matched) (search rules)
