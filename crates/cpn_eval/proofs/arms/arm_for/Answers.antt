-- The first arm whose pattern fits is the one that the definition takes.
use Rattle.std.proofs.Common.{map, get_or, ap, ◌∙◌}
use Rattle.cpn_core.specs.Views.{value_view}
use Rattle.cpn_core.specs.Inscriptions.{pattern_view}
use Rattle.cpn_definitions.specs.Matching.{matched}
use Rattle.cpn_eval.proofs.Turns.{match_found, match_missed}
use Rattle.cpn_eval.proofs.TokenArms.{arm_taken, arm_passed}
use Rattle.cpn_eval.proofs.arms.arm_for.Goals as goal

pub returns-then-branch-clause-arm : goal.returns-then-branch-clause-arm
returns-then-branch-clause-arm c = λ arm colour s locals before is.
    c.loop-position.invariant colour s locals before
    ∙ arm_taken c.args.arms.now c.loop-position.position (get_or c.args.arms.now c.loop-position.position c.index-arms-position.result) arm (value_view c.args.value.now) (map value_view c.matches.new.found.items) colour s locals before
    c.loop-position-test.true
    (ap (get_or c.args.arms.now c.loop-position.position) c.index-arms-position.is)
    is
    (match_found c.new-bound.result.items c.in_ok-matches.field-0 (matched (pattern_view (get_or c.args.arms.now c.loop-position.position c.index-arms-position.result).pat) (value_view c.args.value.now)) (map value_view c.matches.new.found.items) c.new-bound.ensures.items c.if-branch.true c.in_ok-matches.ensures.bound)

pub loop-position-preserved : goal.loop-position-preserved
loop-position-preserved c = λ colour s locals before.
    c.loop-position.invariant colour s locals before
    ∙ arm_passed c.args.arms.now c.loop-position.position (get_or c.args.arms.now c.loop-position.position c.index-arms-position.result) (value_view c.args.value.now) colour s locals before
    c.loop-position-test.true
    (ap (get_or c.args.arms.now c.loop-position.position) c.index-arms-position.is)
    (match_missed c.new-bound.result.items c.in_ok-matches.field-0 (matched (pattern_view (get_or c.args.arms.now c.loop-position.position c.index-arms-position.result).pat) (value_view c.args.value.now)) (map value_view c.matches.new.found.items) c.new-bound.ensures.items c.if-branch.false c.in_ok-matches.ensures.bound)
