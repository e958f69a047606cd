-- The first arm whose pattern fits is the one that the definition takes.
use Rattle.std.proofs.Common.{◌∙◌, map}
use Rattle.cpn_core.specs.Views.{value_view}
use Rattle.cpn_definitions.specs.Matching.{matched}
use Rattle.cpn_core.specs.Inscriptions.{pattern_view}
use Rattle.cpn_eval.proofs.Turns.{arm_taken, arm_passed, match_found, match_missed}
use Rattle.cpn_eval.proofs.choices.choice_of.Goals as goal

pub returns-then-branch : goal.returns-then-branch
returns-then-branch c = record {
  arm = λ s ls.
      c.loop-arm.invariant s ls
      ∙ arm_taken c.args.arms.now c.loop-arm.arm-index c.arm-item.result (value_view c.args.value.now) c.matches.new.found.items s ls c.loop-arm-test.true c.arm-item.is
      (match_found c.new-bound.result.items c.in_ok-matches.field-0 (matched (pattern_view c.arm-item.result.pat) (value_view c.args.value.now)) (map value_view c.matches.new.found.items) c.new-bound.ensures.items c.if-branch.true c.in_ok-matches.ensures.bound);
}

pub loop-arm-preserved : goal.loop-arm-preserved
loop-arm-preserved c = λ s ls.
    c.loop-arm.invariant s ls
    ∙ arm_passed c.args.arms.now c.loop-arm.arm-index c.arm-item.result (value_view c.args.value.now) s ls c.loop-arm-test.true c.arm-item.is
    (match_missed c.new-bound.result.items c.in_ok-matches.field-0 (matched (pattern_view c.arm-item.result.pat) (value_view c.args.value.now)) (map value_view c.matches.new.found.items) c.new-bound.ensures.items c.if-branch.false c.in_ok-matches.ensures.bound)
