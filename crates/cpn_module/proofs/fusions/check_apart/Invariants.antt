-- The members so far are none of the places, and those of the rest decide.
use Rattle.std.proofs.Common.{◌≡◌, drop, map}
use Rattle.cpn_readings.specs.Rules.{first_broken, each_item}
use Rattle.cpn_module.specs.Views.{fused_view}
use Rattle.cpn_module.specs.ModuleRules.{rule}
use Rattle.cpn_module.proofs.FusionRules.{is_none_of, is_in_two, apart_rules}
use Rattle.cpn_module.proofs.fusions.check_apart.Given as goal

abbrev pub invariant-loop-number : goal.invariant-loop-number
invariant-loop-number l = first_broken (each_item (λ k member. rule (is_none_of l.earlier k member) (is_in_two l.in_fusion k member)) l.number (map fused_view (drop l.number l.members))) ≡ first_broken (apart_rules l.earlier l.in_fusion (map fused_view l.members))
