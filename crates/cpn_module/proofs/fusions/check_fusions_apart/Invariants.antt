-- The places are those of the fusion sets so far, which keep the rule, and those of the rest decide.
use Rattle.std.proofs.Common.{◌≡◌, drop, take, map}
use Rattle.cpn_readings.specs.Rules.{first_broken, each_item}
use Rattle.cpn_module.specs.Views.{fusion_set_view, hierarchy_view}
use Rattle.cpn_module.specs.ModuleRules.{two_fusions_rules}
use Rattle.cpn_module.proofs.FusionRules.{ArePlaces, one_fusion_rules}
use Rattle.cpn_module.proofs.fusions.check_fusions_apart.Given as goal

abbrev pub invariant-loop-number : goal.invariant-loop-number
invariant-loop-number l = record {
  places : ArePlaces l.places (take l.number (map fusion_set_view l.fusion-items));
  rest : first_broken (each_item (one_fusion_rules (map fusion_set_view l.fusion-items)) l.number (map fusion_set_view (drop l.number l.fusion-items))) ≡ first_broken (two_fusions_rules (hierarchy_view l.hierarchy));
}
