-- Each item is checked.
use Rattle.std.proofs.Common.{rules}
use Rattle.cpn_document.specs.Views.{arc_view}
use Rattle.cpn_module.specs.ModuleRules.{arc_place_rule, arc_place_rules}
use Rattle.cpn_module.proofs.CheckedItems.{walk_checks}
use Rattle.cpn_module.proofs.unknown.check_arc_places.Goals as goal

pub returns : goal.returns
unfolding arc_place_rules
returns c = record { checks = walk_checks arc_view (arc_place_rule c.args.places.now c.args.in_module) _ _ _ _ c.deref.ensures.value c.check_each.ensures.walked (λ i p r h. search rules) }
