-- Each item is checked.
use Rattle.std.proofs.Common.{rules}
use Rattle.cpn_document.specs.Views.{arc_view}
use Rattle.cpn_module.specs.ModuleRules.{arc_transition_rule, arc_transition_rules}
use Rattle.cpn_module.proofs.CheckedItems.{walk_checks}
use Rattle.cpn_module.proofs.unknown.check_arc_transitions.Goals as goal

pub returns : goal.returns
unfolding arc_transition_rules
returns c = record { checks = walk_checks arc_view (arc_transition_rule c.args.transitions.now c.args.subs.now c.args.in_module) _ _ _ _ c.deref.ensures.value c.check_each.ensures.walked (λ i p r h. search rules) }
