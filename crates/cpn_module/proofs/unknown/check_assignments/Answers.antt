-- Each item is checked.
use Rattle.std.proofs.Common.{rules}
use Rattle.cpn_document.specs.Views.{assignment_view, sub_view, document_view}
use Rattle.cpn_module.specs.ModuleRules.{assignment_place_rules, sub_place_rules}
use Rattle.cpn_module.proofs.CheckedItems.{walk_checks}
use Rattle.cpn_module.proofs.unknown.check_assignments.Goals as goal

pub returns : goal.returns
unfolding sub_place_rules
returns c = record { checks = walk_checks assignment_view (assignment_place_rules (document_view c.args.document.now) c.args.places.now c.args.in_module c.args.in_sub (sub_view c.args.sub.now)) _ _ _ _ c.deref.ensures.value c.check_each.ensures.walked (λ i p r h. search rules) }
