-- Each item is checked.
use Rattle.std.proofs.Common.{rules}
use Rattle.cpn_document.specs.Views.{sub_view, document_view}
use Rattle.cpn_module.specs.ModuleRules.{sub_place_rules}
use Rattle.cpn_module.proofs.CheckedItems.{walk_checks}
use Rattle.cpn_module.proofs.unknown.check_all_assignments.Goals as goal

pub returns : goal.returns
returns c = record { checks = walk_checks sub_view (sub_place_rules (document_view c.args.document.now) c.args.places.now c.args.in_module) _ _ _ _ c.deref.ensures.value c.check_each.ensures.walked (λ i p r h. search rules) }
