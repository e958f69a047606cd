-- Each item is checked.
use Rattle.std.proofs.Common.{rules}
use Rattle.cpn_document.specs.Views.{member_view, document_view}
use Rattle.cpn_module.specs.ModuleRules.{member_place_rule, member_place_rules}
use Rattle.cpn_module.proofs.CheckedItems.{walk_checks}
use Rattle.cpn_module.proofs.unknown.check_member_places.Goals as goal

pub returns : goal.returns
unfolding member_place_rules
returns c = record { checks = walk_checks member_view (member_place_rule (document_view c.args.document.now) c.args.in_fusion) _ _ _ _ c.deref.ensures.value c.check_each.ensures.walked (λ i p r h. search rules) }
