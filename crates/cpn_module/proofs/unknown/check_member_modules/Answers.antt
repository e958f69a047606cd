-- Each item is checked.
use Rattle.std.proofs.Common.{rules}
use Rattle.cpn_document.specs.Views.{member_view}
use Rattle.cpn_module.specs.ModuleRules.{member_module_rule, member_module_rules}
use Rattle.cpn_module.proofs.CheckedItems.{walk_checks}
use Rattle.cpn_module.proofs.unknown.check_member_modules.Goals as goal

pub returns : goal.returns
unfolding member_module_rules
returns c = record { checks = walk_checks member_view (member_module_rule c.args.modules.now c.args.in_fusion) _ _ _ _ c.deref.ensures.value c.check_each.ensures.walked (λ i p r h. search rules) }
