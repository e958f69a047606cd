-- Each item is checked.
use Rattle.std.proofs.Common.{rules}
use Rattle.cpn_document.specs.Views.{sub_view}
use Rattle.cpn_module.specs.ModuleRules.{submodule_rule, submodule_rules}
use Rattle.cpn_module.proofs.CheckedItems.{walk_checks}
use Rattle.cpn_module.proofs.unknown.check_submodules.Goals as goal

pub returns : goal.returns
unfolding submodule_rules
returns c = record { checks = walk_checks sub_view (submodule_rule c.args.modules.now c.args.in_module) _ _ _ _ c.deref.ensures.value c.check_each.ensures.walked (λ i p r h. search rules) }
