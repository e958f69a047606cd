-- Each item is checked.
use Rattle.std.proofs.Common.{rules}
use Rattle.cpn_document.specs.Views.{module_view}
use Rattle.cpn_module.specs.ModuleRules.{submodule_rules}
use Rattle.cpn_module.proofs.CheckedItems.{walk_checks}
use Rattle.cpn_module.proofs.unknown.check_all_submodules.Goals as goal

pub returns : goal.returns
returns c = record { checks = walk_checks module_view (submodule_rules c.args.modules.now) _ _ _ _ c.deref.ensures.value c.check_each.ensures.walked (λ i p r h. search rules) }
