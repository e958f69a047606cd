-- The rules of the rest decide.
use Rattle.cpn_document.specs.Views.{module_view, document_view}
use Rattle.cpn_module.specs.ModuleRules.{places_of_module_rules}
use Rattle.cpn_module.proofs.CheckedItems.{Decides}
use Rattle.cpn_module.proofs.unknown.check_places_of_modules.Given as goal

abbrev pub invariant-loop-number : goal.invariant-loop-number
invariant-loop-number l = Decides module_view (places_of_module_rules (document_view l.document)) l.document.modules.items l.number
