-- The rules of the modules that are left decide.
use Rattle.std.proofs.Common.{◌≡◌, drop, map}
use Rattle.cpn_readings.specs.Rules.{first_broken, each_item}
use Rattle.cpn_declared.specs.DeclsViews.{decls_view}
use Rattle.cpn_document.specs.Views.{document_view}
use Rattle.cpn_module.specs.ModuleRules.{structure_colour_rules}
use Rattle.cpn_module.specs.Views.{structure_view}
use Rattle.cpn_module.proofs.colours.check_structures.Given as goal

abbrev pub invariant-loop-number : goal.invariant-loop-number
invariant-loop-number l = record {
  rest : first_broken (each_item (structure_colour_rules (decls_view l.decls) (document_view l.document)) l.number (map structure_view (drop l.number l.modules))) ≡ first_broken (each_item (structure_colour_rules (decls_view l.decls) (document_view l.document)) 0 (map structure_view l.modules));
}
