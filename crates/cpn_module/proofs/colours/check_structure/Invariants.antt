-- The rules of the substitution transitions that are left decide.
use Rattle.std.proofs.Common.{◌≡◌, drop, map}
use Rattle.cpn_readings.specs.Rules.{first_broken, each_item}
use Rattle.cpn_declared.specs.DeclsViews.{decls_view}
use Rattle.cpn_document.specs.Views.{document_view}
use Rattle.cpn_module.specs.ModuleRules.{sub_colour_rules}
use Rattle.cpn_module.specs.Views.{substitution_view}
use Rattle.cpn_module.proofs.colours.check_structure.Given as goal

abbrev pub invariant-loop-number : goal.invariant-loop-number
invariant-loop-number l = record {
  rest : first_broken (each_item (sub_colour_rules (decls_view l.decls) (document_view l.document) l.in_module) l.number (map substitution_view (drop l.number l.substitutions))) ≡ first_broken (each_item (sub_colour_rules (decls_view l.decls) (document_view l.document) l.in_module) 0 (map substitution_view l.substitutions));
}
