-- The rules of the assignments that are left decide.
use Rattle.std.proofs.Common.{◌≡◌, drop, map}
use Rattle.cpn_readings.specs.Rules.{first_broken, each_item}
use Rattle.cpn_declared.specs.DeclsViews.{decls_view}
use Rattle.cpn_document.specs.Views.{document_view}
use Rattle.cpn_module.specs.ModuleRules.{assigned_colour_rules}
use Rattle.cpn_module.specs.Views.{assigned_view, substitution_view}
use Rattle.cpn_module.proofs.colours.check_substitution.Given as goal

abbrev pub invariant-loop-number : goal.invariant-loop-number
invariant-loop-number l = record {
  rest : first_broken (each_item (assigned_colour_rules (decls_view l.decls) (document_view l.document) l.in_module l.in_sub (substitution_view l.substitution)) l.number (map assigned_view (drop l.number l.assignments))) ≡ first_broken (each_item (assigned_colour_rules (decls_view l.decls) (document_view l.document) l.in_module l.in_sub (substitution_view l.substitution)) 0 (map assigned_view l.assignments));
}
