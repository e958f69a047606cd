-- The rules of the members that are left decide.
use Rattle.std.proofs.Common.{◌≡◌, drop, map}
use Rattle.cpn_readings.specs.Rules.{first_broken, each_item}
use Rattle.cpn_declared.specs.DeclsViews.{decls_view}
use Rattle.cpn_document.specs.Views.{document_view}
use Rattle.cpn_module.specs.ModuleRules.{member_colour_rules}
use Rattle.cpn_module.specs.Views.{fused_view}
use Rattle.cpn_module.proofs.colours.check_fusion.Given as goal

abbrev pub invariant-loop-number : goal.invariant-loop-number
invariant-loop-number l = record {
  rest : first_broken (each_item (member_colour_rules (decls_view l.decls) (document_view l.document) l.in_fusion (map fused_view l.members)) l.number (map fused_view (drop l.number l.members))) ≡ first_broken (each_item (member_colour_rules (decls_view l.decls) (document_view l.document) l.in_fusion (map fused_view l.members)) 0 (map fused_view l.members));
}
