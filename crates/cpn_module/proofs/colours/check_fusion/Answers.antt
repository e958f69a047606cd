-- The colour set of the next member agrees with that of the first, or breaks its rule.
use Rattle.std.proofs.Common.{get_or, map, sym, ap, ◌∙◌, arith}
use Rattle.cpn_readings.specs.Rules.{first_broken}
use Rattle.cpn_readings.proofs.BrokenRules.{items_kept}
use Rattle.cpn_declared.specs.DeclsViews.{decls_view}
use Rattle.cpn_document.specs.Views.{document_view}
use Rattle.cpn_module.specs.ModuleRules.{fusion_colour_rules}
use Rattle.cpn_module.specs.Views.{fused_view}
use Rattle.cpn_module.proofs.ColourRules.{read_kept, read_broken}
use Rattle.cpn_module.proofs.OneRule.{rule_kept, rule_broken}
use Rattle.cpn_module.specs.PlacesAt.{IsMemberAt}
use Rattle.cpn_module.proofs.CheckedItems.{seen_at, at_position}
use Rattle.cpn_module.proofs.colours.check_fusion.Goals as goal

pub agrees_with_first-requires : goal.agrees_with_first-requires
agrees_with_first-requires c = record {
  there = rw c.as_slice-members.ensures.value c.requires.there;
  member = seen_at (IsMemberAt (document_view c.args.document.now)) fused_view c.as_slice-members.result.now c.loop-number.number (get_or c.as_slice-members.result.now c.loop-number.number (record { of_module = 0; place = 0 })) (omega arith) (at_position c.as_slice-members.result.now c.loop-number.number (record { of_module = 0; place = 0 }) (omega arith)) (rw c.as_slice-members.ensures.value c.requires.there);
}

pub returns-then-not-agrees_with_first : goal.returns-then-not-agrees_with_first
returns-then-not-agrees_with_first c =
    let whole = ap (λ members. first_broken (fusion_colour_rules (decls_view c.args.decls.now) (document_view c.args.document.now) c.args.in_fusion (map fused_view members))) c.as_slice-members.ensures.value in
    record { checks = rw c.at_member-here.ensures.exact (read_broken fused_view c.as_slice-members.result.now c.loop-number.number (record { of_module = 0; place = 0 }) (omega arith) _ _ _ (c.loop-number.invariant.rest ∙ whole) (rule_broken _ _ (sym c.agrees_with_first.ensures.exact ∙ c.if-not-agrees_with_first.true))) }

pub loop-number-preserved : goal.loop-number-preserved
loop-number-preserved c = record {
  rest = read_kept fused_view c.as_slice-members.result.now c.loop-number.number (record { of_module = 0; place = 0 }) (omega arith) _ _ (rule_kept _ _ (sym c.agrees_with_first.ensures.exact ∙ c.if-not-agrees_with_first.false)) c.loop-number.invariant.rest;
}

pub returns : goal.returns
returns c =
    let whole = ap (λ members. first_broken (fusion_colour_rules (decls_view c.args.decls.now) (document_view c.args.document.now) c.args.in_fusion (map fused_view members))) c.as_slice-members.ensures.value in
    record { checks = items_kept fused_view c.as_slice-members.result.now c.loop-number.number (omega arith) _ _ (c.loop-number.invariant.rest ∙ whole) }
