-- The next fusion set keeps its rules, or breaks one.
use Rattle.std.proofs.Common.{◌∙◌, All, arith}
use Rattle.std.proofs.lemmas.Result.{err_from_is_err_and}
use Rattle.cpn_readings.proofs.BrokenRules.{item_kept, item_broken, items_kept}
use Rattle.cpn_document.specs.Views.{document_view}
use Rattle.cpn_module.specs.Answers.{refusal_of}
use Rattle.cpn_module.specs.Views.{fusion_set_view, hierarchy_view}
use Rattle.cpn_module.proofs.ColourRules.{at_slice}
use Rattle.cpn_module.specs.Ranges.{IsMember}
use Rattle.cpn_module.proofs.CheckedItems.{seen_at}
use Rattle.cpn_module.proofs.NumberedPlaces.{fusion_places}
use Rattle.cpn_module.proofs.colours.check_fusions.Goals as goal

pub check_fusion-requires : goal.check_fusion-requires
check_fusion-requires c = record {
  there = fusion_places (document_view c.args.document.now) (hierarchy_view c.args.hierarchy.now) c.requires.named (fusion_set_view c.index-fusions-number.result) (seen_at (All (IsMember (hierarchy_view c.args.hierarchy.now))) fusion_set_view c.as_slice-fusions.result.now c.loop-number.number c.index-fusions-number.result c.loop-number-test.true c.index-fusions-number.is (rw c.as_slice-fusions.ensures.value c.requires.numbers.fusions));
}

pub returns-in_err-check_fusion : goal.returns-in_err-check_fusion
returns-in_err-check_fusion c = record {
  checks = (let p = err_from_is_err_and c.from_residual.result c.from_residual.ensures.1 in
      rw (p.1, p.2) (item_broken fusion_set_view c.as_slice-fusions.result.now c.loop-number.number c.index-fusions-number.result c.loop-number-test.true c.index-fusions-number.is _ _ (refusal_of c.in_err-check_fusion.field-0.0) (c.loop-number.invariant.rest ∙ at_slice fusion_set_view _ _ _ c.as_slice-fusions.ensures.value) c.in_err-check_fusion.ensures.checks));
}

pub loop-number-preserved : goal.loop-number-preserved
loop-number-preserved c = record {
  rest = item_kept fusion_set_view c.as_slice-fusions.result.now c.loop-number.number c.index-fusions-number.result c.loop-number-test.true c.index-fusions-number.is _ _ c.in_ok-check_fusion.ensures.checks c.loop-number.invariant.rest;
}

pub returns : goal.returns
returns c = record { checks = items_kept fusion_set_view c.as_slice-fusions.result.now c.loop-number.number (omega arith) _ _ (c.loop-number.invariant.rest ∙ at_slice fusion_set_view _ _ _ c.as_slice-fusions.ensures.value) }
