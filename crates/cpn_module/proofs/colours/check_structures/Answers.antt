-- The next module keeps its rules, or breaks one.
use Rattle.std.proofs.Common.{◌∙◌, arith}
use Rattle.std.proofs.lemmas.Result.{err_from_is_err_and}
use Rattle.cpn_readings.proofs.BrokenRules.{item_kept, item_broken, items_kept}
use Rattle.cpn_document.specs.Views.{document_view}
use Rattle.cpn_module.specs.Answers.{refusal_of}
use Rattle.cpn_module.specs.Views.{structure_view, hierarchy_view}
use Rattle.cpn_module.proofs.ColourRules.{at_slice}
use Rattle.cpn_module.proofs.CheckedItems.{seen_in}
use Rattle.cpn_module.proofs.NumberedPlaces.{structure_places}
use Rattle.cpn_module.proofs.colours.check_structures.Goals as goal

pub check_structure-requires : goal.check_structure-requires
check_structure-requires c =
    let at = seen_in structure_view c.args.hierarchy.now.modules.items c.as_slice-modules.result.now c.as_slice-modules.ensures.value c.loop-number.number c.index-modules-number.result c.loop-number-test.true c.index-modules-number.is in
    record { there = structure_places (document_view c.args.document.now) (hierarchy_view c.args.hierarchy.now) c.requires.named c.requires.numbers c.loop-number.number (structure_view c.index-modules-number.result) at.0 at.1 }

pub returns-in_err-check_structure : goal.returns-in_err-check_structure
returns-in_err-check_structure c = record {
  checks = (let p = err_from_is_err_and c.from_residual.result c.from_residual.ensures.1 in
      rw (p.1, p.2) (item_broken structure_view c.as_slice-modules.result.now c.loop-number.number c.index-modules-number.result c.loop-number-test.true c.index-modules-number.is _ _ (refusal_of c.in_err-check_structure.field-0.0) (c.loop-number.invariant.rest ∙ at_slice structure_view _ _ _ c.as_slice-modules.ensures.value) c.in_err-check_structure.ensures.checks));
}

pub loop-number-preserved : goal.loop-number-preserved
loop-number-preserved c = record {
  rest = item_kept structure_view c.as_slice-modules.result.now c.loop-number.number c.index-modules-number.result c.loop-number-test.true c.index-modules-number.is _ _ c.in_ok-check_structure.ensures.checks c.loop-number.invariant.rest;
}

pub returns : goal.returns
returns c = record { checks = items_kept structure_view c.as_slice-modules.result.now c.loop-number.number (omega arith) _ _ (c.loop-number.invariant.rest ∙ at_slice structure_view _ _ _ c.as_slice-modules.ensures.value) }
