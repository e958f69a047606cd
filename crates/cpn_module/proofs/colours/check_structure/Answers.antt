-- The next substitution transition keeps its rules, or breaks one.
use Rattle.std.proofs.Common.{◌∙◌, arith}
use Rattle.std.proofs.lemmas.Result.{err_from_is_err_and}
use Rattle.cpn_readings.proofs.BrokenRules.{item_kept, item_broken, items_kept}
use Rattle.cpn_document.specs.Views.{document_view}
use Rattle.cpn_module.specs.Answers.{refusal_of}
use Rattle.cpn_module.specs.Views.{substitution_view}
use Rattle.cpn_module.proofs.ColourRules.{at_slice}
use Rattle.cpn_module.specs.PlacesAt.{HasPlacesAt}
use Rattle.cpn_module.proofs.CheckedItems.{seen_at}
use Rattle.cpn_module.proofs.colours.check_structure.Goals as goal

pub check_substitution-requires : goal.check_substitution-requires
check_substitution-requires c = record { there = seen_at (HasPlacesAt (document_view c.args.document.now) c.args.in_module) substitution_view c.as_slice-substitutions.result.now c.loop-number.number c.index-substitutions-number.result c.loop-number-test.true c.index-substitutions-number.is (rw c.as_slice-substitutions.ensures.value c.requires.there) }

pub returns-in_err-check_substitution : goal.returns-in_err-check_substitution
returns-in_err-check_substitution c = record {
  checks = (let p = err_from_is_err_and c.from_residual.result c.from_residual.ensures.1 in
      rw (p.1, p.2) (item_broken substitution_view c.as_slice-substitutions.result.now c.loop-number.number c.index-substitutions-number.result c.loop-number-test.true c.index-substitutions-number.is _ _ (refusal_of c.in_err-check_substitution.field-0.0) (c.loop-number.invariant.rest ∙ at_slice substitution_view _ _ _ c.as_slice-substitutions.ensures.value) c.in_err-check_substitution.ensures.checks));
}

pub loop-number-preserved : goal.loop-number-preserved
loop-number-preserved c = record {
  rest = item_kept substitution_view c.as_slice-substitutions.result.now c.loop-number.number c.index-substitutions-number.result c.loop-number-test.true c.index-substitutions-number.is _ _ c.in_ok-check_substitution.ensures.checks c.loop-number.invariant.rest;
}

pub returns : goal.returns
returns c = record { checks = items_kept substitution_view c.as_slice-substitutions.result.now c.loop-number.number (omega arith) _ _ (c.loop-number.invariant.rest ∙ at_slice substitution_view _ _ _ c.as_slice-substitutions.ensures.value) }
