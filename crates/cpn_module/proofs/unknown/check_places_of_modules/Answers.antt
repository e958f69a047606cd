-- The rules of the next item are kept, or one is broken.
use Rattle.std.proofs.Common.{arith}
use Rattle.cpn_document.specs.Views.{module_view, document_view}
use Rattle.cpn_module.specs.Answers.{refusal_of}
use Rattle.cpn_module.specs.ModuleRules.{places_of_module_rules}
use Rattle.cpn_module.proofs.CheckedItems.{next_kept, next_broken, all_kept, passed_on}
use Rattle.cpn_module.proofs.NamedHierarchy.{places_at}
use Rattle.cpn_module.proofs.unknown.check_places_of_modules.Goals as goal

pub check_places_of_module-requires-clause-places : goal.check_places_of_module-requires-clause-places
check_places_of_module-requires-clause-places c = rw c.index-places.ensures (places_at c.args.names.now.places.items c.deref-of_module-items.result.now c.loop-number.number c.of_module-item.result _ c.loop-number-test.true c.of_module-item.is (rw c.deref-of_module-items.ensures.value c.requires.names.places_are))

pub returns-in_err-check_places_of_module : goal.returns-in_err-check_places_of_module
returns-in_err-check_places_of_module c = record {
  checks = passed_on _ _ c.in_err-check_places_of_module.field-0.0 c.from_residual.ensures.1 (next_broken module_view (places_of_module_rules (document_view c.args.document.now)) c.args.document.now.modules.items c.deref-of_module-items.result.now c.deref-of_module-items.ensures.value c.loop-number.number c.of_module-item.result c.loop-number-test.true c.of_module-item.is (refusal_of c.in_err-check_places_of_module.field-0.0) c.loop-number.invariant c.in_err-check_places_of_module.ensures.checks);
}

pub loop-number-preserved : goal.loop-number-preserved
loop-number-preserved c = next_kept module_view (places_of_module_rules (document_view c.args.document.now)) c.args.document.now.modules.items c.deref-of_module-items.result.now c.deref-of_module-items.ensures.value c.loop-number.number c.of_module-item.result c.loop-number-test.true c.of_module-item.is c.loop-number.invariant c.in_ok-check_places_of_module.ensures.checks

pub returns : goal.returns
returns c = record { checks = all_kept module_view (places_of_module_rules (document_view c.args.document.now)) c.args.document.now.modules.items c.deref-of_module-items.result.now c.deref-of_module-items.ensures.value c.loop-number.number (omega arith) c.loop-number.invariant }
