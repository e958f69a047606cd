-- The value that the bytes are, and the rules that it keeps or breaks, say what they are read as.
use Rattle.std.proofs.Common.{subst, sym}
use Rattle.serde_json.specs.View.{view}
use Rattle.cpn_document.specs.FewArcs.{HaveFewArcs}
use Rattle.cpn_document.specs.WellNamed.{AreWellNamed, HasFewDeclarations}
use Rattle.cpn_document.specs.Answers.{refusal_of}
use Rattle.cpn_document.proofs.FewArcs.{document_few}
use Rattle.cpn_document.proofs.WellNamed.{document_named, document_declares_few}
use Rattle.cpn_document.proofs.OneReading.{one_reading, read_as, refused_by_rules, refused_as_none, refused_at_exit}
use Rattle.cpn_document.proofs.reading.read_document.Goals as goal

pub returns-in_err-value-clause-refused : goal.returns-in_err-value-clause-refused
returns-in_err-value-clause-refused c =
    refused_at_exit c.args.bytes.now c.from_residual.result c.in_err-value.field-0.0 c.from_residual.ensures.1
    (refused_as_none c.args.bytes.now (refusal_of c.in_err-value.field-0.0) c.in_err-value.ensures.refuses c.in_err-value.ensures.no_value)

pub returns-in_err-value-clause-one : goal.returns-in_err-value-clause-one
returns-in_err-value-clause-one c = one_reading c.args.bytes.now

pub returns-in_err-document-clause-refused : goal.returns-in_err-document-clause-refused
returns-in_err-document-clause-refused c =
    refused_at_exit c.args.bytes.now c.from_residual-in_err-document.result c.in_err-document.field-0.0 c.from_residual-in_err-document.ensures.1
    (refused_by_rules c.args.bytes.now (view c.in_ok-value.value) (refusal_of c.in_err-document.field-0.0) c.in_ok-value.ensures.json c.in_err-document.ensures.gives)

pub returns-in_err-document-clause-one : goal.returns-in_err-document-clause-one
returns-in_err-document-clause-one c = one_reading c.args.bytes.now

pub returns-clause-read : goal.returns-clause-read
returns-clause-read c = read_as c.args.bytes.now (view c.in_ok-value.value) _ c.in_ok-value.ensures.json c.in_ok-document.ensures.gives.0 c.in_ok-document.ensures.gives.1

pub returns-clause-few_arcs : goal.returns-clause-few_arcs
returns-clause-few_arcs c = subst HaveFewArcs (sym c.in_ok-document.ensures.gives.0) (document_few _ (view c.in_ok-value.value) c.in_ok-document.ensures.gives.1)

pub returns-clause-well_named : goal.returns-clause-well_named
returns-clause-well_named c = subst AreWellNamed (sym c.in_ok-document.ensures.gives.0) (document_named _ (view c.in_ok-value.value) c.in_ok-document.ensures.gives.1)

pub returns-clause-few_declarations : goal.returns-clause-few_declarations
returns-clause-few_declarations c = subst HasFewDeclarations (sym c.in_ok-document.ensures.gives.0) (document_declares_few _ (view c.in_ok-value.value) c.in_ok-document.ensures.gives.1)

pub returns-clause-one : goal.returns-clause-one
returns-clause-one c = one_reading c.args.bytes.now
