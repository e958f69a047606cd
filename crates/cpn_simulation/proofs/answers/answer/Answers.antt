-- What refuses a document has its cause, the document has one reading, and the report is the one of its runs.
use Rattle.std.proofs.Common.{◌≡◌, ℕ, List, Err, IfSome, map, string_bytes, ap, subst}
use Rattle.cpn_edit.proofs.StartedSessions.{model_starts}
use Rattle.cpn_model.specs.Views.{model_view}
use Rattle.cpn_model.specs.Answers.{model_refusal_of}
use Rattle.cpn_model.specs.Reading.{PlainModel, read, refused}
use Rattle.cpn_model.specs.Models.{IsModel}
use Rattle.cpn_model.proofs.AcceptedModels.{model_is_accepted}
use Rattle.cpn_simulation.specs.Causes.{GiveOptions, HaveOneReading}
use Rattle.cpn_simulation.specs.Documents.{document_of}
use Rattle.cpn_simulation.specs.OptionsView.{options_view}
use Rattle.cpn_simulation.proofs.ReadDocuments.{long_document, made_document}
use Rattle.cpn_simulation.proofs.RefusedDocuments.{read_once, its_cause, its_reading}
use Rattle.cpn_simulation.proofs.WrittenReports.{read_reported}
use Rattle.cpn_simulation.proofs.answers.answer.Goals as goal

-- what is too long was left in the source
pub returns-in-Err-TooLong-clause-cause : goal.returns-in-Err-TooLong-clause-cause
returns-in-Err-TooLong-clause-cause g c = long_document (map string_bytes c.args.words.now) (options_view c.in-Ok.options) (g.S.Source.left c.args.source.now) c.in-Ok.ensures.options (c.in-Err-TooLong.ensures.too_long (ap Err c.in-Err-TooLong.field-0-is))

pub returns-in-Err-clause-cause : goal.returns-in-Err-clause-cause
returns-in-Err-clause-cause g c =
    let words : List (List ℕ) = map string_bytes c.args.words.now in
    let document = document_of words (g.S.Source.left c.args.source.now) in
    let bytes : List ℕ = c.in-Ok-document_bytes.bytes.items in
    let is : IfSome document (λ xs. bytes ≡ xs) = made_document words (options_view c.in-Ok.options) _ bytes c.in-Ok.ensures.options c.in-Ok-document_bytes.ensures.bytes in
    let refuses : IfSome (model_refusal_of c.in-Err.error) (λ r. IsModel bytes (refused r)) = subst (λ (bs : List ℕ). IfSome (model_refusal_of c.in-Err.error) (λ r. IsModel bs (refused r))) c.deref.ensures.value c.in-Err.ensures.refuses in
    let given : GiveOptions words = (options_view c.in-Ok.options, c.in-Ok.ensures.options) in
    its_cause (model_refusal_of c.in-Err.error) c.of_document.result document bytes c.of_document.ensures.refusal is words _ _ c.of_document.ensures.memory given c.in-Ok-document_bytes.ensures.short refuses

pub returns-in-Err-clause-read_once : goal.returns-in-Err-clause-read_once
returns-in-Err-clause-read_once g c =
    let words : List (List ℕ) = map string_bytes c.args.words.now in
    let document = document_of words (g.S.Source.left c.args.source.now) in
    let bytes : List ℕ = c.in-Ok-document_bytes.bytes.items in
    let is : IfSome document (λ xs. bytes ≡ xs) = made_document words (options_view c.in-Ok.options) _ bytes c.in-Ok.ensures.options c.in-Ok-document_bytes.ensures.bytes in
    let one : HaveOneReading bytes = subst HaveOneReading c.deref.ensures.value c.open.ensures.one_model in
    its_reading (model_refusal_of c.in-Err.error) c.of_document.result document bytes c.of_document.ensures.refusal is one

pub returns-in-Ok-report_of-clause-one_reading : goal.returns-in-Ok-report_of-clause-one_reading
returns-in-Ok-report_of-clause-one_reading g c =
    let words : List (List ℕ) = map string_bytes c.args.words.now in
    let document = document_of words (g.S.Source.left c.args.source.now) in
    let bytes : List ℕ = c.in-Ok-document_bytes.bytes.items in
    let is : IfSome document (λ xs. bytes ≡ xs) = made_document words (options_view c.in-Ok.options) _ bytes c.in-Ok.ensures.options c.in-Ok-document_bytes.ensures.bytes in
    let one : HaveOneReading bytes = subst HaveOneReading c.deref.ensures.value c.open.ensures.one_model in
    read_once document bytes is one

-- what was read is accepted
pub report_of-requires-clause-reads : goal.report_of-requires-clause-reads
report_of-requires-clause-reads g c κs within =
    let model : PlainModel = model_view c.in-Ok-open.model in
    (model_is_accepted _ model c.in-Ok-open.ensures.reads).reads

pub report_of-requires-clause-starts : goal.report_of-requires-clause-starts
report_of-requires-clause-starts g c κs within =
    let model : PlainModel = model_view c.in-Ok-open.model in
    model_starts model (model_is_accepted _ model c.in-Ok-open.ensures.reads)

pub returns-in-Ok-report_of-clause-report : goal.returns-in-Ok-report_of-clause-report
returns-in-Ok-report_of-clause-report g c =
    let words : List (List ℕ) = map string_bytes c.args.words.now in
    let document = document_of words (g.S.Source.left c.args.source.now) in
    let bytes : List ℕ = c.in-Ok-document_bytes.bytes.items in
    let is : IfSome document (λ xs. bytes ≡ xs) = made_document words (options_view c.in-Ok.options) _ bytes c.in-Ok.ensures.options c.in-Ok-document_bytes.ensures.bytes in
    let model : PlainModel = model_view c.in-Ok-open.model in
    let reads : IsModel bytes (read model) = subst (λ (bs : List ℕ). IsModel bs (read model)) c.deref.ensures.value c.in-Ok-open.ensures.reads in
    let one : HaveOneReading bytes = subst HaveOneReading c.deref.ensures.value c.open.ensures.one_model in
    read_reported words _ document bytes (options_view c.in-Ok.options) model _ _ is c.in-Ok-document_bytes.ensures.short one c.in-Ok.ensures.options reads c.in-Ok-report_of.ensures.report

-- unless the net is generated, the source was read to its end
pub returns-in-Ok-report_of-clause-end : goal.returns-in-Ok-report_of-clause-end
returns-in-Ok-report_of-clause-end g c = λ other. c.in-Ok-document_bytes.ensures.end (λ large. other (options_view c.in-Ok.options, c.in-Ok.ensures.options, large))
