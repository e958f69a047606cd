-- Bytes have at most one reading, and it is the one that is answered.
use Rattle.std.proofs.lemmas.Result.{err_from_is_err_and}
use Rattle.cpn_document.specs.Reading as form
use Rattle.cpn_document.specs.Views.{document_view}
use Rattle.cpn_document.specs.Answers.{refusal_of}
use Rattle.cpn_flat.specs.Views.{loaded_view}
use Rattle.cpn_file.specs.Answers.{load_refusal_of}
use Rattle.cpn_file.specs.Reading.{read}
use Rattle.cpn_file.proofs.LoadedDocuments.{loaded_one}
use Rattle.cpn_file.proofs.ReadBytes.{refuses_form, refuses_read, one_reading, answered_none}
use Rattle.cpn_file.proofs.reading.load.Goals as goal

pub returns-in_err-document-clause-refuses : goal.returns-in_err-document-clause-refuses
returns-in_err-document-clause-refuses c =
    let p = err_from_is_err_and c.from_residual.result c.from_residual.ensures.1 in
    rw (p.1, p.2) (refuses_form c.args.bytes.now (refusal_of c.in_err-document.field-0.0) c.in_err-document.ensures.refused)

pub returns-in_err-document-clause-one_reading : goal.returns-in_err-document-clause-one_reading
returns-in_err-document-clause-one_reading c = λ reading other h k. one_reading (loaded_one c.one_acceptance.ensures.one c.one_flat_net.ensures.one) c.args.bytes.now c.in_err-document.ensures.one reading other h k

pub returns-in_err-document-clause-complete : goal.returns-in_err-document-clause-complete
returns-in_err-document-clause-complete c =
    let p = err_from_is_err_and c.from_residual.result c.from_residual.ensures.1 in
    λ reading is. rw p.1 (answered_none (loaded_one c.one_acceptance.ensures.one c.one_flat_net.ensures.one) c.args.bytes.now c.in_err-document.ensures.one loaded_view p.0 reading (rw p.2 (refuses_form c.args.bytes.now (refusal_of c.in_err-document.field-0.0) c.in_err-document.ensures.refused)) is)

pub returns-in_err-loaded-clause-refuses : goal.returns-in_err-loaded-clause-refuses
returns-in_err-loaded-clause-refuses c =
    let p = err_from_is_err_and c.from_residual-in_err-loaded.result c.from_residual-in_err-loaded.ensures.1 in
    rw (p.1, p.2) (refuses_read c.args.bytes.now (document_view c.in_ok-document.document) (load_refusal_of c.in_err-loaded.field-0.0) c.in_ok-document.ensures.read c.in_err-loaded.ensures.reads)

pub returns-in_err-loaded-clause-one_reading : goal.returns-in_err-loaded-clause-one_reading
returns-in_err-loaded-clause-one_reading c = λ reading other h k. one_reading (loaded_one c.one_acceptance.ensures.one c.one_flat_net.ensures.one) c.args.bytes.now c.in_ok-document.ensures.one reading other h k

pub returns-in_err-loaded-clause-complete : goal.returns-in_err-loaded-clause-complete
returns-in_err-loaded-clause-complete c =
    let p = err_from_is_err_and c.from_residual-in_err-loaded.result c.from_residual-in_err-loaded.ensures.1 in
    λ reading is. rw (p.1, p.2) (answered_none (loaded_one c.one_acceptance.ensures.one c.one_flat_net.ensures.one) c.args.bytes.now c.in_ok-document.ensures.one loaded_view c.in_err-loaded.field-0.0 reading (refuses_read c.args.bytes.now (document_view c.in_ok-document.document) (load_refusal_of c.in_err-loaded.field-0.0) c.in_ok-document.ensures.read c.in_err-loaded.ensures.reads) is)

pub returns-clause-reads : goal.returns-clause-reads
returns-clause-reads c = (form.read (document_view c.in_ok-document.document), c.in_ok-document.ensures.read, c.in_ok-loaded.ensures.reads)

pub returns-clause-one_reading : goal.returns-clause-one_reading
returns-clause-one_reading c = λ reading other h k. one_reading (loaded_one c.one_acceptance.ensures.one c.one_flat_net.ensures.one) c.args.bytes.now c.in_ok-document.ensures.one reading other h k

pub returns-clause-complete : goal.returns-clause-complete
returns-clause-complete c = λ reading is. one_reading (loaded_one c.one_acceptance.ensures.one c.one_flat_net.ensures.one) c.args.bytes.now c.in_ok-document.ensures.one reading (read (loaded_view c.in_ok-loaded.loaded)) is (form.read (document_view c.in_ok-document.document), c.in_ok-document.ensures.read, c.in_ok-loaded.ensures.reads)
