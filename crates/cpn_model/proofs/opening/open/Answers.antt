-- Bytes are at most one model, and it is the one that is answered.
use Rattle.std.specs.Prelude.{option_map}
use Rattle.std.proofs.lemmas.Result.{err_from_is_err_and}
use Rattle.cpn_edit_texts.specs.Answers.{edit_refusal_of}
use Rattle.cpn_file.specs.Answers.{load_refusal_of}
use Rattle.cpn_flat.specs.Flat.{PlainLoaded}
use Rattle.cpn_flat.specs.Views.{loaded_view}
use Rattle.cpn_model.specs.Reading.{of_document, of_edits, read}
use Rattle.cpn_model.specs.Views.{model_view}
use Rattle.cpn_model.proofs.ReadModels.{one_model, refused_document, refused_loaded, is_model, refuses_as}
use Rattle.cpn_model.proofs.opening.open.Goals as goal

-- ---- the document is refused

pub returns-in_err-loaded-clause-refuses : goal.returns-in_err-loaded-clause-refuses
returns-in_err-loaded-clause-refuses c =
    let p = err_from_is_err_and c.from_residual.result c.from_residual.ensures.1 in
    rw (p.1, p.2) (refused_document c.args.bytes.now (load_refusal_of c.in_err-loaded.field-0.0) c.in_err-loaded.ensures.refuses)

pub returns-in_err-loaded-clause-one_model : goal.returns-in_err-loaded-clause-one_model
returns-in_err-loaded-clause-one_model c = λ reading other h k. one_model c.args.bytes.now c.load.ensures.one_reading c.one_check.ensures.one c.one_check-2.ensures.one reading other h k

pub returns-in_err-loaded-clause-complete : goal.returns-in_err-loaded-clause-complete
returns-in_err-loaded-clause-complete c =
    let p = err_from_is_err_and c.from_residual.result c.from_residual.ensures.1 in
    let bytes = c.args.bytes.now in
    let o = load_refusal_of c.in_err-loaded.field-0.0 in
    λ reading is. rw (p.1, p.2) (refuses_as bytes (one_model bytes c.load.ensures.one_reading c.one_check.ensures.one c.one_check-2.ensures.one) (option_map of_document o) reading (refused_document bytes o c.in_err-loaded.ensures.refuses) is)

-- ---- what is loaded is no model

pub returns-in_err-model-clause-refuses : goal.returns-in_err-model-clause-refuses
returns-in_err-model-clause-refuses c =
    let p = err_from_is_err_and c.from_residual-in_err-model.result c.from_residual-in_err-model.ensures.1 in
    rw (p.1, p.2) (refused_loaded c.args.bytes.now (loaded_view c.in_ok-loaded.loaded) c.in_ok-loaded.ensures.reads (edit_refusal_of c.in_err-model.field-0.0) c.in_err-model.ensures.reads)

pub returns-in_err-model-clause-one_model : goal.returns-in_err-model-clause-one_model
returns-in_err-model-clause-one_model c = λ reading other h k. one_model c.args.bytes.now c.load.ensures.one_reading c.one_check.ensures.one c.one_check-2.ensures.one reading other h k

pub returns-in_err-model-clause-complete : goal.returns-in_err-model-clause-complete
returns-in_err-model-clause-complete c =
    let p = err_from_is_err_and c.from_residual-in_err-model.result c.from_residual-in_err-model.ensures.1 in
    let bytes = c.args.bytes.now in
    let loaded : PlainLoaded = loaded_view c.in_ok-loaded.loaded in
    let o = edit_refusal_of c.in_err-model.field-0.0 in
    λ reading is. rw (p.1, p.2) (refuses_as bytes (one_model bytes c.load.ensures.one_reading c.one_check.ensures.one c.one_check-2.ensures.one) (option_map of_edits o) reading (refused_loaded bytes loaded c.in_ok-loaded.ensures.reads o c.in_err-model.ensures.reads) is)

-- ---- it is one

pub returns-clause-reads : goal.returns-clause-reads
returns-clause-reads c = is_model c.args.bytes.now (loaded_view c.in_ok-loaded.loaded) c.in_ok-loaded.ensures.reads (model_view c.in_ok-model.model) c.in_ok-model.ensures.reads

pub returns-clause-one_model : goal.returns-clause-one_model
returns-clause-one_model c = λ reading other h k. one_model c.args.bytes.now c.load.ensures.one_reading c.one_check.ensures.one c.one_check-2.ensures.one reading other h k

pub returns-clause-complete : goal.returns-clause-complete
returns-clause-complete c =
    let bytes = c.args.bytes.now in
    let model = model_view c.in_ok-model.model in
    let is_so = is_model bytes (loaded_view c.in_ok-loaded.loaded) c.in_ok-loaded.ensures.reads model c.in_ok-model.ensures.reads in
    λ reading is. one_model bytes c.load.ensures.one_reading c.one_check.ensures.one c.one_check-2.ensures.one reading (read model) is is_so
