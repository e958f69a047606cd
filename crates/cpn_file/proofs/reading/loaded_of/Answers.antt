-- Each step of the reading is as the program takes it.
use Rattle.std.proofs.lemmas.Result.{err_from_is_err_and}
use Rattle.cpn_document.specs.Views.{document_view}
use Rattle.cpn_module_nets.specs.Answers.{net_refusal_of}
use Rattle.cpn_accepted.specs.Views.{accepted_view}
use Rattle.cpn_flat.specs.Answers.{refusal_of}
use Rattle.cpn_flat.specs.Views.{loaded_view}
use Rattle.cpn_file.proofs.LoadedDocuments.{few_declared, loaded_well, not_accepted, not_flat, is_loaded}
use Rattle.cpn_file.proofs.LoadedParts.{loaded_of}
use Rattle.cpn_file.proofs.reading.loaded_of.Goals as goal

pub returns-in_err-accepted-clause-reads : goal.returns-in_err-accepted-clause-reads
returns-in_err-accepted-clause-reads c =
    let p = err_from_is_err_and c.from_residual.result c.from_residual.ensures.1 in
    rw (p.1, p.2) (not_accepted (document_view c.args.document) (net_refusal_of c.in_err-accepted.field-0.0) c.in_err-accepted.ensures.reads)

pub flatten-requires-clause-few_variables : goal.flatten-requires-clause-few_variables
flatten-requires-clause-few_variables c = few_declared (document_view c.args.document) (accepted_view c.in_ok-accepted.accepted) c.requires.few_declarations c.in_ok-accepted.ensures.reads

pub returns-in_err-loaded-clause-reads : goal.returns-in_err-loaded-clause-reads
returns-in_err-loaded-clause-reads c =
    let p = err_from_is_err_and c.from_residual-in_err-loaded.result c.from_residual-in_err-loaded.ensures.1 in
    rw (p.1, p.2) (not_flat (document_view c.args.document) (accepted_view c.in_ok-accepted.accepted) c.in_ok-accepted.ensures.reads (refusal_of c.in_err-loaded.field-0.0) c.in_err-loaded.ensures.reads)

pub returns-clause-reads : goal.returns-clause-reads
returns-clause-reads c =
    is_loaded (document_view c.args.document) (accepted_view c.in_ok-accepted.accepted) c.in_ok-accepted.ensures.reads (loaded_view c.in_ok-loaded.loaded) c.in_ok-loaded.ensures.reads

pub returns-clause-consistent : goal.returns-clause-consistent
returns-clause-consistent c =
    (loaded_of (document_view c.args.document) (loaded_view c.in_ok-loaded.loaded) (is_loaded (document_view c.args.document) (accepted_view c.in_ok-accepted.accepted) c.in_ok-accepted.ensures.reads (loaded_view c.in_ok-loaded.loaded) c.in_ok-loaded.ensures.reads)).consistent

pub returns-clause-distinct : goal.returns-clause-distinct
returns-clause-distinct c =
    (loaded_well (document_view c.args.document) (accepted_view c.in_ok-accepted.accepted) (loaded_view c.in_ok-loaded.loaded) c.requires.well_named c.in_ok-accepted.ensures.well c.in_ok-accepted.ensures.reads c.in_ok-loaded.ensures.reads).distinct

pub returns-clause-well_spelled : goal.returns-clause-well_spelled
returns-clause-well_spelled c =
    (loaded_well (document_view c.args.document) (accepted_view c.in_ok-accepted.accepted) (loaded_view c.in_ok-loaded.loaded) c.requires.well_named c.in_ok-accepted.ensures.well c.in_ok-accepted.ensures.reads c.in_ok-loaded.ensures.reads).spelled

pub returns-clause-flat_names : goal.returns-clause-flat_names
returns-clause-flat_names c =
    (loaded_well (document_view c.args.document) (accepted_view c.in_ok-accepted.accepted) (loaded_view c.in_ok-loaded.loaded) c.requires.well_named c.in_ok-accepted.ensures.well c.in_ok-accepted.ensures.reads c.in_ok-loaded.ensures.reads).flat

pub returns-clause-short : goal.returns-clause-short
returns-clause-short c =
    (loaded_well (document_view c.args.document) (accepted_view c.in_ok-accepted.accepted) (loaded_view c.in_ok-loaded.loaded) c.requires.well_named c.in_ok-accepted.ensures.well c.in_ok-accepted.ensures.reads c.in_ok-loaded.ensures.reads).short
