-- The monitors are checked, and then the edits; or one of them is refused.
use Rattle.std.proofs.Common.{List, map, subst}
use Rattle.std.proofs.lemmas.Result.{err_from_is_err_and}
use Rattle.cpn_document.specs.Views.{monitor_view, phase_view}
use Rattle.cpn_document.specs.declared.document.Monitor.{Monitor}
use Rattle.cpn_document.specs.declared.document.Phase.{Phase}
use Rattle.cpn_edit_texts.specs.Answers.{edit_refusal_of}
use Rattle.cpn_edit_texts.specs.Checked.{phases_so}
use Rattle.cpn_edit_texts.specs.Views.{phases_view}
use Rattle.cpn_flat.specs.Flat.{PlainLoaded}
use Rattle.cpn_flat.specs.Views.{loaded_view}
use Rattle.cpn_monitor.specs.Views.{monitors_view}
use Rattle.cpn_monitor_texts.specs.Answers.{monitor_refusal_of}
use Rattle.cpn_monitor_texts.specs.Checked.{monitors_so}
use Rattle.cpn_readings.specs.Reading.{read}
use Rattle.cpn_readings.specs.Relations.{RefusesBy}
use Rattle.cpn_model.proofs.ReadModels.{monitor_refused, edit_refused, model_made}
use Rattle.cpn_model.proofs.ReadyModels.{is_ready}
use Rattle.cpn_model.proofs.models.model_of.Goals as goal

pub returns-in_err-monitors-clause-reads : goal.returns-in_err-monitors-clause-reads
returns-in_err-monitors-clause-reads c =
    let p = err_from_is_err_and c.from_residual.result c.from_residual.ensures.1 in
    let loaded : PlainLoaded = loaded_view c.args.loaded in
    let o = monitor_refusal_of c.in_err-monitors.field-0.0 in
    rw (p.1, p.2)
    (monitor_refused loaded o (subst (λ (written : List Monitor). RefusesBy (monitors_so loaded.declared loaded.net (map monitor_view written)) o) c.as_slice.ensures.value c.in_err-monitors.ensures.reads))

pub check_phases-requires : goal.check_phases-requires
check_phases-requires c = record {
  editable = (is_ready (loaded_view c.args.loaded) (monitors_view c.in_ok-monitors.monitors) c.requires.consistent c.requires.well_loaded c.in_ok-monitors.ensures.accepted).editable;
}

pub returns-in_err-phases-clause-reads : goal.returns-in_err-phases-clause-reads
returns-in_err-phases-clause-reads c =
    let p = err_from_is_err_and c.from_residual-in_err-phases.result c.from_residual-in_err-phases.ensures.1 in
    let loaded : PlainLoaded = loaded_view c.args.loaded in
    let ms = monitors_view c.in_ok-monitors.monitors in
    let are = subst (λ (written : List Monitor). monitors_so loaded.declared loaded.net (map monitor_view written) (read ms)) c.as_slice.ensures.value c.in_ok-monitors.ensures.reads in
    let o = edit_refusal_of c.in_err-phases.field-0.0 in
    rw (p.1, p.2)
    (edit_refused loaded ms are o (subst (λ (written : List Phase). RefusesBy (phases_so loaded.declared ms 0 loaded.net (map phase_view written)) o) c.as_slice-2.ensures.value c.in_err-phases.ensures.reads))

pub returns-clause-reads : goal.returns-clause-reads
returns-clause-reads c =
    let loaded : PlainLoaded = loaded_view c.args.loaded in
    let ms = monitors_view c.in_ok-monitors.monitors in
    let are = subst (λ (written : List Monitor). monitors_so loaded.declared loaded.net (map monitor_view written) (read ms)) c.as_slice.ensures.value c.in_ok-monitors.ensures.reads in
    let phases = phases_view c.in_ok-phases.phases.items in
    model_made loaded ms are phases (subst (λ (written : List Phase). phases_so loaded.declared ms 0 loaded.net (map phase_view written) (read phases)) c.as_slice-2.ensures.value c.in_ok-phases.ensures.reads)

pub returns-clause-ready : goal.returns-clause-ready
returns-clause-ready c = is_ready (loaded_view c.args.loaded) (monitors_view c.in_ok-monitors.monitors) c.requires.consistent c.requires.well_loaded c.in_ok-monitors.ensures.accepted
