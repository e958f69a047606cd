-- The runs of what is accepted start from where runs may start; and so a report with its trace tells their journals, but for the seats.
use Rattle.std.proofs.Common.{◌≡◌, ℕ, List, [], ◌∷◌, map, refl, sym, ap, ◌∙◌, subst}
use Rattle.std.specs.List.{AllByRecursion}
use Rattle.cpn_definitions.specs.DistinctNames.{HasWellSpelledNames}
use Rattle.cpn_definitions.specs.Net.{PlainNet}
use Rattle.cpn_definitions.proofs.RisingLists.{each_implied}
use Rattle.cpn_document.specs.declared.document.Start.{Start}
use Rattle.cpn_edit.specs.Sessions.{PlainSession, phases_run, AreRuns, after_phase, after_run}
use Rattle.cpn_edit.proofs.MadeRuns.{IsMadeIn, spelled_alike, runs_are_made}
use Rattle.cpn_edit_texts.specs.Edits.{EditedPhase}
use Rattle.cpn_monitor.specs.Monitors.{PlainMonitor}
use Rattle.cpn_runs.specs.Phases.{PlainPhase}
use Rattle.cpn_runs.specs.Playable.{IsPlayable}
use Rattle.cpn_runs.specs.WithoutSeats.{Kind, without_seats}
use Rattle.cpn_model.specs.Reading.{PlainModel}
use Rattle.cpn_model.proofs.WellModels.{IsWellModel, model_is_well}
use Rattle.cpn_report.specs.Printable.{RunsArePrintable}
use Rattle.cpn_report.specs.Report.{ToldRun, report_text}
use Rattle.cpn_report.specs.Told.{AreSpelled, IsMadeRun, AreMadeRuns, journals_told, JournalsDiffer}
use Rattle.cpn_report.specs.declared.traces.Trace.{Trace}
use Rattle.cpn_report.specs.declared.traces.Trace.TheVariants as traces
use Rattle.cpn_simulation.specs.AcceptedRuns.{AcceptedIsPlayable, HasTrace, journals_of, ReportsTellJournals}
use Rattle.cpn_simulation.specs.Reported.{say, session_from, told_runs, IsReport}
use Rattle.cpn_simulation.specs.Telling.{told_one}
use Rattle.cpn_simulation.specs.declared.statuses.Status.{Status}
use Rattle.cpn_simulation.proofs.AcceptedSessions.{accepted_session}

pub accepted_is_playable : AcceptedIsPlayable
accepted_is_playable bytes words model options runs reads given are =
    let made = runs_are_made (session_from model options) (accepted_session bytes words model options reads given) runs are in
    each_implied (IsMadeIn model.loaded.net model.monitors) (λ (run : PlainPhase). IsPlayable run.setup) runs (λ run is. is.playable) made

-- ---- runs as they are told

none_told : (phases : List EditedPhase) → told_runs phases [] ≡ []
none_told [] = refl
none_told (phase ∷ phases) = refl

-- all runs of a session are told
all_told : (s : PlainSession) (runs : List PlainPhase) → AreRuns s runs → journals_told (told_runs s.phases runs) ≡ map (λ (run : PlainPhase). without_seats run.run.journal) runs
unfolding AreRuns
all_told s [] are = ap journals_told (none_told s.phases)
all_told s (run ∷ runs) are =
    ap (λ (phases : List EditedPhase). journals_told (told_runs phases (run ∷ runs))) are.2
    ∙ ap (λ (journals : List (List (Kind × ℕ))). without_seats run.run.journal ∷ journals) (all_told (after_run (after_phase s are.0 are.1) run) runs are.6)

module _ (printable : RunsArePrintable) (n : PlainNet) (monitors : List PlainMonitor) (spelled : HasWellSpelledNames n) (monitors_spelled : AreSpelled monitors) where
  -- a run of a session is one that was made
  one_made : (start : Start) (run : PlainPhase) → IsMadeIn n monitors run → IsMadeRun (told_one start run)
  one_made start run is = record {
    spelled = spelled_alike run.setup.net n is.alike spelled;
    monitors_spelled = subst AreSpelled (sym is.monitors_are) monitors_spelled;
    printable = printable run.setup run.run (record { sound = is.playable.sound; named = is.named }) is.playable.marking is.is_run is.ends_otherwise;
    playable = is.playable;
    is_run = is.is_run;
  }

  all_made : (phases : List EditedPhase) (runs : List PlainPhase) → AllByRecursion (IsMadeIn n monitors) runs → AreMadeRuns (told_runs phases runs)
  all_made [] runs are = tt
  all_made (phase ∷ phases) [] are = tt
  all_made (phase ∷ phases) (run ∷ runs) are = (one_made phase.start run are.0, all_made phases runs are.1)

-- ---- a report with its trace

module _ (printable : RunsArePrintable) (bytes : List ℕ) (words said : List (List ℕ)) (status : Status) (text : List ℕ) (report : IsReport bytes words (say said) status text) where
  abbrev its_model : PlainModel
  its_model = report.is_report.model

  abbrev its_runs : List PlainPhase
  its_runs = report.is_report.is_report.runs

  abbrev its_told : List ToldRun
  its_told = told_runs (phases_run its_model.phases) its_runs

  its_made : AreMadeRuns its_told
  its_made =
      let well : IsWellModel its_model = model_is_well bytes its_model report.is_report.reads in
      let valid = accepted_session bytes words its_model report.options report.is_report.reads report.words_are in
      all_made printable its_model.loaded.net its_model.monitors well.well.written.spelled well.spelled (phases_run its_model.phases) its_runs
      (runs_are_made (session_from its_model report.options) valid its_runs report.is_report.is_report.are_runs)

  its_text : HasTrace report → report_text traces.On its_told report.is_report.is_report.said ≡ text
  its_text on = sym (subst (λ (trace : Trace). text ≡ report_text trace its_told report.is_report.is_report.said) on report.is_report.is_report.text_is)

  its_journals : journals_told its_told ≡ journals_of report
  its_journals = all_told (session_from its_model report.options) its_runs report.is_report.is_report.are_runs

pub reports_tell_journals : RunsArePrintable → JournalsDiffer → ReportsTellJournals
reports_tell_journals printable differ bytes other_bytes words other_words said other_said status other_status text report other on other_on =
    sym (its_journals printable bytes words said status text report)
    ∙ differ (its_told printable bytes words said status text report) (its_told printable other_bytes other_words other_said other_status text other)
    report.is_report.is_report.said other.is_report.is_report.said
    (its_made printable bytes words said status text report) (its_made printable other_bytes other_words other_said other_status text other)
    (its_text printable bytes words said status text report on ∙ sym (its_text printable other_bytes other_words other_said other_status text other other_on))
    ∙ its_journals printable other_bytes other_words other_said other_status text other
