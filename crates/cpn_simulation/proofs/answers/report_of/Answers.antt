-- The runs of the session of the model may begin, in a report that has told none; and what they, and then the probes, have told is the report.
use Rattle.std.proofs.Common.{refl, ap, ◌∙◌, subst}
use Rattle.cpn_edit.proofs.StartedSessions.{run_starts}
use Rattle.cpn_model.specs.Views.{model_view}
use Rattle.cpn_probe.specs.Reported.{AreReports}
use Rattle.cpn_report.specs.Report.{report_text}
use Rattle.cpn_simulation.specs.OptionsView.{options_view}
use Rattle.cpn_simulation.specs.Reported.{session_from, told_runs}
use Rattle.cpn_simulation.proofs.answers.report_of.Goals as goal

pub run_phases-requires-clause-may_begin : goal.run_phases-requires-clause-may_begin
run_phases-requires-clause-may_begin g c κs within =
    let model = model_view c.args.model in
    record {
      s = session_from model (options_view c.args.options.now);
      stands = c.in_ok-session.ensures.stands;
      none = refl;
      starts = run_starts model.phases c.requires.starts;
      trace = c.args.options.now.trace;
      tells = c.in_ok-told.ensures.tells;
    }

pub returns-clause-report : goal.returns-clause-report
returns-clause-report g c =
    let session = session_from (model_view c.args.model) (options_view c.args.options.now) in
    let trace = c.args.options.now.trace in
    let ran = c.in_ok-status.ensures.runs session c.in_ok-session.ensures.stands refl trace c.in_ok-told.ensures.tells in
    record {
      runs = ran.0;
      are_runs = ran.1;
      said = c.in_ok-said.said.items;
      says = (c.run_phases.new.probes.items, ran.4, subst (λ ps. AreReports g.P.Probe.Reports ps c.in_ok-said.said.items) c.as_slice.ensures.value c.in_ok-said.ensures);
      status_is = ran.2;
      text_is = c.in_ok-text.ensures.text trace (told_runs session.phases ran.0) ran.3 ∙ ap (λ said. report_text trace (told_runs session.phases ran.0) said) c.as_slice-2.ensures.value;
    }
