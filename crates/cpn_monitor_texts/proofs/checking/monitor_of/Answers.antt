-- What it measures comes first, and then its name.
use Rattle.std.proofs.Common.{◌∙◌, ℕ, List, sym, subst}
use Rattle.std.proofs.lemmas.Result.{err_from_is_err_and}
use Rattle.cpn_core.specs.Nets.{net_view}
use Rattle.cpn_declared.specs.DeclsViews.{decls_view}
use Rattle.cpn_document.specs.Views.{monitor_view}
use Rattle.cpn_monitor.specs.Views.{measure_view}
use Rattle.cpn_monitor_texts.specs.Answers.{monitor_refusal_of}
use Rattle.cpn_monitor_texts.specs.Checked.{monitor_so}
use Rattle.cpn_monitor_texts.specs.Reading.{read}
use Rattle.cpn_monitor_texts.proofs.CheckedSteps.{monitor_read, monitor_refused}
use Rattle.cpn_monitor_texts.proofs.checking.monitor_of.Goals as goal

pub returns-in_err-measure : goal.returns-in_err-measure
returns-in_err-measure c = record {
  reads = let p = err_from_is_err_and c.from_residual.result c.from_residual.ensures.1 in rw (p.1, p.2) (monitor_refused (decls_view c.args.decls.now) (net_view c.args.net.now) c.args.number (monitor_view c.args.written.now) (monitor_refusal_of c.in_err-measure.field-0.0) c.in_err-measure.ensures.reads);
}

pub returns : goal.returns
returns c = record {
  reads = subst (λ (name : List ℕ). monitor_so (decls_view c.args.decls.now) (net_view c.args.net.now) c.args.number (monitor_view c.args.written.now) (read (record { name = name; measure = measure_view c.in_ok-measure.measure }))) (sym (c.in_ok-name.ensures.ok ∙ c.as_str.ensures.value))
      (monitor_read (decls_view c.args.decls.now) (net_view c.args.net.now) c.args.number (monitor_view c.args.written.now) (measure_view c.in_ok-measure.measure) c.in_ok-measure.ensures.reads);
}
