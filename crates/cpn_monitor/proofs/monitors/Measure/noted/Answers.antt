-- The values of an inscription with one more.
use Rattle.std.proofs.Common.{◌∙◌, sym, ap, subst}
use Rattle.cpn_core.specs.Inscriptions.{expr_view, funs_view}
use Rattle.cpn_monitor.specs.Noted.{noted, MayBeNoted}
use Rattle.cpn_monitor.specs.Views.{measure_view, measured_view, marked_view}
use Rattle.cpn_monitor.specs.declared.monitors.Measure.{Measure}
use Rattle.cpn_monitor.proofs.NotedRuns.{noted_value}
use Rattle.cpn_monitor.proofs.monitors.Measure.noted.Goals as goal

pub returns-in_ok-value-in-Value : goal.returns-in_ok-value-in-Value
returns-in_ok-value-in-Value c =
    let may = subst (λ (measure : Measure). MayBeNoted (funs_view c.args.funs.now) (marked_view c.args.occurrence.now c.args.after.now) (measure_view measure) (measured_view c.args.old.now)) c.in-Value.is c.requires.may in
    let occurs = sym c.occurs.ensures ∙ c.if-not-occurs.false in
    record {
      noted = c.valued.ensures.with ∙ noted_value (funs_view c.args.funs.now) (marked_view c.args.occurrence.now c.args.after.now) c.in-Value.transition (expr_view c.in-Value.inscription) (measured_view c.args.old.now) c.in_ok-value-in-Value.value occurs (may.2 occurs) c.in_ok-value-in-Value.ensures.integer
          ∙ sym (ap (λ (measure : Measure). noted (funs_view c.args.funs.now) (marked_view c.args.occurrence.now c.args.after.now) (measure_view measure) (measured_view c.args.old.now)) c.in-Value.is);
    }
