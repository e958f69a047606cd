-- The next monitor is read, or the first refusal is its.
use Rattle.std.proofs.Common.{List, map, [], ◌∷◌, arith, sym, subst, take}
use Rattle.std.proofs.lemmas.List.{map-append}
use Rattle.std.proofs.lemmas.Result.{err_from_is_err_and}
use Rattle.cpn_core.specs.Nets.{net_view}
use Rattle.cpn_declared.specs.DeclsViews.{decls_view}
use Rattle.cpn_document.specs.Views.{monitor_view}
use Rattle.cpn_monitor.specs.Views.{monitor_view as measured_view}
use Rattle.cpn_monitor.specs.declared.monitors.Monitor.{Monitor}
use Rattle.cpn_readings.proofs.RelatedLists.{AreRead, related_more, related_refused, related_done}
use Rattle.cpn_monitor_texts.specs.Answers.{monitor_refusal_of}
use Rattle.cpn_monitor_texts.specs.Checked.{monitor_so}
use Rattle.cpn_monitor_texts.proofs.checking.each_monitor.Goals as goal

pub loop-number-init : goal.loop-number-init
loop-number-init c = subst (λ (monitors : List Monitor). AreRead (monitor_so (decls_view c.args.decls.now) (net_view c.args.net.now)) 0 (map monitor_view (take 0 c.args.written.now)) (map measured_view monitors)) (sym c.in_ok-monitors.ensures.items) tt

pub loop-number-preserved : goal.loop-number-preserved
loop-number-preserved c =
    rw (c.in_ok-push.ensures.items, map-append measured_view c.loop-number.monitors.items (c.in_ok-monitor_of.field-0 ∷ []))
    (related_more (monitor_so (decls_view c.args.decls.now) (net_view c.args.net.now)) monitor_view c.args.written.now c.loop-number.number c.index-written-number.result c.loop-number-test.true c.index-written-number.is (map measured_view c.loop-number.monitors.items) c.loop-number.invariant (measured_view c.in_ok-monitor_of.field-0) c.in_ok-monitor_of.ensures.reads)

pub returns : goal.returns
returns c = record { reads = related_done (monitor_so (decls_view c.args.decls.now) (net_view c.args.net.now)) monitor_view c.args.written.now c.loop-number.number (map measured_view c.loop-number.monitors.items) (omega arith) c.loop-number.invariant }

pub returns-in_err-monitor_of : goal.returns-in_err-monitor_of
returns-in_err-monitor_of c = record {
  reads = (
      let p = err_from_is_err_and c.from_residual-in_err-monitor_of.result c.from_residual-in_err-monitor_of.ensures.1 in
      rw (p.1, p.2)
      (related_refused (monitor_so (decls_view c.args.decls.now) (net_view c.args.net.now)) monitor_view c.args.written.now c.loop-number.number c.index-written-number.result c.loop-number-test.true c.index-written-number.is (map measured_view c.loop-number.monitors.items) c.loop-number.invariant (monitor_refusal_of c.in_err-monitor_of.field-0.0) c.in_err-monitor_of.ensures.reads));
}
