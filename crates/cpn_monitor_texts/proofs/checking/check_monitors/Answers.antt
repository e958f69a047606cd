-- They are one thing, are accepted, and fit the net.
use Rattle.std.proofs.Common.{◌≡◌, map, sym, subst, rules}
use Rattle.cpn_core.specs.Inscriptions.{funs_view}
use Rattle.cpn_core.specs.Nets.{net_view}
use Rattle.cpn_core.specs.declared.inscriptions.Funs.{Funs}
use Rattle.cpn_declared.specs.DeclsViews.{decls_view}
use Rattle.cpn_document.specs.Views.{monitor_view}
use Rattle.cpn_monitor.specs.Fitting.{FitNet}
use Rattle.cpn_monitor.specs.Views.{monitor_view as measured_view}
use Rattle.cpn_monitor_texts.proofs.FittingMonitors.{accepted_fit, monitors_accepted}
use Rattle.cpn_monitor_texts.proofs.OneReading.{monitors_one}
use Rattle.cpn_monitor_texts.proofs.checking.check_monitors.Goals as goal

pub returns-clause-one : goal.returns-clause-one
returns-clause-one c = monitors_one (decls_view c.args.decls.now) (net_view c.args.net.now) (map monitor_view c.args.written.now)

pub returns-in_err-named-clause-one : goal.returns-in_err-named-clause-one
returns-in_err-named-clause-one c = monitors_one (decls_view c.args.decls.now) (net_view c.args.net.now) (map monitor_view c.args.written.now)

pub returns-in_err-monitors-clause-one : goal.returns-in_err-monitors-clause-one
returns-in_err-monitors-clause-one c = monitors_one (decls_view c.args.decls.now) (net_view c.args.net.now) (map monitor_view c.args.written.now)

pub returns-in_err-funs-clause-one : goal.returns-in_err-funs-clause-one
returns-in_err-funs-clause-one c = monitors_one (decls_view c.args.decls.now) (net_view c.args.net.now) (map monitor_view c.args.written.now)

pub returns-clause-fit : goal.returns-clause-fit
returns-clause-fit c =
    let same : c.in_ok-funs.funs.value ≡ c.args.net.now.funs.value = search rules in
    subst (λ (funs : Funs). FitNet (net_view c.args.net.now) (funs_view funs) (map measured_view c.in_ok-monitors.monitors.items)) (sym same)
    (accepted_fit (decls_view c.args.decls.now) (net_view c.args.net.now) c.requires.consistent c.requires.declares (map measured_view c.in_ok-monitors.monitors.items)
    (monitors_accepted (decls_view c.args.decls.now) (net_view c.args.net.now) (map monitor_view c.args.written.now) (map measured_view c.in_ok-monitors.monitors.items) (rw (← c.in_ok-named.ensures.net) c.in_ok-monitors.ensures.reads)))

pub returns-clause-accepted : goal.returns-clause-accepted
returns-clause-accepted c = monitors_accepted (decls_view c.args.decls.now) (net_view c.args.net.now) (map monitor_view c.args.written.now) (map measured_view c.in_ok-monitors.monitors.items) (rw (← c.in_ok-named.ensures.net) c.in_ok-monitors.ensures.reads)
