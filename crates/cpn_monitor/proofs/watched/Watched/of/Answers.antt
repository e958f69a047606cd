-- One monitor more.
use Rattle.std.proofs.Common.{◌∙◌, [], ◌∷◌, ◌++◌, length, map, take, ap, subst, sym, arith}
use Rattle.std.proofs.lemmas.List.{take_more, map-append, length-map, length-take-le}
use Rattle.cpn_core.specs.Nets.{net_view}
use Rattle.cpn_monitor.specs.Fitting.{IsMeasurable}
use Rattle.cpn_monitor.specs.Looks.{looks_at}
use Rattle.cpn_monitor.specs.Monitors.{PlainMonitor}
use Rattle.cpn_monitor.specs.Views.{monitor_view, measure_view, watched_view, look_view}
use Rattle.cpn_monitor.specs.declared.monitors.Monitor.{Monitor}
use Rattle.cpn_monitor.specs.Watched.{AreWatched, WatchesMore, IsKnown}
use Rattle.cpn_monitor.proofs.ValueViews.{seen_here}
use Rattle.cpn_monitor.proofs.WatchedNets.{watched_more, look_known}
use Rattle.cpn_monitor.proofs.watched.Watched.of.Goals as goal

pub push-requires : goal.push-requires
push-requires c =
    let monitors = c.args.monitors.now in
    let monitor = c.index-monitors-number.result in
    let is = seen_here (λ (m : PlainMonitor). IsMeasurable (net_view c.args.net.now) m.measure) monitors c.loop-number.number monitor c.requires.measurable c.loop-number-test.true c.index-monitors-number.is in
    let looks = c.looks_at.ensures.looks ∙ ap (λ (m : Monitor). looks_at (measure_view m.measure)) (sym c.index-monitors-number.is) in
    record {
      known =
          subst (IsKnown (watched_view c.loop-number.watched)) (sym looks)
          (look_known (net_view c.args.net.now) (watched_view c.loop-number.watched) (monitor_view monitor).measure is c.loop-number.invariant.transitions c.loop-number.invariant.places);
    }

pub loop-number-preserved : goal.loop-number-preserved
loop-number-preserved c =
    let monitors = c.args.monitors.now in
    let monitor = c.index-monitors-number.result in
    let i = c.loop-number.number in
    let one = ap (map monitor_view) (take_more monitors i monitor c.loop-number-test.true ∙ ap (λ x. take i monitors ++ x ∷ []) (sym c.index-monitors-number.is)) ∙ map-append monitor_view (take i monitors) (monitor ∷ []) in
    let long = length-map (take i monitors) monitor_view ∙ length-take-le i monitors (omega arith) in
    let more = c.in_ok-push.ensures.more in
    let looks = c.looks_at.ensures.looks ∙ ap (λ (m : Monitor). looks_at (measure_view m.measure)) (sym c.index-monitors-number.is) in
    record {
      watched =
          subst (λ ms. AreWatched ms (watched_view c.push.new.self)) (sym one)
          (watched_more (map monitor_view (take i monitors)) (monitor_view monitor) (watched_view c.loop-number.watched) (watched_view c.push.new.self) c.loop-number.invariant.watched
          (subst (λ look. WatchesMore look (length (map monitor_view (take i monitors))) (watched_view c.loop-number.watched) (watched_view c.push.new.self)) looks
          (subst (λ k. WatchesMore (look_view c.looks_at.result) k (watched_view c.loop-number.watched) (watched_view c.push.new.self)) (sym long) more)));
      transitions = more.transitions ∙ c.loop-number.invariant.transitions;
      places = more.places ∙ c.loop-number.invariant.places;
    }
