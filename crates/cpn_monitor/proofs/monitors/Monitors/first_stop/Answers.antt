-- One number more.
use Rattle.std.proofs.Common.{◌∙◌, ◌<◌, [], ◌∷◌, ◌++◌, length, take, get_or, sym, subst}
use Rattle.std.proofs.lemmas.List.{take_more}
use Rattle.std.proofs.lemmas.List.Elements.{All-from_recursion}
use Rattle.cpn_monitor.specs.Noted.{stops_number, IsLeastOf}
use Rattle.cpn_monitor.specs.Views.{monitors_view, values_view, marked_view}
use Rattle.cpn_monitor.proofs.ListedMonitors.{least_with, least_without}
use Rattle.cpn_monitor.proofs.ValueViews.{stops_here}
use Rattle.cpn_monitor.proofs.monitors.Monitors.first_stop.Goals as goal
use Rattle.cpn_monitor.proofs.monitors.Monitors.first_stop.Goals.{then-stops, else-stops}

pub loop-number-preserved : goal.loop-number-preserved
loop-number-preserved c = λ after.
    let numbers = c.args.numbers.now in
    let i = c.loop-number.number-index in
    let k = get_or numbers i 0 in
    let marked = marked_view c.args.occurrence.now after in
    let passes = stops_number marked (monitors_view c.args.self.now) (values_view c.args.values.now) in
    let known = All-from_recursion (λ number. number < length c.args.self.now.monitors.items) numbers c.requires.known i 0 c.loop-number-test.true in
    let here = stops_here marked c.args.self.now.monitors.items c.args.values.now.values.items k c.index-in-loop-number.result.now c.index.result.now known c.requires.many c.index-in-loop-number.ensures c.index.ensures in
    let is = here ∙ sym (c.stops.ensures.stops after) in
    subst (λ ks. IsLeastOf passes ks c.if-stops.first) (sym (take_more numbers i 0 c.loop-number-test.true))
    (elim c.if-stops.branch [
      | then-stops w ↦ subst (IsLeastOf passes (take i numbers ++ k ∷ [])) (sym w.first-is) (least_with passes (take i numbers) k c.loop-number.first w.lesser.result (c.loop-number.invariant after) (is ∙ w.if-stops.true) w.lesser.ensures.lesser)
      | else-stops w ↦ subst (IsLeastOf passes (take i numbers ++ k ∷ [])) (sym w.first-is) (least_without passes (take i numbers) k c.loop-number.first (c.loop-number.invariant after) (is ∙ w.if-stops.false))
    ])
