-- What the monitor of one number more has noted.
use Rattle.std.proofs.Common.{◌≡◌, ◌∙◌, [], ◌∷◌, ◌++◌, map, get_or, ap, sym, subst}
use Rattle.std.specs.List.{AllByRecursion}
use Rattle.std.proofs.lemmas.List.{take_more, map-append}
use Rattle.std.proofs.lemmas.List.Elements.{All-from_recursion}
use Rattle.cpn_core.specs.Inscriptions.{funs_view}
use Rattle.cpn_monitor.specs.Noted.{IsNoted, MayNoteAt, noted}
use Rattle.cpn_monitor.specs.Views.{monitor_view, value_view, monitors_view, values_view, noted_view, measure_view, measured_view, marked_view}
use Rattle.cpn_monitor.specs.declared.noting.Noted.{Noted}
use Rattle.cpn_monitor.proofs.ListedMonitors.{all_more}
use Rattle.cpn_monitor.proofs.ValueViews.{read_view, within_view}
use Rattle.cpn_monitor.proofs.monitors.Monitors.all_noted.Goals as goal

pub loop-number-preserved : goal.loop-number-preserved
loop-number-preserved c =
    let numbers = c.args.numbers.now in
    let i = c.loop-number.number-index in
    let k = get_or numbers i 0 in
    let funs = funs_view c.args.self.now.funs.value in
    let marked = marked_view c.args.occurrence.now c.args.after.now in
    let P = IsNoted funs marked (monitors_view c.args.self.now) (values_view c.args.values.now) in
    let may = All-from_recursion (MayNoteAt funs marked (monitors_view c.args.self.now) (values_view c.args.values.now)) numbers c.requires.may i 0 c.loop-number-test.true in
    let one : Noted = record { number = k; measured = c.in_ok-measured.measured } in
    let pushed = c.in_ok-push.ensures.items in
    record {
      noted =
          subst (AllByRecursion P) (sym (ap (map noted_view) pushed ∙ map-append noted_view c.loop-number.noted.items (one ∷ [])))
          (all_more P (map noted_view c.loop-number.noted.items) (noted_view one) c.loop-number.invariant.noted (record {
            monitor = monitor_view c.index-in-loop-number.result.now;
            monitor_is = read_view monitor_view c.args.self.now.monitors.items k c.index-in-loop-number.result.now (within_view monitor_view c.args.self.now.monitors.items k may.monitor may.monitor_is) c.index-in-loop-number.ensures;
            value = value_view c.index.result.now;
            value_is = read_view value_view c.args.values.now.values.items k c.index.result.now (within_view value_view c.args.values.now.values.items k may.value may.value_is) c.index.ensures;
            measured_is = subst (λ fs. measured_view c.in_ok-measured.measured ≡ noted (funs_view fs) marked (measure_view c.index-in-loop-number.result.now.measure) (measured_view c.index.result.now.measured)) c.deref.ensures c.in_ok-measured.ensures.noted;
          }));
      numbers =
          ap (map (λ (x : Noted). x.number)) pushed ∙ map-append (λ (x : Noted). x.number) c.loop-number.noted.items (one ∷ []) ∙ ap (λ ks. ks ++ k ∷ []) c.loop-number.invariant.numbers
          ∙ sym (take_more numbers i 0 c.loop-number-test.true);
    }
