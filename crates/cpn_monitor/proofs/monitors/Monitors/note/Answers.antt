-- What is kept is that of the run with the occurrence, and the first monitor that stops it is found.
use Rattle.std.proofs.Common.{◌≡◌, ◌∙◌, ◌<◌, ℕ, List, length, map, subst, sym, ap, ap₂, arith, Bool, true, ◌↔◌}
use Rattle.std.specs.Prelude.{Contains}
use Rattle.std.specs.List.{AllByRecursion}
use Rattle.std.proofs.lemmas.List.{length-map}
use Rattle.cpn_core.specs.Elements.{element_view}
use Rattle.cpn_core.specs.declared.bindings.Element.{Element}
use Rattle.cpn_core.specs.Inscriptions.{funs_view}
use Rattle.cpn_monitor.specs.MonitorValues.{PlainMonitorValue}
use Rattle.cpn_monitor.specs.Kept.{IsAmongConcerned}
use Rattle.cpn_monitor.specs.Noted.{MayNoteAt, IsLeastOf, stops_number, with_noted}
use Rattle.cpn_monitor.specs.Views.{monitor_view, value_view, monitors_view, values_view, measuring_view, noted_view, marked_view}
use Rattle.cpn_monitor.specs.declared.noting.Noted.{Noted}
use Rattle.cpn_monitor.proofs.ListedMonitors.{all_weaker, none_found}
use Rattle.cpn_monitor.proofs.ToldRuns.{same_length, may_note_at, looked_at_so, noted_long, kept_with_occurrence, found_stops}
use Rattle.cpn_monitor.proofs.ValueViews.{numbers_same, numbers_all}
use Rattle.cpn_monitor.proofs.monitors.Monitors.note.Goals as goal

pub all_noted-requires : goal.all_noted-requires
all_noted-requires c =
    let funs = funs_view c.args.self.now.funs.value in
    let monitors = monitors_view c.args.self.now in
    let kept = measuring_view c.args.measuring.now in
    let marked = marked_view c.args.occurrence.now c.args.after.now in
    let may = c.requires.may in
    let numbers = c.in_ok-looked_at.looked_at.items in
    let concerned = subst (λ (e : Element). kept.is_quiet ≡ true → (k : ℕ) → Contains numbers k ↔ IsAmongConcerned kept (element_view e).transition k) c.deref.ensures c.in_ok-looked_at.ensures.concerned in
    let looked = looked_at_so may.net funs monitors may.run kept may.is_kept (element_view c.args.occurrence.now.element.value).transition numbers concerned c.in_ok-looked_at.ensures.all in
    record {
      may =
          subst (AllByRecursion (MayNoteAt funs marked monitors kept.values)) (sym c.deref-2.ensures.value)
          (all_weaker (λ k. k < length monitors) (MayNoteAt funs marked monitors kept.values) (may_note_at funs monitors kept marked may) numbers looked.known);
    }

pub replace-requires : goal.replace-requires
replace-requires c =
    let funs = funs_view c.args.self.now.funs.value in
    let monitors = monitors_view c.args.self.now in
    let kept = measuring_view c.args.measuring.now in
    let may = c.requires.may in
    let numbers = c.in_ok-looked_at.looked_at.items in
    let concerned = subst (λ (e : Element). kept.is_quiet ≡ true → (k : ℕ) → Contains numbers k ↔ IsAmongConcerned kept (element_view e).transition k) c.deref.ensures c.in_ok-looked_at.ensures.concerned in
    let looked = looked_at_so may.net funs monitors may.run kept may.is_kept (element_view c.args.occurrence.now.element.value).transition numbers concerned c.in_ok-looked_at.ensures.all in
    let many = same_length funs monitors may.run kept.values may.is_kept.values_are in
    let long = length-map c.args.measuring.now.values.values.items value_view in
    let known = all_weaker (λ k. k < length monitors) (λ k. k < length c.args.measuring.now.values.values.items) (λ k lt. omega (arith, lt, many, long)) numbers looked.known in
    record {
      known =
          subst (AllByRecursion (λ (one : Noted). one.number < length c.args.measuring.now.values.values.items)) (sym c.deref-3.ensures.value)
          (numbers_all (λ k. k < length c.args.measuring.now.values.values.items) c.in_ok-noted.noted.items
          (subst (AllByRecursion (λ (k : ℕ). k < length c.args.measuring.now.values.values.items)) (sym (c.in_ok-noted.ensures.numbers ∙ c.deref-2.ensures.value)) known));
    }

pub first_stop-stop-requires-clause-known : goal.first_stop-stop-requires-clause-known
first_stop-stop-requires-clause-known c =
    let funs = funs_view c.args.self.now.funs.value in
    let monitors = monitors_view c.args.self.now in
    let kept = measuring_view c.args.measuring.now in
    let may = c.requires.may in
    let numbers = c.in_ok-looked_at.looked_at.items in
    let concerned = subst (λ (e : Element). kept.is_quiet ≡ true → (k : ℕ) → Contains numbers k ↔ IsAmongConcerned kept (element_view e).transition k) c.deref.ensures c.in_ok-looked_at.ensures.concerned in
    let looked = looked_at_so may.net funs monitors may.run kept may.is_kept (element_view c.args.occurrence.now.element.value).transition numbers concerned c.in_ok-looked_at.ensures.all in
    let long = length-map c.args.self.now.monitors.items monitor_view in
    subst (AllByRecursion (λ (k : ℕ). k < length c.args.self.now.monitors.items)) (sym c.deref-4.ensures.value)
    (all_weaker (λ k. k < length monitors) (λ k. k < length c.args.self.now.monitors.items) (λ k lt. omega (arith, lt, long)) numbers looked.known)

pub first_stop-stop-requires-clause-many : goal.first_stop-stop-requires-clause-many
first_stop-stop-requires-clause-many c =
    let may = c.requires.may in
    sym (length-map c.replace.new.self.values.items value_view) ∙ ap (λ (vs : List PlainMonitorValue). length vs) c.replace.ensures.replaced ∙ noted_long (map noted_view c.deref-3.result.now) (values_view c.args.measuring.now.values)
    ∙ same_length (funs_view c.args.self.now.funs.value) (monitors_view c.args.self.now) may.run (values_view c.args.measuring.now.values) may.is_kept.values_are ∙ length-map c.args.self.now.monitors.items monitor_view

pub returns-clause-noted : goal.returns-clause-noted
returns-clause-noted c = λ n run are next.
    let funs = funs_view c.args.self.now.funs.value in
    let monitors = monitors_view c.args.self.now in
    let old = measuring_view c.args.measuring.now in
    let marked = marked_view c.args.occurrence.now c.args.after.now in
    let numbers = c.in_ok-looked_at.looked_at.items in
    let concerned = subst (λ (e : Element). old.is_quiet ≡ true → (k : ℕ) → Contains numbers k ↔ IsAmongConcerned old (element_view e).transition k) c.deref.ensures c.in_ok-looked_at.ensures.concerned in
    let xs = map noted_view c.in_ok-noted.noted.items in
    let found = c.first_stop-stop.result in
    let replaced = c.replace.ensures.replaced ∙ ap (λ (those : List Noted). with_noted (map noted_view those) old.values) c.deref-3.ensures.value in
    let looked = looked_at_so n funs monitors run old are marked.occurrence.element.transition numbers concerned c.in_ok-looked_at.ensures.all in
    kept_with_occurrence n funs monitors run old _ marked numbers xs found are next looked c.in_ok-noted.ensures.noted (numbers_same c.in_ok-noted.noted.items ∙ c.in_ok-noted.ensures.numbers ∙ c.deref-2.ensures.value)
    (subst (λ ks. IsLeastOf (stops_number marked monitors (values_view c.replace.new.self)) ks found) c.deref-4.ensures.value (c.first_stop-stop.ensures.first c.args.after.now))
    (ap₂ (λ (vs : List PlainMonitorValue) (quiet : Bool). record old { values = vs; is_quiet = quiet }) replaced (none_found found c.is_none-measuring.result c.is_none-measuring.ensures))

pub returns-clause-stop : goal.returns-clause-stop
returns-clause-stop c = λ n run are next.
    let funs = funs_view c.args.self.now.funs.value in
    let monitors = monitors_view c.args.self.now in
    let old = measuring_view c.args.measuring.now in
    let marked = marked_view c.args.occurrence.now c.args.after.now in
    let numbers = c.in_ok-looked_at.looked_at.items in
    let concerned = subst (λ (e : Element). old.is_quiet ≡ true → (k : ℕ) → Contains numbers k ↔ IsAmongConcerned old (element_view e).transition k) c.deref.ensures c.in_ok-looked_at.ensures.concerned in
    let found = c.first_stop-stop.result in
    let looked = looked_at_so n funs monitors run old are marked.occurrence.element.transition numbers concerned c.in_ok-looked_at.ensures.all in
    let all = returns-clause-noted c n run are next in
    found_stops n funs monitors run old marked are next numbers looked (values_view c.replace.new.self) (record { up_to = all.up_to; values_are = all.values_are }) found
    (subst (λ ks. IsLeastOf (stops_number marked monitors (values_view c.replace.new.self)) ks found) c.deref-4.ensures.value (c.first_stop-stop.ensures.first c.args.after.now))
