-- The transition has its other guard; then its variables are looked at, and what monitors measure.
use Rattle.std.proofs.Common.{◌≡◌, ◌<◌, ℕ, List, map, sym, ap, subst}
use Rattle.std.specs.List.{AllByRecursion}
use Rattle.std.proofs.lemmas.List.{length-map}
use Rattle.cpn_bindable.specs.Transitions.{CarriesItsTerms}
use Rattle.cpn_core.specs.Inscriptions.{expr_view}
use Rattle.cpn_core.specs.Nets.{net_view, transition_view}
use Rattle.cpn_declared.specs.Answers.{refusal_of}
use Rattle.cpn_declared.specs.DeclsViews.{decls_view}
use Rattle.cpn_definitions.specs.Net.{PlainArc, PlainTransition}
use Rattle.cpn_monitor.specs.Views.{monitors_view}
use Rattle.cpn_typing.specs.Answers.{Refuses}
use Rattle.cpn_typing.specs.Names.{ok}
use Rattle.cpn_edit_texts.specs.Answers.{edit_refusal_of}
use Rattle.cpn_edit_texts.specs.Measured.{measured_over}
use Rattle.cpn_edit_texts.proofs.CheckedEdits.{variables_refused, measured_refused, transition_made}
use Rattle.cpn_edit_texts.proofs.NetTransitions.{monitors_declared, terms_carried}
use Rattle.cpn_edit_texts.proofs.guards.edited_transition.Goals as goal

pub check_bindable-requires : goal.check_bindable-requires
check_bindable-requires c = record {
  terms = (
      let net = c.args.net.now in
      let t = c.args.number in
      subst (λ (arcs : List PlainArc). AllByRecursion CarriesItsTerms arcs) (sym (ap (λ (x : PlainTransition). x.inputs) c.in_ok-edited.ensures.completed.same))
      (terms_carried (net_view net) t c.requires.editable.sound (subst (λ (k : ℕ). t < k) (sym (length-map net.transitions.items transition_view)) c.requires.there)));
}

pub returns-in-Err : goal.returns-in-Err
returns-in-Err c = record {
  reads = (
      let n = net_view c.args.net.now in
      let conjuncts = map expr_view c.args.guard.conjuncts.items in
      variables_refused (decls_view c.args.decls.now) n (monitors_view c.args.monitors.now) c.args.at c.args.number conjuncts (transition_view c.in_ok-edited.edited) c.in_ok-edited.ensures.completed
      (refusal_of c.in-Err.error) (edit_refusal_of c.not_accepted.result) c.not_accepted.ensures.refused (c.in-Err.ensures.exact n c.requires.editable.declares.variables));
}

pub check_measured-requires : goal.check_measured-requires
check_measured-requires c = record {
  declared = monitors_declared (decls_view c.args.decls.now) c.requires.editable.consistent (net_view c.args.net.now) (monitors_view c.args.monitors.now) c.requires.editable.measured;
}

pub returns-in-Ok-check_measured : goal.returns-in-Ok-check_measured
returns-in-Ok-check_measured c = record {
  reads = (
      let n = net_view c.args.net.now in
      let ds = decls_view c.args.decls.now in
      let ms = monitors_view c.args.monitors.now in
      let conjuncts = map expr_view c.args.guard.conjuncts.items in
      transition_made ds n ms c.args.at c.args.number conjuncts (transition_view c.in_ok-edited.edited) c.in_ok-edited.ensures.completed (c.in-Ok.ensures.exact n c.requires.editable.declares.variables)
      (subst (λ (vars : List ℕ). measured_over ds c.args.number vars ms ≡ ok tt) c.as_slice.ensures.value c.in-Ok-check_measured.ensures.exact));
}

pub returns-in-Err-check_measured : goal.returns-in-Err-check_measured
returns-in-Err-check_measured c = record {
  reads = (
      let n = net_view c.args.net.now in
      let ds = decls_view c.args.decls.now in
      let ms = monitors_view c.args.monitors.now in
      let conjuncts = map expr_view c.args.guard.conjuncts.items in
      let o = refusal_of c.in-Err-check_measured.error in
      measured_refused ds n ms c.args.at c.args.number conjuncts (transition_view c.in_ok-edited.edited) c.in_ok-edited.ensures.completed (c.in-Ok.ensures.exact n c.requires.editable.declares.variables)
      o (edit_refusal_of c.not_accepted-in-Err-check_measured.result) c.not_accepted-in-Err-check_measured.ensures.refused
      (subst (λ (vars : List ℕ). Refuses o (measured_over ds c.args.number vars ms)) c.as_slice.ensures.value c.in-Err-check_measured.ensures.exact));
}
