-- The transition is there, and the text is an inscription over its variables; or one of both refuses the monitor.
use Rattle.std.proofs.Common.{◌≡◌, ◌∙◌, ◌<◌, ℕ, List, length, get_or, sym, ap, subst, arith}
use Rattle.std.proofs.lemmas.List.{length-map}
use Rattle.std.proofs.lemmas.Result.{err_from_is_err_and}
use Rattle.cpn_core.specs.Inscriptions.{expr_view}
use Rattle.cpn_core.specs.Nets.{transition_view, net_view}
use Rattle.cpn_core.specs.declared.nets.Net.{Net}
use Rattle.cpn_core.specs.declared.nets.Transition.{Transition}
use Rattle.cpn_declared.specs.DeclsViews.{decls_view}
use Rattle.cpn_definitions.specs.Net.{transition_at}
use Rattle.cpn_readings.specs.Relations.{RefusesBy}
use Rattle.cpn_monitor_texts.specs.Answers.{monitor_refusal_of}
use Rattle.cpn_monitor_texts.specs.Checked.{inscription_so}
use Rattle.cpn_monitor_texts.specs.Named.{transition_named, known}
use Rattle.cpn_monitor_texts.specs.Reading.{read}
use Rattle.cpn_monitor_texts.proofs.CheckedSteps.{value_unknown, value_read, value_refused}
use Rattle.cpn_monitor_texts.proofs.FittingMonitors.{transition_there}
use Rattle.cpn_monitor_texts.proofs.NetTransitions.{vars_there}
use Rattle.cpn_monitor_texts.proofs.measures.value_of.Goals as goal

pub returns-in_err-transition : goal.returns-in_err-transition
returns-in_err-transition c = record {
  reads = let p = err_from_is_err_and c.from_residual.result c.from_residual.ensures.1 in rw (p.1, p.2) (value_unknown (decls_view c.args.decls.now) (net_view c.args.net.now) c.args.number c.args.name.now c.args.text.now (monitor_refusal_of c.in_err-transition.field-0.0) c.in_err-transition.ensures.known);
}

-- the transition is one of the net's
there : (net : Net) (i : ℕ) (name : List ℕ) (t : ℕ) → known i (transition_named (net_view net) name) ≡ read t → t < length net.transitions.items
there net i name t h = subst (λ (k : ℕ). t < k) (length-map net.transitions.items transition_view) (transition_there (net_view net) i name t h)

pub index-requires : goal.index-requires
index-requires c = let here = there c.args.net.now c.args.number c.args.name.now c.in_ok-transition.transition c.in_ok-transition.ensures.known in rw c.net.ensures.net (omega (arith, here, c.args.net.now.transitions.ok.0))

-- its variables, as the call has them
its : (net same : Net) (t : ℕ) (transition : Transition) (vars : List ℕ) → same ≡ net → t < length net.transitions.items → transition ≡ get_or same.transitions.items t transition → vars ≡ transition.vars.items → vars ≡ (transition_at (net_view net) t).vars
its net same t transition vars are lt at is = is ∙ sym (vars_there net t transition lt (at ∙ ap (λ (n : Net). get_or n.transitions.items t transition) are))

pub returns-in_err-inscription : goal.returns-in_err-inscription
returns-in_err-inscription c = record {
  reads = (
      let ds = decls_view c.args.decls.now in
      let t = c.in_ok-transition.transition in
      let o = monitor_refusal_of c.in_err-inscription.field-0.0 in
      let p = err_from_is_err_and c.from_residual-in_err-inscription.result c.from_residual-in_err-inscription.ensures.1 in
      let lt = there c.args.net.now c.args.number c.args.name.now t c.in_ok-transition.ensures.known in
      rw (p.1, p.2) (value_refused ds (net_view c.args.net.now) c.args.number c.args.name.now c.args.text.now t c.in_ok-transition.ensures.known o
      (subst (λ (vars : List ℕ). RefusesBy (inscription_so ds c.args.number vars c.args.text.now) o) (its c.args.net.now c.net.result.now t c.index.result.now c.as_slice-vars.result.now c.net.ensures.net lt c.index.ensures c.as_slice-vars.ensures.value) c.in_err-inscription.ensures.reads)));
}

pub returns : goal.returns
returns c = record {
  reads = (
      let ds = decls_view c.args.decls.now in
      let t = c.in_ok-transition.transition in
      let e = expr_view c.in_ok-inscription.inscription in
      let lt = there c.args.net.now c.args.number c.args.name.now t c.in_ok-transition.ensures.known in
      value_read ds (net_view c.args.net.now) c.args.number c.args.name.now c.args.text.now t c.in_ok-transition.ensures.known e
      (subst (λ (vars : List ℕ). inscription_so ds c.args.number vars c.args.text.now (read e)) (its c.args.net.now c.net.result.now t c.index.result.now c.as_slice-vars.result.now c.net.ensures.net lt c.index.ensures c.as_slice-vars.ensures.value) c.in_ok-inscription.ensures.reads));
}
