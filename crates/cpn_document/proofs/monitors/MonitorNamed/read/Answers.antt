-- The rules are looked at one group behind the other.
use Rattle.std.proofs.Common.{◌≡◌, refl, sym, ◌∙◌, Some}
use Rattle.std.specs.Prelude.{Option}
use Rattle.std.specs.Option.{unwrap_or}
use Rattle.cpn_document.specs.declared.monitors.MonitorForm.{MonitorForm}
use Rattle.cpn_document.specs.declared.monitors.MonitorForm.TheVariants as forms
use Rattle.cpn_document.specs.Monitors.{monitor_rules}
use Rattle.cpn_document.specs.Views.{monitor_view}
use Rattle.cpn_document.proofs.BrokenRules.{refused_later, is_refused, is_kept, broken_here, broken_later, both_kept, error_breaks, breaks_here, gives_error, gives_refused}
use Rattle.cpn_document.proofs.monitors.MonitorNamed.read.Goals as goal

-- a form that is told is the form
told_is : (form : MonitorForm) (told : Option MonitorForm) → Some form ≡ told → unwrap_or told forms.Count ≡ form
told_is form told h = rw (← h) refl

pub returns-in_err-add_named-clause-gives : goal.returns-in_err-add_named-clause-gives
unfolding monitor_rules
returns-in_err-add_named-clause-gives c =
    let broken = rw (c.monitor_keys-keys.ensures.exact, c.form_in.ensures.exact) at c.in_err-add_named.ensures.gives in
    gives_error monitor_view c.from_residual.result _ _ c.in_err-add_named.field-0.0 c.from_residual.ensures.1 (breaks_here _ _ _ (breaks_here _ _ _ broken))

pub returns-in_err-form-clause-gives : goal.returns-in_err-form-clause-gives
unfolding monitor_rules
returns-in_err-form-clause-gives c =
    let front = rw (c.monitor_keys-keys.ensures.exact, c.form_in.ensures.exact) at c.in_ok-add_named.ensures.gives.1 in
    gives_refused monitor_view c.from_residual-in_err-form.result _ _ _ c.from_residual-in_err-form.ensures.1 (broken_here _ _ _ (broken_later _ _ front ∙ c.in_err-form.ensures.finds))

pub returns-in-Some-clause-gives : goal.returns-in-Some-clause-gives
unfolding monitor_rules
returns-in-Some-clause-gives c =
    let front = rw (c.monitor_keys-keys.ensures.exact, c.form_in.ensures.exact) at c.in_ok-add_named.ensures.gives.1 in
    let told = told_is _ _ c.in_ok-form.ensures.finds.0 in
    let kind = rw (sym told) at c.kind_refusal.ensures.exact in
    let all = refused_later _ _ _ (both_kept _ _ front c.in_ok-form.ensures.finds.1) kind in
    error_breaks _ _ _ c.from.ensures (is_refused _ _ _ all c.in-Some.is)

pub returns-clause-gives : goal.returns-clause-gives
unfolding monitor_rules
returns-clause-gives c =
    let front = rw (c.monitor_keys-keys.ensures.exact, c.form_in.ensures.exact) at c.in_ok-add_named.ensures.gives.1 in
    let told = told_is _ _ c.in_ok-form.ensures.finds.0 in
    let kind = rw (sym told) at c.kind_refusal.ensures.exact in
    let all = refused_later _ _ _ (both_kept _ _ front c.in_ok-form.ensures.finds.1) kind in
    (rw (c.in_ok-copied.ensures.text, c.text_or_empty.ensures.exact, c.in_ok-copied_kind.ensures.reads, told) refl, is_kept _ _ all c.in_default.is)
