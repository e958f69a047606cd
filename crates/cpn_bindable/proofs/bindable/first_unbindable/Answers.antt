-- What is answered is the first that is not found, which is the first that is not bindable; and it is a variable.
use Rattle.std.proofs.Common.{◌≡◌, map}
use Rattle.cpn_definitions.specs.Net.{PlainNet}
use Rattle.cpn_typing.specs.BindableRule.{FirstIs}
use Rattle.cpn_core.specs.Nets.{variable_view, transition_view}
use Rattle.cpn_bindable.proofs.BindableChecked.{checked, first_there}
use Rattle.cpn_bindable.proofs.bindable.first_unbindable.Goals as goal

pub returns : goal.returns
returns c =
    let exact : (n : PlainNet) → n.variables ≡ map variable_view c.args.variables.now → FirstIs n (transition_view c.args.transition.now) (transition_view c.args.transition.now).vars c.first_unknown.result = λ n own. checked n (transition_view c.args.transition.now) _ c.in_ok-known.known.items c.in_ok-found.found.items c.deref-3.result.now c.deref-4.result.now c.in_ok-equations.equations.items c.deref-2.result.now c.first_unknown.result
    own
    c.requires.terms
    (rw c.deref.ensures at c.in_ok-equations.ensures.exact)
    c.deref-2.ensures.value
    c.in_ok-known.ensures.first
    c.in_ok-found.ensures.found
    c.deref-3.ensures.value
    c.deref-4.ensures.value
    c.first_unknown.ensures.exact in
    record { exact = exact; there = first_there c.args.variables.now (transition_view c.args.transition.now) (transition_view c.args.transition.now).vars c.first_unknown.result exact }
