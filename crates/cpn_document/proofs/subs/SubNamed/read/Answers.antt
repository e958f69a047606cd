-- The rules are looked at one group behind the other.
use Rattle.std.proofs.Common.{refl}
use Rattle.cpn_document.specs.Document.{sub_rules, each_assignment}
use Rattle.cpn_document.specs.Views.{sub_view}
use Rattle.cpn_document.proofs.BrokenRules.{refused_or, refused_later, is_refused, is_kept, broken_here, both_kept, error_breaks, breaks_here, breaks_later, gives_error}
use Rattle.cpn_document.proofs.subs.SubNamed.read.Goals as goal

pub returns-in_err-add_named-clause-gives : goal.returns-in_err-add_named-clause-gives
unfolding sub_rules each_assignment
returns-in_err-add_named-clause-gives c =
    let broken = rw (c.sub_keys.ensures.exact, c.at_sub-whole.ensures.exact, c.at_sub-at_name.ensures.exact) at c.in_err-add_named.ensures.gives in
    gives_error sub_view c.from_residual.result _ _ c.in_err-add_named.field-0.0 c.from_residual.ensures.1 (breaks_here _ _ _ (breaks_here _ _ _ (breaks_here _ _ _ broken)))

pub returns-in-Some-clause-gives : goal.returns-in-Some-clause-gives
unfolding sub_rules each_assignment
returns-in-Some-clause-gives c =
    let front = rw (c.sub_keys.ensures.exact, c.at_sub-whole.ensures.exact, c.at_sub-at_name.ensures.exact) at c.in_ok-add_named.ensures.gives.1 in
    let submodule = rw (c.at_sub-whole.ensures.exact, c.at_sub-at_module.ensures.exact) at c.name_refusal-submodule.ensures.exact in
    let list = rw (c.at_sub-whole.ensures.exact, c.at_sub-at_assign.ensures.exact) at c.list_refusal-assign.ensures.exact in
    let all = refused_or _ _ _ _ _ c.or.ensures (refused_later _ _ _ front submodule) list in
    error_breaks _ _ _ c.from.ensures (broken_here _ _ _ (is_refused _ _ _ all c.in-Some.is))

pub returns-in_err-assign-clause-gives : goal.returns-in_err-assign-clause-gives
unfolding sub_rules each_assignment
returns-in_err-assign-clause-gives c =
    let front = rw (c.sub_keys.ensures.exact, c.at_sub-whole.ensures.exact, c.at_sub-at_name.ensures.exact) at c.in_ok-add_named.ensures.gives.1 in
    let submodule = rw (c.at_sub-whole.ensures.exact, c.at_sub-at_module.ensures.exact) at c.name_refusal-submodule.ensures.exact in
    let list = rw (c.at_sub-whole.ensures.exact, c.at_sub-at_assign.ensures.exact) at c.list_refusal-assign.ensures.exact in
    let all = refused_or _ _ _ _ _ c.or.ensures (refused_later _ _ _ front submodule) list in
    let broken = rw c.list_or_empty-list.ensures.exact at c.in_err-assign.ensures.gives in
    gives_error sub_view c.from_residual-in_err-assign.result _ _ c.in_err-assign.field-0.0 c.from_residual-in_err-assign.ensures.1 (breaks_later _ _ _ (is_kept _ _ all c.in_default.is) broken)

pub returns-clause-gives : goal.returns-clause-gives
unfolding sub_rules each_assignment
returns-clause-gives c =
    let front = rw (c.sub_keys.ensures.exact, c.at_sub-whole.ensures.exact, c.at_sub-at_name.ensures.exact) at c.in_ok-add_named.ensures.gives.1 in
    let submodule = rw (c.at_sub-whole.ensures.exact, c.at_sub-at_module.ensures.exact) at c.name_refusal-submodule.ensures.exact in
    let list = rw (c.at_sub-whole.ensures.exact, c.at_sub-at_assign.ensures.exact) at c.list_refusal-assign.ensures.exact in
    let all = refused_or _ _ _ _ _ c.or.ensures (refused_later _ _ _ front submodule) list in
    let each = rw c.list_or_empty-list.ensures.exact at c.in_ok-assign.ensures.gives.1 in
    (rw (c.in_ok-copied.ensures.text, c.text_or_empty.ensures.exact, c.in_ok-copied-2.ensures.text, c.text_or_empty-2.ensures.exact, c.in_ok-assign.ensures.gives.0, c.list_or_empty-list.ensures.exact) refl, both_kept _ _ (is_kept _ _ all c.in_default.is) each)
