-- The rules of the module itself, of its places, and of the rest.
use Rattle.cpn_document.specs.Document.{module_rules}
use Rattle.cpn_document.specs.Views.{module_view}
use Rattle.cpn_document.proofs.BrokenRules.{breaks_here, breaks_later, both_kept, three_later, gives_error, gives_alike}
use Rattle.cpn_document.proofs.modules.ModuleNamed.read.Goals as goal

pub returns-in_err-add_named-clause-gives : goal.returns-in_err-add_named-clause-gives
unfolding module_rules
returns-in_err-add_named-clause-gives c =
    let broken = rw c.module_keys.ensures.exact at c.in_err-add_named.ensures.gives in
    gives_error module_view c.from_residual.result _ _ c.in_err-add_named.field-0.0 c.from_residual.ensures.1
    (breaks_here _ _ _ (breaks_here _ _ _ (breaks_here _ _ _ (breaks_here _ _ _ broken))))

pub returns-in_err-places-clause-gives : goal.returns-in_err-places-clause-gives
unfolding module_rules
returns-in_err-places-clause-gives c =
    let front = rw c.module_keys.ensures.exact at c.in_ok-add_named.ensures.gives.1 in
    gives_error module_view c.from_residual-in_err-places.result _ _ c.in_err-places.field-0.0 c.from_residual-in_err-places.ensures.1
    (breaks_here _ _ _ (breaks_here _ _ _ (breaks_here _ _ _ (breaks_later _ _ _ front c.in_err-places.ensures.gives))))

pub returns-clause-gives : goal.returns-clause-gives
unfolding module_rules
returns-clause-gives c =
    let front = rw c.module_keys.ensures.exact at c.in_ok-add_named.ensures.gives.1 in
    let rest = rw c.in_ok-places.ensures.gives.0 at c.module_with.ensures.gives in
    gives_alike module_view c.module_with.result _ _ _ (three_later _ _ _ _ (both_kept _ _ front c.in_ok-places.ensures.gives.1)) rest
