-- The rules are looked at one group behind the other.
use Rattle.std.proofs.Common.{rules}
use Rattle.cpn_document.specs.Document.{fusion_rules, each_member}
use Rattle.cpn_document.specs.Views.{fusion_view}
use Rattle.cpn_document.proofs.BrokenRules.{refused_later, is_refused, is_kept, broken_here, both_kept, error_breaks, breaks_here, breaks_later, gives_error}
use Rattle.cpn_document.proofs.fusions.FusionNamed.read.Goals as goal

pub returns-in_err-add_named-clause-gives : goal.returns-in_err-add_named-clause-gives
unfolding fusion_rules each_member
returns-in_err-add_named-clause-gives c =
    let broken = rw c.fusion_keys.ensures.exact at c.in_err-add_named.ensures.gives in
    gives_error fusion_view c.from_residual.result _ _ c.in_err-add_named.field-0.0 c.from_residual.ensures.1 (breaks_here _ _ _ (breaks_here _ _ _ broken))

pub returns-in-Some-clause-gives : goal.returns-in-Some-clause-gives
unfolding fusion_rules each_member
returns-in-Some-clause-gives c =
    let front = rw c.fusion_keys.ensures.exact at c.in_ok-add_named.ensures.gives.1 in
    let all = refused_later _ _ _ front c.list_refusal.ensures.exact in
    error_breaks _ _ _ c.from.ensures (broken_here _ _ _ (is_refused _ _ _ all c.in-Some.is))

pub returns-in_err-members-clause-gives : goal.returns-in_err-members-clause-gives
unfolding fusion_rules each_member
returns-in_err-members-clause-gives c =
    let front = rw c.fusion_keys.ensures.exact at c.in_ok-add_named.ensures.gives.1 in
    let all = refused_later _ _ _ front c.list_refusal.ensures.exact in
    let broken = rw c.list_or_empty.ensures.exact at c.in_err-members.ensures.gives in
    gives_error fusion_view c.from_residual-in_err-members.result _ _ c.in_err-members.field-0.0 c.from_residual-in_err-members.ensures.1 (breaks_later _ _ _ (is_kept _ _ all c.in_default.is) broken)

pub returns-clause-gives : goal.returns-clause-gives
unfolding fusion_rules each_member
returns-clause-gives c =
    let front = rw c.fusion_keys.ensures.exact at c.in_ok-add_named.ensures.gives.1 in
    let all = refused_later _ _ _ front c.list_refusal.ensures.exact in
    let each = rw c.list_or_empty.ensures.exact at c.in_ok-members.ensures.gives.1 in
    (search rules, both_kept _ _ (is_kept _ _ all c.in_default.is) each)
