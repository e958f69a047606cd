-- The variable is held to the value of the inscription.
use Rattle.std.proofs.Common.{◌≡◌, ℕ, Option, Result, Ok, Err, IfOk, sym, ap, ◌∙◌, subst}
use Rattle.cpn_definitions.specs.Value.{PlainValue}
use Rattle.cpn_definitions.specs.Outcome.{Outcome, gives}
use Rattle.cpn_definitions.specs.Inscription.{variable_pattern}
use Rattle.cpn_definitions.specs.Meaning.{meaning}
use Rattle.cpn_definitions.specs.Net.{PlainNet}
use Rattle.cpn_core.specs.Views.{value_view}
use Rattle.cpn_core.specs.Inscriptions.{expr_view, funs_view}
use Rattle.cpn_core.specs.Nets.{net_view}
use Rattle.cpn_eval.specs.Answers.{Answers}
use Rattle.cpn_stages.specs.Fitting.{held}
use Rattle.cpn_stages.specs.Partial.{PlainPartial, bound_in}
use Rattle.cpn_stages.specs.Trials.{kept, with_outcome}
use Rattle.cpn_search.proofs.extending.solved.Goals as goal

holds_outcome
    : {E : Type 0} (n : PlainNet) (x : ℕ) (b : PlainPartial) (v : PlainValue) (outcome : Outcome PlainValue) (r : Result (Option PlainPartial) E)
    → outcome ≡ gives v
    → IfOk r (λ longer. longer ≡ held x v b)
    → IfOk r (λ longer. with_outcome n (variable_pattern x) b outcome ≡ kept n longer)
holds_outcome n x b v outcome (Ok longer) is same = ap (with_outcome n (variable_pattern x) b) is ∙ ap (kept n) (sym same)
holds_outcome n x b v outcome (Err e) is same = tt

pub returns-in-Ok-clause-solved : goal.returns-in-Ok-clause-solved
returns-in-Ok-clause-solved c =
    let n = net_view c.args.net.now in
    let e = expr_view c.args.inscription.now in
    let b = c.args.partial.now in
    let outcome = meaning (funs_view c.deref.result.now) e c.in_ok-binding.binding 0 in
    let bound : meaning n.functions e (bound_in b) 0 ≡ meaning n.functions e c.in_ok-binding.binding 0 = ap (λ k. meaning n.functions e k 0) (sym c.in_ok-binding.ensures.bound) in
    let same : meaning n.functions e c.in_ok-binding.binding 0 ≡ outcome = ap (λ fs. meaning (funs_view fs) e c.in_ok-binding.binding 0) (sym c.deref.ensures) in
    let is : outcome ≡ gives (value_view c.in-Ok.value) = subst (λ r. Answers value_view r outcome) c.in-Ok.is c.eval.ensures.value in
    holds_outcome n c.args.variable b (value_view c.in-Ok.value) (meaning n.functions e (bound_in b) 0) c.with_value.result (bound ∙ same ∙ is) c.with_value.ensures.held
