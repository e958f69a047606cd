-- What is accepted as a guard, as a delay or as what a monitor measures has a meaning.
use Rattle.std.proofs.Common.{◌≡◌, ℕ, List, [], ◌∷◌, Some, refl, subst}
use Rattle.std.specs.List.{AllByRecursion}
use Rattle.cpn_definitions.specs.Inscription.{PlainExpr}
use Rattle.cpn_definitions.specs.Bindable.{variables_of}
use Rattle.cpn_definitions.proofs.RisingLists.{in_from_contains, contains_from_in}
use Rattle.cpn_trees.specs.Trees.{PlainAst, PlainAsts}
use Rattle.cpn_typing.specs.Types.{PlainTy, int_type}
use Rattle.cpn_typing.specs.Names.{Declared, ok}
use Rattle.cpn_typing.specs.Contexts.{in_delay, in_monitor}
use Rattle.cpn_typing.specs.Rules.{Typed}
use Rattle.cpn_typing.specs.Expressions.{typed}
use Rattle.cpn_typing.specs.GuardsAndDelays.{checked_guard, checked_delay, checked_value}
use Rattle.cpn_typing.proofs.MeaningsInNets.{AreAmong, guard_means, delay_means, monitor_means}
use Rattle.cpn_types.specs.Accepted.{AreOf, GuardHasMeaning, IntegerHasMeaning}

among : (vars xs : List ℕ) → AreOf vars xs → AreAmong xs vars
among vars xs are x h = in_from_contains vars x (are x (contains_from_in xs x h))

all_among : (vars : List ℕ) (guard : List PlainExpr) → AllByRecursion (λ e. AreOf vars (variables_of e)) guard → AllByRecursion (λ e. AreAmong (variables_of e) vars) guard
all_among vars [] h = tt
all_among vars (e ∷ es) h = (among vars (variables_of e) h.0, all_among vars es h.1)

pub guard_has_meaning : (ds : Declared) (parts : PlainAsts) (guard : List PlainExpr) → checked_guard ds parts ≡ ok guard → GuardHasMeaning ds guard
guard_has_meaning ds parts guard is good n of vars are b time bound = guard_means ds good n of parts guard is vars (all_among vars guard are) b time bound

-- an inscription that is accepted at the type of integers
delay_seen : (ds : Declared) (a : PlainAst) (w : PlainTy) (r : Typed) → w ≡ int_type → typed ds in_delay a [] (Some w) ≡ ok r → checked_delay ds a ≡ ok r.expr
delay_seen ds a w r v is = let g : typed ds in_delay a [] (Some int_type) ≡ ok r = subst (λ t. typed ds in_delay a [] (Some t) ≡ ok r) v is in rw g refl

value_seen : (ds : Declared) (a : PlainAst) (w : PlainTy) (r : Typed) → w ≡ int_type → typed ds in_monitor a [] (Some w) ≡ ok r → checked_value ds a ≡ ok r.expr
value_seen ds a w r v is = let g : typed ds in_monitor a [] (Some int_type) ≡ ok r = subst (λ t. typed ds in_monitor a [] (Some t) ≡ ok r) v is in rw g refl

pub delay_has_meaning : (ds : Declared) (a : PlainAst) (w : PlainTy) (r : Typed) → w ≡ int_type → typed ds in_delay a [] (Some w) ≡ ok r → IntegerHasMeaning ds r.expr
delay_has_meaning ds a w r v is good n of vars are b time bound = delay_means ds good n of a r.expr (delay_seen ds a w r v is) vars (among vars (variables_of r.expr) are) b time bound

pub value_has_meaning : (ds : Declared) (a : PlainAst) (w : PlainTy) (r : Typed) → w ≡ int_type → typed ds in_monitor a [] (Some w) ≡ ok r → IntegerHasMeaning ds r.expr
value_has_meaning ds a w r v is good n of vars are b time bound = monitor_means ds good n of a r.expr (value_seen ds a w r v is) vars (among vars (variables_of r.expr) are) b time bound
