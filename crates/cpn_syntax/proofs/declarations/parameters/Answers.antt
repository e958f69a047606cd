-- `N : N {, N : N}`.
use Rattle.std.proofs.Common.{map}
use Rattle.std.proofs.lemmas.List.{map-append}
use Rattle.std.proofs.lemmas.Result.{err_from_is_err_and}
use Rattle.cpn_trees.specs.DeclTrees.{parameter_view}
use Rattle.cpn_syntax.proofs.Fragments.{each_begins, part_and_sign, last_part, no_part}
use Rattle.cpn_syntax.proofs.declarations.parameters.Goals as goal

pub loop-parameters-init : goal.loop-parameters-init
loop-parameters-init c = rw c.new-parameters.ensures.items each_begins

pub returns-in_err-parameter-clause-stops : goal.returns-in_err-parameter-clause-stops
returns-in_err-parameter-clause-stops c =
    let p = err_from_is_err_and c.from_residual.result c.from_residual.ensures.1 in
    rw (p.1, p.2) (λ no. no_part (map parameter_view c.loop-parameters.parameters.items) (λ v e. (tt, e)) (λ t v is. tt) c.loop-parameters.invariant (c.in_err-parameter.ensures.stops no))

pub returns-then-not-accept-clause-read : goal.returns-then-not-accept-clause-read
returns-then-not-accept-clause-read c =
    rw (c.in_ok-push.ensures.items, map-append) (last_part (map parameter_view c.loop-parameters.parameters.items) (λ v e. (tt, e)) (λ t v is. tt)
    c.loop-parameters.invariant c.in_ok-parameter.ensures.read (c.accept.ensures.no c.if-not-accept.true))

pub loop-parameters-preserved : goal.loop-parameters-preserved
loop-parameters-preserved c =
    rw (c.in_ok-push.ensures.items, map-append) (part_and_sign (map parameter_view c.loop-parameters.parameters.items) (λ v e. (tt, e)) (λ t v is. tt)
    c.loop-parameters.invariant c.in_ok-parameter.ensures.read (c.accept.ensures.yes c.if-not-accept.false))
