-- Each turn of the loop leads on from where the ones before it came to.
use Rattle.std.proofs.lemmas.Result.{err_from_is_err_and}
use Rattle.cpn_syntax.proofs.Progress.{leads_on, leads_to_stop}
use Rattle.cpn_syntax.proofs.pattern_parser.whole_pattern.Goals as goal

pub returns-in_err-step-in-Wants-clause-stops : goal.returns-in_err-step-in-Wants-clause-stops
returns-in_err-step-in-Wants-clause-stops c =
    let p = err_from_is_err_and c.from_residual.result c.from_residual.ensures.1 in
    let until = rw c.in-Wants.is at c.loop-step.invariant in
    rw (p.1, p.2) (λ no_memory. leads_to_stop until (c.in_err-step-in-Wants.ensures.stops no_memory))

pub returns-in_err-step-in-Has-clause-stops : goal.returns-in_err-step-in-Has-clause-stops
returns-in_err-step-in-Has-clause-stops c =
    let p = err_from_is_err_and c.from_residual-in_err-step-in-Has.result c.from_residual-in_err-step-in-Has.ensures.1 in
    let until = rw c.in-Has.is at c.loop-step.invariant in
    rw (p.1, p.2) (λ no_memory. leads_to_stop until (c.in_err-step-in-Has.ensures.stops no_memory))

pub loop-step-preserved-in_ok-step-in-Wants : goal.loop-step-preserved-in_ok-step-in-Wants
loop-step-preserved-in_ok-step-in-Wants c = leads_on (rw c.in-Wants.is at c.loop-step.invariant) c.in_ok-step-in-Wants.ensures.comes.leads

pub loop-step-preserved : goal.loop-step-preserved
loop-step-preserved c = leads_on (rw c.in-Has.is at c.loop-step.invariant) c.in_ok-step-in-Has.ensures.comes.leads
