-- `N : N`.
use Rattle.std.proofs.Common.{[]}
use Rattle.std.proofs.lemmas.Result.{err_from_is_err_and}
use Rattle.cpn_syntax.specs.Fragments.{whole}
use Rattle.cpn_syntax.proofs.Fragments.{leaves_on, leaves_to_halt}
use Rattle.cpn_syntax.proofs.Phrases.{name_next, no_name_next, sign_next, no_sign_next, can_name, can_sign}
use Rattle.cpn_syntax.proofs.DeclarationParts.{parameter_begins}
use Rattle.cpn_syntax.proofs.declarations.parameter.Goals as goal

pub returns-in_err-name-clause-stops : goal.returns-in_err-name-clause-stops
returns-in_err-name-clause-stops c =
    let p = err_from_is_err_and c.from_residual.result c.from_residual.ensures.1 in
    rw (p.1, p.2) (λ no. leaves_to_halt parameter_begins (no_name_next (λ n. can_sign (can_name (λ m. (_, [], whole)))) (c.in_err-name.ensures.refused no)))

pub returns-in_err-take-clause-stops : goal.returns-in_err-take-clause-stops
returns-in_err-take-clause-stops c =
    let p = err_from_is_err_and c.from_residual-in_err-take.result c.from_residual-in_err-take.ensures.1 in
    rw (p.1, p.2) (λ no. leaves_to_halt parameter_begins (leaves_to_halt (name_next c.in_ok-name.ensures.taken) (no_sign_next (can_name (λ m. (_, [], whole))) c.in_err-take.ensures.refused)))

pub returns-in_err-colour-clause-stops : goal.returns-in_err-colour-clause-stops
returns-in_err-colour-clause-stops c =
    let p = err_from_is_err_and c.from_residual-in_err-colour.result c.from_residual-in_err-colour.ensures.1 in
    rw (p.1, p.2) (λ no. leaves_to_halt parameter_begins (leaves_to_halt (name_next c.in_ok-name.ensures.taken) (leaves_to_halt (sign_next c.in_ok-take.ensures.taken)
    (no_name_next (λ m. (_, [], whole)) (c.in_err-colour.ensures.refused no)))))

pub returns-clause-read : goal.returns-clause-read
returns-clause-read c =
    leaves_on parameter_begins (leaves_on (name_next c.in_ok-name.ensures.taken) (leaves_on (sign_next c.in_ok-take.ensures.taken) (name_next c.in_ok-colour.ensures.taken)))
