-- `N [: N]`.
use Rattle.std.proofs.Common.{[]}
use Rattle.std.proofs.lemmas.Result.{err_from_is_err_and}
use Rattle.cpn_syntax.specs.Fragments.{whole}
use Rattle.cpn_syntax.specs.Phrases.{absent}
use Rattle.cpn_syntax.proofs.Fragments.{next, leaves_on, leaves_to_halt, optional_yes, optional_no}
use Rattle.cpn_syntax.proofs.Phrases.{name_next, no_name_next}
use Rattle.cpn_syntax.proofs.DeclarationParts.{alternative_begins, no_colon}
use Rattle.cpn_syntax.proofs.declarations.alternative.Goals as goal

pub returns-in_err-constructor-clause-stops : goal.returns-in_err-constructor-clause-stops
returns-in_err-constructor-clause-stops c =
    let p = err_from_is_err_and c.from_residual.result c.from_residual.ensures.1 in
    rw (p.1, p.2) (λ no. leaves_to_halt alternative_begins (no_name_next (λ n. (_, [], next [] [] absent whole)) (c.in_err-constructor.ensures.refused no)))

pub returns-then-not-accept-clause-read : goal.returns-then-not-accept-clause-read
returns-then-not-accept-clause-read c =
    let no = c.accept.ensures.no c.if-not-accept.true in
    leaves_on alternative_begins (leaves_on (name_next c.in_ok-constructor.ensures.taken) (rw no.0 (optional_no no.1)))

pub returns-in_err-colour-clause-stops : goal.returns-in_err-colour-clause-stops
returns-in_err-colour-clause-stops c =
    let p = err_from_is_err_and c.from_residual-in_err-colour.result c.from_residual-in_err-colour.ensures.1 in
    rw (p.1, p.2) (λ no. leaves_to_halt alternative_begins (leaves_to_halt (name_next c.in_ok-constructor.ensures.taken) (leaves_to_halt (optional_yes (no_colon _) (c.accept.ensures.yes c.if-not-accept.false))
    (no_name_next (λ m. (_, [], whole)) (c.in_err-colour.ensures.refused no)))))

pub returns-clause-read : goal.returns-clause-read
returns-clause-read c =
    leaves_on alternative_begins (leaves_on (name_next c.in_ok-constructor.ensures.taken) (leaves_on (optional_yes (no_colon _) (c.accept.ensures.yes c.if-not-accept.false)) (name_next c.in_ok-colour.ensures.taken)))
