-- `N = body [timed]` behind `colset`.
use Rattle.std.proofs.Common.{[]}
use Rattle.std.proofs.lemmas.Result.{err_from_is_err_and}
use Rattle.cpn_lex.specs.declared.symbols.Symbol.TheVariants as sign
use Rattle.cpn_syntax.specs.Fragments.{whole}
use Rattle.cpn_syntax.specs.Phrases.{absent}
use Rattle.cpn_syntax.proofs.Fragments.{next, leaves_on, leaves_to_halt, leaves_next, halts_next, optional_read}
use Rattle.cpn_syntax.proofs.Phrases.{name_next, no_name_next, sign_next, no_sign_next, can_sign}
use Rattle.cpn_syntax.proofs.DeclarationParts.{form_begins, can_body_next, body_ends, no_timed}
use Rattle.cpn_syntax.proofs.declarations.colour_set.Goals as goal

pub returns-in_err-name-clause-stops : goal.returns-in_err-name-clause-stops
returns-in_err-name-clause-stops c =
    let p = err_from_is_err_and c.from_residual.result c.from_residual.ensures.1 in
    rw (p.1, p.2) (λ no t is. leaves_to_halt (form_begins t sign.Colset is) (no_name_next (λ n. can_sign (can_body_next (λ b. (_, [], next [] [] absent whole)))) (c.in_err-name.ensures.refused no)))

pub returns-in_err-take-clause-stops : goal.returns-in_err-take-clause-stops
returns-in_err-take-clause-stops c =
    let p = err_from_is_err_and c.from_residual-in_err-take.result c.from_residual-in_err-take.ensures.1 in
    rw (p.1, p.2) (λ no t is. leaves_to_halt (form_begins t sign.Colset is) (leaves_to_halt (name_next c.in_ok-name.ensures.taken) (no_sign_next (can_body_next (λ b. (_, [], next [] [] absent whole))) c.in_err-take.ensures.refused)))

pub returns-in_err-body-clause-stops : goal.returns-in_err-body-clause-stops
returns-in_err-body-clause-stops c =
    let p = err_from_is_err_and c.from_residual-in_err-body.result c.from_residual-in_err-body.ensures.1 in
    rw (p.1, p.2) (λ no t is. leaves_to_halt (form_begins t sign.Colset is) (leaves_to_halt (name_next c.in_ok-name.ensures.taken) (leaves_to_halt (sign_next c.in_ok-take.ensures.taken)
    (halts_next (body_ends t.at _) (λ b. (_, [], next [] [] absent whole)) (c.in_err-body.ensures.stops no)))))

pub returns-clause-read : goal.returns-clause-read
returns-clause-read c = λ t is.
    leaves_on (form_begins t sign.Colset is) (leaves_on (name_next c.in_ok-name.ensures.taken) (leaves_on (sign_next c.in_ok-take.ensures.taken)
    (leaves_on (leaves_next (body_ends t.at _) c.in_ok-body.ensures.read) (optional_read c.accept-timed.result (no_timed _) c.accept-timed.ensures.yes c.accept-timed.ensures.no))))
