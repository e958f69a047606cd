-- `N = e` behind `val`.
use Rattle.std.proofs.Common.{[]}
use Rattle.std.proofs.lemmas.Result.{err_from_is_err_and}
use Rattle.cpn_lex.specs.declared.symbols.Symbol.TheVariants as sign
use Rattle.cpn_syntax.specs.Fragments.{whole}
use Rattle.cpn_syntax.proofs.Fragments.{leaves_on, leaves_to_halt}
use Rattle.cpn_syntax.proofs.Phrases.{name_next, no_name_next, sign_next, no_sign_next, can_sign}
use Rattle.cpn_syntax.proofs.WholeInscriptions.{can_inscription_next, inscription_next, no_inscription_next}
use Rattle.cpn_syntax.proofs.DeclarationParts.{form_begins}
use Rattle.cpn_syntax.proofs.declarations.value.Goals as goal

pub returns-in_err-name-clause-stops : goal.returns-in_err-name-clause-stops
returns-in_err-name-clause-stops c =
    let p = err_from_is_err_and c.from_residual.result c.from_residual.ensures.1 in
    rw (p.1, p.2) (λ no t is. leaves_to_halt (form_begins t sign.Val is) (no_name_next (λ n. can_sign (can_inscription_next (λ a. (_, [], whole)))) (c.in_err-name.ensures.refused no)))

pub returns-in_err-take-clause-stops : goal.returns-in_err-take-clause-stops
returns-in_err-take-clause-stops c =
    let p = err_from_is_err_and c.from_residual-in_err-take.result c.from_residual-in_err-take.ensures.1 in
    rw (p.1, p.2) (λ no t is. leaves_to_halt (form_begins t sign.Val is) (leaves_to_halt (name_next c.in_ok-name.ensures.taken) (no_sign_next (can_inscription_next (λ a. (_, [], whole))) c.in_err-take.ensures.refused)))

pub returns-in_err-value-clause-stops : goal.returns-in_err-value-clause-stops
returns-in_err-value-clause-stops c =
    let p = err_from_is_err_and c.from_residual-in_err-value.result c.from_residual-in_err-value.ensures.1 in
    rw (p.1, p.2) (λ no t is. leaves_to_halt (form_begins t sign.Val is) (leaves_to_halt (name_next c.in_ok-name.ensures.taken) (leaves_to_halt (sign_next c.in_ok-take.ensures.taken) (no_inscription_next _ (c.in_err-value.ensures.stops no)))))

pub returns-clause-read : goal.returns-clause-read
returns-clause-read c = λ t is. leaves_on (form_begins t sign.Val is) (leaves_on (name_next c.in_ok-name.ensures.taken) (leaves_on (sign_next c.in_ok-take.ensures.taken) (inscription_next _ c.in_ok-value.ensures.read)))
