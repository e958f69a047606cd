-- `N ( N : N {, N : N} ) : N = e` behind `fun`.
use Rattle.std.proofs.Common.{[]}
use Rattle.std.proofs.lemmas.Result.{err_from_is_err_and}
use Rattle.cpn_lex.specs.declared.symbols.Symbol.TheVariants as sign
use Rattle.cpn_syntax.specs.Fragments.{whole}
use Rattle.cpn_syntax.proofs.Fragments.{leaves_on, leaves_to_halt, leaves_next, halts_next, sign_ends}
use Rattle.cpn_syntax.proofs.Phrases.{name_next, no_name_next, sign_next, no_sign_next, can_name, can_sign}
use Rattle.cpn_syntax.proofs.WholeInscriptions.{can_inscription_next, inscription_next, no_inscription_next}
use Rattle.cpn_syntax.proofs.DeclarationParts.{form_begins, can_parameters}
use Rattle.cpn_syntax.proofs.declarations.function.Goals as goal

pub returns-in_err-name-clause-stops : goal.returns-in_err-name-clause-stops
returns-in_err-name-clause-stops c =
    let p = err_from_is_err_and c.from_residual.result c.from_residual.ensures.1 in
    rw (p.1, p.2) (λ no t is. leaves_to_halt (form_begins t sign.Fun is) (no_name_next (λ n. can_sign (can_parameters (λ ps. can_sign (can_sign (can_name (λ r. can_sign (can_inscription_next (λ a. (_, [], whole))))))))) (c.in_err-name.ensures.refused no)))

pub returns-in_err-take-clause-stops : goal.returns-in_err-take-clause-stops
returns-in_err-take-clause-stops c =
    let p = err_from_is_err_and c.from_residual-in_err-take.result c.from_residual-in_err-take.ensures.1 in
    rw (p.1, p.2) (λ no t is. leaves_to_halt (form_begins t sign.Fun is) (leaves_to_halt (name_next c.in_ok-name.ensures.taken) (no_sign_next (can_parameters (λ ps. can_sign (can_sign (can_name (λ r. can_sign (can_inscription_next (λ a. (_, [], whole)))))))) c.in_err-take.ensures.refused)))

pub returns-in_err-parameters-clause-stops : goal.returns-in_err-parameters-clause-stops
returns-in_err-parameters-clause-stops c =
    let p = err_from_is_err_and c.from_residual-in_err-parameters.result c.from_residual-in_err-parameters.ensures.1 in
    rw (p.1, p.2) (λ no t is. leaves_to_halt (form_begins t sign.Fun is) (leaves_to_halt (name_next c.in_ok-name.ensures.taken) (leaves_to_halt (sign_next c.in_ok-take.ensures.taken) (halts_next (sign_ends _ _ sign.CloseParenthesis sign.Comma (λ e. cc)) (λ ps. can_sign (can_sign (can_name (λ r. can_sign (can_inscription_next (λ a. (_, [], whole))))))) (c.in_err-parameters.ensures.stops no)))))

pub returns-in_err-take-2-clause-stops : goal.returns-in_err-take-2-clause-stops
returns-in_err-take-2-clause-stops c =
    let p = err_from_is_err_and c.from_residual-in_err-take-2.result c.from_residual-in_err-take-2.ensures.1 in
    rw (p.1, p.2) (λ no t is. leaves_to_halt (form_begins t sign.Fun is) (leaves_to_halt (name_next c.in_ok-name.ensures.taken) (leaves_to_halt (sign_next c.in_ok-take.ensures.taken) (leaves_to_halt (leaves_next (sign_ends _ _ sign.CloseParenthesis sign.Comma (λ e. cc)) c.in_ok-parameters.ensures.read) (no_sign_next (can_sign (can_name (λ r. can_sign (can_inscription_next (λ a. (_, [], whole)))))) c.in_err-take-2.ensures.refused)))))

pub returns-in_err-take-3-clause-stops : goal.returns-in_err-take-3-clause-stops
returns-in_err-take-3-clause-stops c =
    let p = err_from_is_err_and c.from_residual-in_err-take-3.result c.from_residual-in_err-take-3.ensures.1 in
    rw (p.1, p.2) (λ no t is. leaves_to_halt (form_begins t sign.Fun is) (leaves_to_halt (name_next c.in_ok-name.ensures.taken) (leaves_to_halt (sign_next c.in_ok-take.ensures.taken) (leaves_to_halt (leaves_next (sign_ends _ _ sign.CloseParenthesis sign.Comma (λ e. cc)) c.in_ok-parameters.ensures.read) (leaves_to_halt (sign_next c.in_ok-take-2.ensures.taken) (no_sign_next (can_name (λ r. can_sign (can_inscription_next (λ a. (_, [], whole))))) c.in_err-take-3.ensures.refused))))))

pub returns-in_err-result-clause-stops : goal.returns-in_err-result-clause-stops
returns-in_err-result-clause-stops c =
    let p = err_from_is_err_and c.from_residual-in_err-result.result c.from_residual-in_err-result.ensures.1 in
    rw (p.1, p.2) (λ no t is. leaves_to_halt (form_begins t sign.Fun is) (leaves_to_halt (name_next c.in_ok-name.ensures.taken) (leaves_to_halt (sign_next c.in_ok-take.ensures.taken) (leaves_to_halt (leaves_next (sign_ends _ _ sign.CloseParenthesis sign.Comma (λ e. cc)) c.in_ok-parameters.ensures.read) (leaves_to_halt (sign_next c.in_ok-take-2.ensures.taken) (leaves_to_halt (sign_next c.in_ok-take-3.ensures.taken) (no_name_next (λ r. can_sign (can_inscription_next (λ a. (_, [], whole)))) (c.in_err-result.ensures.refused no))))))))

pub returns-in_err-take-4-clause-stops : goal.returns-in_err-take-4-clause-stops
returns-in_err-take-4-clause-stops c =
    let p = err_from_is_err_and c.from_residual-in_err-take-4.result c.from_residual-in_err-take-4.ensures.1 in
    rw (p.1, p.2) (λ no t is. leaves_to_halt (form_begins t sign.Fun is) (leaves_to_halt (name_next c.in_ok-name.ensures.taken) (leaves_to_halt (sign_next c.in_ok-take.ensures.taken) (leaves_to_halt (leaves_next (sign_ends _ _ sign.CloseParenthesis sign.Comma (λ e. cc)) c.in_ok-parameters.ensures.read) (leaves_to_halt (sign_next c.in_ok-take-2.ensures.taken) (leaves_to_halt (sign_next c.in_ok-take-3.ensures.taken) (leaves_to_halt (name_next c.in_ok-result.ensures.taken) (no_sign_next (can_inscription_next (λ a. (_, [], whole))) c.in_err-take-4.ensures.refused))))))))

pub returns-in_err-body-clause-stops : goal.returns-in_err-body-clause-stops
returns-in_err-body-clause-stops c =
    let p = err_from_is_err_and c.from_residual-in_err-body.result c.from_residual-in_err-body.ensures.1 in
    rw (p.1, p.2) (λ no t is. leaves_to_halt (form_begins t sign.Fun is) (leaves_to_halt (name_next c.in_ok-name.ensures.taken) (leaves_to_halt (sign_next c.in_ok-take.ensures.taken) (leaves_to_halt (leaves_next (sign_ends _ _ sign.CloseParenthesis sign.Comma (λ e. cc)) c.in_ok-parameters.ensures.read) (leaves_to_halt (sign_next c.in_ok-take-2.ensures.taken) (leaves_to_halt (sign_next c.in_ok-take-3.ensures.taken) (leaves_to_halt (name_next c.in_ok-result.ensures.taken) (leaves_to_halt (sign_next c.in_ok-take-4.ensures.taken) (no_inscription_next _ (c.in_err-body.ensures.stops no))))))))))

pub returns-clause-read : goal.returns-clause-read
returns-clause-read c = λ t is. leaves_on (form_begins t sign.Fun is) (leaves_on (name_next c.in_ok-name.ensures.taken) (leaves_on (sign_next c.in_ok-take.ensures.taken) (leaves_on (leaves_next (sign_ends _ _ sign.CloseParenthesis sign.Comma (λ e. cc)) c.in_ok-parameters.ensures.read) (leaves_on (sign_next c.in_ok-take-2.ensures.taken) (leaves_on (sign_next c.in_ok-take-3.ensures.taken) (leaves_on (name_next c.in_ok-result.ensures.taken) (leaves_on (sign_next c.in_ok-take-4.ensures.taken) (inscription_next _ c.in_ok-body.ensures.read))))))))
