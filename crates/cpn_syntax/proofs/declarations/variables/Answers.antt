-- `N {, N} : N` behind `var`.
use Rattle.std.proofs.Common.{[]}
use Rattle.std.proofs.lemmas.Result.{err_from_is_err_and}
use Rattle.cpn_lex.specs.declared.symbols.Symbol.TheVariants as sign
use Rattle.cpn_syntax.specs.Fragments.{whole}
use Rattle.cpn_syntax.proofs.Fragments.{leaves_on, leaves_to_halt, leaves_next, halts_next, sign_ends}
use Rattle.cpn_syntax.proofs.Phrases.{name_next, no_name_next, sign_next, no_sign_next, can_name, can_sign}
use Rattle.cpn_syntax.proofs.DeclarationParts.{form_begins}
use Rattle.cpn_syntax.proofs.declarations.variables.Goals as goal

pub returns-in_err-names-clause-stops : goal.returns-in_err-names-clause-stops
returns-in_err-names-clause-stops c =
    let p = err_from_is_err_and c.from_residual.result c.from_residual.ensures.1 in
    rw (p.1, p.2) (λ no t is. leaves_to_halt (form_begins t sign.Var is) (halts_next (sign_ends _ _ sign.Colon sign.Comma (λ e. cc)) (λ ns. can_sign (can_name (λ n. (_, [], whole)))) (c.in_err-names.ensures.stops no)))

pub returns-in_err-take-clause-stops : goal.returns-in_err-take-clause-stops
returns-in_err-take-clause-stops c =
    let p = err_from_is_err_and c.from_residual-in_err-take.result c.from_residual-in_err-take.ensures.1 in
    rw (p.1, p.2) (λ no t is. leaves_to_halt (form_begins t sign.Var is) (leaves_to_halt (leaves_next (sign_ends _ _ sign.Colon sign.Comma (λ e. cc)) c.in_ok-names.ensures.read) (no_sign_next (can_name (λ n. (_, [], whole))) c.in_err-take.ensures.refused)))

pub returns-in_err-colour-clause-stops : goal.returns-in_err-colour-clause-stops
returns-in_err-colour-clause-stops c =
    let p = err_from_is_err_and c.from_residual-in_err-colour.result c.from_residual-in_err-colour.ensures.1 in
    rw (p.1, p.2) (λ no t is. leaves_to_halt (form_begins t sign.Var is) (leaves_to_halt (leaves_next (sign_ends _ _ sign.Colon sign.Comma (λ e. cc)) c.in_ok-names.ensures.read) (leaves_to_halt (sign_next c.in_ok-take.ensures.taken) (no_name_next (λ n. (_, [], whole)) (c.in_err-colour.ensures.refused no)))))

pub returns-clause-read : goal.returns-clause-read
returns-clause-read c = λ t is. leaves_on (form_begins t sign.Var is) (leaves_on (leaves_next (sign_ends _ _ sign.Colon sign.Comma (λ e. cc)) c.in_ok-names.ensures.read) (leaves_on (sign_next c.in_ok-take.ensures.taken) (name_next c.in_ok-colour.ensures.taken)))
