-- `[with num .
use Rattle.std.proofs.Common.{rules, []}
use Rattle.std.proofs.lemmas.Result.{err_from_is_err_and}
use Rattle.cpn_lex.specs.declared.symbols.Symbol.TheVariants as sign
use Rattle.cpn_syntax.specs.Fragments.{whole}
use Rattle.cpn_syntax.proofs.Fragments.{leaves_on, leaves_to_halt, optional_yes, optional_no}
use Rattle.cpn_syntax.proofs.Phrases.{number_next, no_number_next, sign_next, no_sign_next, can_number, can_sign}
use Rattle.cpn_syntax.proofs.DeclarationParts.{body_begins, int_alone, range_read}
use Rattle.cpn_syntax.proofs.declarations.int_body.Goals as goal

pub returns-then-not-accept-clause-read : goal.returns-then-not-accept-clause-read
returns-then-not-accept-clause-read c = λ t is.
    let no = c.accept.ensures.no c.if-not-accept.true in
    leaves_on (body_begins t sign.Int is) (rw no.0 (optional_no no.1))

pub returns-in_err-low-clause-stops : goal.returns-in_err-low-clause-stops
returns-in_err-low-clause-stops c =
    let p = err_from_is_err_and c.from_residual.result c.from_residual.ensures.1 in
    rw (p.1, p.2) (λ t is. leaves_to_halt (body_begins t sign.Int is) (leaves_to_halt (optional_yes int_alone (c.accept.ensures.yes c.if-not-accept.false))
    (no_number_next (λ low. can_sign (can_number (λ high. (_, [], whole)))) c.in_err-low.ensures.refused)))

pub returns-in_err-take-clause-stops : goal.returns-in_err-take-clause-stops
returns-in_err-take-clause-stops c =
    let p = err_from_is_err_and c.from_residual-in_err-take.result c.from_residual-in_err-take.ensures.1 in
    rw (p.1, p.2) (λ t is. leaves_to_halt (body_begins t sign.Int is) (leaves_to_halt (optional_yes int_alone (c.accept.ensures.yes c.if-not-accept.false))
    (leaves_to_halt (number_next c.in_ok-low.ensures.taken) (no_sign_next (can_number (λ high. (_, [], whole))) c.in_err-take.ensures.refused))))

pub returns-in_err-high-clause-stops : goal.returns-in_err-high-clause-stops
returns-in_err-high-clause-stops c =
    let p = err_from_is_err_and c.from_residual-in_err-high.result c.from_residual-in_err-high.ensures.1 in
    rw (p.1, p.2) (λ t is. leaves_to_halt (body_begins t sign.Int is) (leaves_to_halt (optional_yes int_alone (c.accept.ensures.yes c.if-not-accept.false))
    (leaves_to_halt (number_next c.in_ok-low.ensures.taken) (leaves_to_halt (sign_next c.in_ok-take.ensures.taken) (no_number_next (λ high. (_, [], whole)) c.in_err-high.ensures.refused)))))

pub returns-clause-read : goal.returns-clause-read
returns-clause-read c = λ t is.
    range_read (search rules) (search rules) (leaves_on (body_begins t sign.Int is) (leaves_on (optional_yes int_alone (c.accept.ensures.yes c.if-not-accept.false))
    (leaves_on (number_next c.in_ok-low.ensures.taken) (leaves_on (sign_next c.in_ok-take.ensures.taken) (number_next c.in_ok-high.ensures.taken)))))
