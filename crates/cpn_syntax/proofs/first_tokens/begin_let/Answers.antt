-- `val N =` behind `let`.
use Rattle.std.proofs.Common.{refl}
use Rattle.std.proofs.lemmas.Result.{err_from_is_err_and}
use Rattle.cpn_lex.specs.Token as token
use Rattle.cpn_lex.specs.declared.symbols.Symbol.TheVariants as sign
use Rattle.cpn_syntax.proofs.FirstSteps as starting
use Rattle.cpn_syntax.proofs.first_tokens.begin_let.Goals as goal

pub returns-in_err-take-clause-stops : goal.returns-in_err-take-clause-stops
returns-in_err-take-clause-stops c =
    let p = err_from_is_err_and c.from_residual.result c.from_residual.ensures.1 in
    rw (p.1, p.2) (λ other st.
    let refused = c.in_err-take.ensures.refused in
    rw refused.0 (starting.breaks_let_val st _ (record { kind = token.symbol sign.Let; at = c.args.at }) refl refused.1))

pub returns-in_err-name-clause-stops : goal.returns-in_err-name-clause-stops
returns-in_err-name-clause-stops c =
    let p = err_from_is_err_and c.from_residual-in_err-name.result c.from_residual-in_err-name.ensures.1 in
    rw (p.1, p.2) (λ other st.
    let value = c.in_ok-take.ensures.taken in
    let refused = c.in_err-name.ensures.refused other in
    rw (refused.0, value.2) (starting.breaks_let_name st _ (record { kind = token.symbol sign.Let; at = c.args.at }) value.0 refl value.1.0 refused.1))

pub returns-in_err-take-2-clause-stops : goal.returns-in_err-take-2-clause-stops
returns-in_err-take-2-clause-stops c =
    let p = err_from_is_err_and c.from_residual-in_err-take-2.result c.from_residual-in_err-take-2.ensures.1 in
    rw (p.1, p.2) (λ other st.
    let value = c.in_ok-take.ensures.taken in
    let name = c.in_ok-name.ensures.taken in
    let refused = c.in_err-take-2.ensures.refused in
    rw (refused.0, value.2, name.2) (starting.breaks_let_equal st _ (record { kind = token.symbol sign.Let; at = c.args.at }) value.0 name.0 refl value.1.0 name.1 refused.1))

pub returns-clause-begun : goal.returns-clause-begun
returns-clause-begun c st =
    let value = c.in_ok-take.ensures.taken in
    let name = c.in_ok-name.ensures.taken in
    let equal = c.in_ok-take-2.ensures.taken in
    rw (value.2, name.2, equal.2, c.new.ensures.items) (starting.comes_let st _ (record { kind = token.symbol sign.Let; at = c.args.at }) value.0 name.0 equal.0 refl value.1.0 name.1 equal.1.0)
