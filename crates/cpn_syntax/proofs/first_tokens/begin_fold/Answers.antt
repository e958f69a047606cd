-- `N , N over` behind `foldl`.
use Rattle.std.proofs.Common.{refl}
use Rattle.std.proofs.lemmas.Result.{err_from_is_err_and}
use Rattle.cpn_lex.specs.Token as token
use Rattle.cpn_lex.specs.declared.symbols.Symbol.TheVariants as sign
use Rattle.cpn_syntax.proofs.FirstSteps as starting
use Rattle.cpn_syntax.proofs.first_tokens.begin_fold.Goals as goal

pub returns-in_err-item-clause-stops : goal.returns-in_err-item-clause-stops
returns-in_err-item-clause-stops c =
    let p = err_from_is_err_and c.from_residual.result c.from_residual.ensures.1 in
    rw (p.1, p.2) (λ other st least.
    let refused = c.in_err-item.ensures.refused other in
    rw refused.0 (starting.breaks_fold_item st _ (record { kind = token.symbol sign.Foldl; at = c.args.at }) least refl refused.1))

pub returns-in_err-take-clause-stops : goal.returns-in_err-take-clause-stops
returns-in_err-take-clause-stops c =
    let p = err_from_is_err_and c.from_residual-in_err-take.result c.from_residual-in_err-take.ensures.1 in
    rw (p.1, p.2) (λ other st least.
    let item = c.in_ok-item.ensures.taken in
    let refused = c.in_err-take.ensures.refused in
    rw (refused.0, item.2) (starting.breaks_fold_comma st _ (record { kind = token.symbol sign.Foldl; at = c.args.at }) item.0 least refl item.1 refused.1))

pub returns-in_err-sum-clause-stops : goal.returns-in_err-sum-clause-stops
returns-in_err-sum-clause-stops c =
    let p = err_from_is_err_and c.from_residual-in_err-sum.result c.from_residual-in_err-sum.ensures.1 in
    rw (p.1, p.2) (λ other st least.
    let item = c.in_ok-item.ensures.taken in
    let comma = c.in_ok-take.ensures.taken in
    let refused = c.in_err-sum.ensures.refused other in
    rw (refused.0, item.2, comma.2) (starting.breaks_fold_total st _ (record { kind = token.symbol sign.Foldl; at = c.args.at }) item.0 comma.0 least refl item.1 comma.1.0 refused.1))

pub returns-in_err-take-2-clause-stops : goal.returns-in_err-take-2-clause-stops
returns-in_err-take-2-clause-stops c =
    let p = err_from_is_err_and c.from_residual-in_err-take-2.result c.from_residual-in_err-take-2.ensures.1 in
    rw (p.1, p.2) (λ other st least.
    let item = c.in_ok-item.ensures.taken in
    let comma = c.in_ok-take.ensures.taken in
    let total = c.in_ok-sum.ensures.taken in
    let refused = c.in_err-take-2.ensures.refused in
    rw (refused.0, item.2, comma.2, total.2) (starting.breaks_fold_over st _ (record { kind = token.symbol sign.Foldl; at = c.args.at }) item.0 comma.0 total.0 least refl item.1 comma.1.0 total.1 refused.1))

pub returns-clause-begun : goal.returns-clause-begun
returns-clause-begun c st least =
    let item = c.in_ok-item.ensures.taken in
    let comma = c.in_ok-take.ensures.taken in
    let total = c.in_ok-sum.ensures.taken in
    let over = c.in_ok-take-2.ensures.taken in
    rw (item.2, comma.2, total.2, over.2) (starting.comes_fold st _ (record { kind = token.symbol sign.Foldl; at = c.args.at }) item.0 comma.0 total.0 over.0 least refl item.1 comma.1.0 total.1 over.1.0)
