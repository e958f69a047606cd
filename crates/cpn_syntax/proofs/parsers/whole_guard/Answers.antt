-- The conjuncts of the guard that the tokens are, however deep.
use Rattle.std.proofs.lemmas.Result.{err_from_is_err_and}
use Rattle.cpn_syntax.proofs.Guards.{guard_read, guard_halts}
use Rattle.cpn_syntax.proofs.parsers.whole_guard.Goals as goal

pub returns-in_err-tree-clause-stops : goal.returns-in_err-tree-clause-stops
returns-in_err-tree-clause-stops c =
    let p = err_from_is_err_and c.from_residual.result c.from_residual.ensures.1 in
    rw (p.1, p.2) (λ no. guard_halts (c.in_err-tree.ensures.stops no))

pub returns-clause-read : goal.returns-clause-read
returns-clause-read c = rw c.in_ok-found.ensures (guard_read c.begins_with_bracket-bracketed.ensures.yes c.begins_with_bracket-bracketed.ensures.no c.in_ok-tree.ensures.read)
