-- The declaration that the tokens are, however deep.
use Rattle.std.proofs.lemmas.Result.{err_from_is_err_and}
use Rattle.cpn_syntax.proofs.Parses.{all_read, left_over}
use Rattle.cpn_syntax.proofs.parsers.whole_declaration.Goals as goal

pub returns-in_err-found-clause-stops : goal.returns-in_err-found-clause-stops
returns-in_err-found-clause-stops c =
    let p = err_from_is_err_and c.from_residual.result c.from_residual.ensures.1 in
    rw (p.1, p.2) (λ no. rw (← c.new-reader.ensures) (c.in_err-found.ensures.stops no))

pub returns-in_err-nothing_left-clause-stops : goal.returns-in_err-nothing_left-clause-stops
returns-in_err-nothing_left-clause-stops c =
    let p = err_from_is_err_and c.from_residual-in_err-nothing_left.result c.from_residual-in_err-nothing_left.ensures.1 in
    let left = c.in_err-nothing_left.ensures.left in
    rw (p.1, p.2, left.0) (λ no. rw (← c.new-reader.ensures) (left_over c.in_ok-found.ensures.read left.1))

pub returns-clause-read : goal.returns-clause-read
returns-clause-read c = rw (← c.new-reader.ensures) (all_read c.in_ok-found.ensures.read c.in_ok-nothing_left.ensures.done)
