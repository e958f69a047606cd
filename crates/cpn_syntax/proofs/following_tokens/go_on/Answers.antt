-- A sign that takes the part goes on with it; else the innermost form has it, or all is read.
use Rattle.std.proofs.Common.{refl}
use Rattle.std.proofs.lemmas.Result.{err_from_is_err_and}
use Rattle.cpn_syntax.proofs.PartSteps as going
use Rattle.cpn_syntax.proofs.following_tokens.go_on.Goals as goal

pub returns-in_err-join-in-Some-clause-stops : goal.returns-in_err-join-in-Some-clause-stops
returns-in_err-join-in-Some-clause-stops c =
    let p = err_from_is_err_and c.from_residual.result c.from_residual.ensures.1 in
    let taken = c.in-Some.ensures.some in
    rw (p.1, p.2) (λ other. rw taken.1.2 (c.in_err-join-in-Some.ensures.stops other taken.1.0 (rw c.wanted.ensures at taken.0) taken.1.1.0 taken.1.1.1))

pub returns-in_ok-join-in-Some-clause-next : goal.returns-in_ok-join-in-Some-clause-next
returns-in_ok-join-in-Some-clause-next c =
    let taken = c.in-Some.ensures.some in
    rw taken.1.2 (c.in_ok-join-in-Some.ensures.next taken.1.0 (rw c.wanted.ensures at taken.0) taken.1.1.0 taken.1.1.1)

pub returns-in-None-pop-clause-next : goal.returns-in-None-pop-clause-next
returns-in-None-pop-clause-next c =
    let none = c.in-None.ensures.none refl in
    let empty = c.in-None-pop.ensures.none refl in
    (going.all_read _ _ _ empty.0 (rw c.wanted.ensures at none.1), refl, none.0)
