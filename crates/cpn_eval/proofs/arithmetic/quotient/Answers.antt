-- A quotient is the definition's.
use Rattle.std.proofs.Common.{pos, ◌<ℤ◌, rules, arith}
use Rattle.cpn_eval.proofs.Division.{quotient_by_positive, quotient_by_negative}
use Rattle.cpn_eval.proofs.arithmetic.quotient.Goals as goal

pub returns-then-right-gt0 : goal.returns-then-right-gt0
returns-then-right-gt0 c =
    let positive : pos 0 <ℤ c.args.right = search rules in
    let quotient = quotient_by_positive c.args.left c.args.right c.div_euclid.result positive (search rules) in
    record { quotient = rw quotient (search rules) }

pub returns-else-right-gt0 : goal.returns-else-right-gt0
returns-else-right-gt0 c =
    let negative : c.args.right <ℤ pos 0 = search (rules, arith) in
    let quotient = quotient_by_negative c.args.left c.args.right c.div_euclid-else-right-gt0.result negative (search rules) in
    record { quotient = rw quotient (search rules) }
