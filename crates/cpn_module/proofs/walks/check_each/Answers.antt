-- Each item is the next one of the list.
use Rattle.std.proofs.Common.{arith, refl}
use Rattle.std.proofs.lemmas.Result.{err_from_is_err_and}
use Rattle.cpn_module.proofs.Walked.{next_passed, next_refused, no_next}
use Rattle.cpn_module.proofs.walks.check_each.Given as given
use Rattle.cpn_module.proofs.walks.check_each.Goals as goal

pub returns-in_err-check : goal.returns-in_err-check
returns-in_err-check g c = record {
  walked = (let p = err_from_is_err_and c.from_residual.result c.from_residual.ensures.1 in
      rw (p.1, p.2) (c.loop-number.invariant _ (next_refused (given.F-post g c.args.check) c.args.items.now c.loop-number.number c.index-items-number.result c.loop-number-test.true c.index-items-number.is _ _ c.in_err-check.ensures refl)));
}

pub loop-number-preserved : goal.loop-number-preserved
loop-number-preserved g c = λ r rest. c.loop-number.invariant r (next_passed (given.F-post g c.args.check) c.args.items.now c.loop-number.number c.index-items-number.result c.loop-number-test.true c.index-items-number.is _ r c.in_ok-check.ensures refl rest)

pub returns : goal.returns
returns g c = record { walked = c.loop-number.invariant _ (no_next (given.F-post g c.args.check) c.args.items.now c.loop-number.number (omega arith)) }
