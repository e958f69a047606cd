-- The locals before the one that is taken stay.
use Rattle.cpn_eval.proofs.SpareLocals.{others_kept}
use Rattle.cpn_eval.proofs.spare.taken.Goals as goal

pub returns-clause-others : goal.returns-clause-others
returns-clause-others c = others_kept c.args.locals.now.items c.args.number c.replace.new.dest
