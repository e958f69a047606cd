-- A lone term has its delay before its tokens are counted.
use Rattle.cpn_core.specs.Inscriptions.{expr_view, multiset_view}
use Rattle.cpn_eval.specs.Terms.{items_view}
use Rattle.cpn_eval.proofs.KeptTerms.{lone_later_told}
use Rattle.cpn_eval.proofs.lone_terms.Arc.lone_later.Goals as goal

pub returns-clause-terms : goal.returns-clause-terms
returns-clause-terms c =
    lone_later_told c.delayed_behind.result c.args.self.now c.args.machine.now c.lone_term.new.machine (multiset_view c.args.expr.now) (expr_view c.args.delay.now) c.args.before (items_view c.in_ok-term.term) c.requires.lone c.in_ok-term.ensures.kept c.in_ok-term.ensures.terms c.delayed_behind.ensures.terms
