-- The term of a coefficient and a value is the definition's.
use Rattle.cpn_core.specs.Colours.{colour_view}
use Rattle.cpn_core.specs.Inscriptions.{expr_view}
use Rattle.cpn_eval.specs.Frames.{locals_of}
use Rattle.cpn_eval.proofs.TokenTerms.{times_told}
use Rattle.cpn_eval.proofs.lone_terms.Arc.times.Goals as goal

pub returns-clause-terms : goal.returns-clause-terms
returns-clause-terms c =
    times_told c.term_of.result c.args.self.now.world (expr_view c.args.coefficient.now) (expr_view c.args.expr.now) (colour_view c.args.self.now.colour.now) c.args.machine.now.visible c.value_of.new.self.visible (locals_of c.args.machine.now) (locals_of c.value_of.new.self) _ _ c.in_ok-value.ensures.value c.in_ok-count.ensures.coefficient c.in_ok-value.ensures.visible c.in_ok-value.ensures.locals c.term_of.ensures.terms
