-- A lone term is the definition's.
use Rattle.cpn_core.proofs.InscriptionLevels.{tokens_times}
use Rattle.cpn_eval.proofs.lone_terms.Arc.lone_term.Goals as goal

pub returns-in-Times-clause-terms : goal.returns-in-Times-clause-terms
returns-in-Times-clause-terms c = rw (c.in-Times.is, tokens_times c.in-Times.coefficient c.in-Times.value) c.times.ensures.terms
