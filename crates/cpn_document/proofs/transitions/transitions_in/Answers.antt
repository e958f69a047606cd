-- The rules of the transitions, behind those of their list.
use Rattle.cpn_document.specs.Document.{transitions_rules, each_transition}
use Rattle.cpn_document.proofs.BrokenRules.{gives_later, is_kept}
use Rattle.cpn_document.proofs.transitions.transitions_in.Goals as goal

pub returns-clause-gives : goal.returns-clause-gives
unfolding transitions_rules each_transition
returns-clause-gives c =
    gives_later _ _ _ _ _ (is_kept _ _ c.list_refusal.ensures.exact c.in_default.is) (rw (c.list_or_empty-list.ensures.exact, c.requires.none_yet) at c.named_of.ensures.gives)
