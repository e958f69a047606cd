-- The element is taken out, and back at its time or gone.
use Rattle.std.proofs.Common.{◌||◌, sym, ap, ◌∙◌, subst}
use Rattle.cpn_definitions.specs.Lists.{Rises}
use Rattle.cpn_core.specs.Elements.{element_view}
use Rattle.cpn_due.specs.Due.{plain_enabled, enabled_cmp, is_kept}
use Rattle.cpn_index.specs.WatchedElements.{PlainElements, waits}
use Rattle.cpn_index.proofs.KeptLists.{not_kept}
use Rattle.cpn_index.proofs.WaitingLists.{waits_as, waits_without}
use Rattle.cpn_index.proofs.TakenOut.{taken_none, none_taken, rises_back}
use Rattle.cpn_index.proofs.elements.WatchedElements.retime.Goals as goal

pub put_back-requires-clause-absent : goal.put_back-requires-clause-absent
put_back-requires-clause-absent c =
    let e = element_view c.args.element.now in
    let old = c.self.inside.due.elements in
    ap (is_kept (element_view c.in-Some.enabled.entry.element.value)) c.remove.ensures.elements ∙ not_kept e old (plain_enabled c.in-Some.enabled) (sym c.in-Some.ensures.removed)

pub put_back-requires-clause-watched : goal.put_back-requires-clause-watched
put_back-requires-clause-watched c = λ p v e.
    let f = element_view c.args.element.now in
    let old = c.self.inside.due.elements in
    c.self.invariant.1 p v e ∙ waits_without p v e f old (plain_enabled c.in-Some.enabled) c.self.invariant.0 (sym c.in-Some.ensures.removed) ∙ ap (λ es. waits_as (plain_enabled c.in-Some.enabled) p v e || waits es p v e) (sym c.remove.ensures.elements)

pub invariant_of-self : goal.invariant_of-self
invariant_of-self c = (rises_back c.args.marking.now (element_view c.args.element.now) c.self.inside.due.elements _ _ (plain_enabled c.in-Some.enabled) _ c.self.invariant.0 (sym c.in-Some.ensures.removed) c.remove.ensures.elements c.put_back.ensures.back, c.put_back.ensures.watched)

pub invariant_of-self-in-None : goal.invariant_of-self-in-None
invariant_of-self-in-None c =
    let none = taken_none (element_view c.args.element.now) c.self.inside.due.elements _ (sym c.in-None.ensures.removed) c.remove.ensures.elements in
    (subst (Rises enabled_cmp) (sym none) c.self.invariant.0, λ p v e. c.self.invariant.1 p v e ∙ ap (λ es. waits es p v e) (sym none))

pub returns-in-Some-clause-in_order : goal.returns-in-Some-clause-in_order
returns-in-Some-clause-in_order c = (invariant_of-self c).0

pub returns-in-None-clause-anew : goal.returns-in-None-clause-anew
returns-in-None-clause-anew c =
    none_taken c.args.marking.now (element_view c.args.element.now) c.self.inside.due.elements c.args.self.now.elements _ (ap (λ (w : PlainElements). w.elements) c.self.view_is) (sym c.in-None.ensures.removed) c.remove.ensures.elements

pub returns-in-None-clause-in_order : goal.returns-in-None-clause-in_order
returns-in-None-clause-in_order c = subst (Rises enabled_cmp) (sym (taken_none (element_view c.args.element.now) c.self.inside.due.elements _ (sym c.in-None.ensures.removed) c.remove.ensures.elements)) c.self.invariant.0
