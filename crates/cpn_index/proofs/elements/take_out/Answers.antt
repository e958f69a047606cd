-- The element is out, and waits no longer.
use Rattle.std.proofs.Common.{not, ◌&&◌, sym, ap, ◌∙◌, subst}
use Rattle.cpn_definitions.specs.Lists.{Rises}
use Rattle.cpn_core.specs.Elements.{element_view}
use Rattle.cpn_due.specs.Due.{plain_enabled, enabled_cmp, without}
use Rattle.cpn_index.specs.WatchedElements.{waits}
use Rattle.cpn_index.proofs.KeptLists.{rises_without, not_kept}
use Rattle.cpn_index.proofs.TakenOut.{taken_none}
use Rattle.cpn_index.proofs.WaitingLists.{waits_as, waits_without, waits_apart}
use Rattle.cpn_index.proofs.elements.take_out.Goals as goal

pub returns-in-Some-clause-in_order : goal.returns-in-Some-clause-in_order
returns-in-Some-clause-in_order c = subst (Rises enabled_cmp) (sym c.remove.ensures.elements) (rises_without (element_view c.args.element.now) c.args.due.now.elements c.requires.in_order)

pub returns-in-Some-clause-watched : goal.returns-in-Some-clause-watched
returns-in-Some-clause-watched c = λ p v e.
    let f = element_view c.args.element.now in
    let old = c.args.due.now.elements in
    let x = plain_enabled c.in-Some.enabled in
    let kept = sym c.in-Some.ensures.removed in
    c.unwatch.ensures.unwatched p v e
    ∙ ap (λ b. not (waits_as x p v e) && b) (c.requires.watched p v e ∙ waits_without p v e f old x c.requires.in_order kept)
    ∙ waits_apart p v e x (without f old) (not_kept f old x kept) ∙ ap (λ es. waits es p v e) (sym c.remove.ensures.elements)

pub returns-in-None-clause-in_order : goal.returns-in-None-clause-in_order
returns-in-None-clause-in_order c = subst (Rises enabled_cmp) (sym c.remove.ensures.elements) (rises_without (element_view c.args.element.now) c.args.due.now.elements c.requires.in_order)

pub returns-in-None-clause-watched : goal.returns-in-None-clause-watched
returns-in-None-clause-watched c = λ p v e.
    c.requires.watched p v e ∙ ap (λ es. waits es p v e) (sym (taken_none (element_view c.args.element.now) c.args.due.now.elements _ (sym c.in-None.ensures.removed) c.remove.ensures.elements))
