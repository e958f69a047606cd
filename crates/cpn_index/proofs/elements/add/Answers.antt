-- The element stands where the order has it, and waits for what it needs.
use Rattle.std.proofs.Common.{◌≡◌, [], ◌∷◌, false, ◌||◌, sym, ap, ◌∙◌, subst}
use Rattle.cpn_definitions.specs.Lists.{Rises, with_item}
use Rattle.cpn_due.specs.Due.{plain_enabled, enabled_cmp, is_kept}
use Rattle.cpn_index.specs.Added.{AreAdded}
use Rattle.cpn_index.specs.WatchedElements.{waits}
use Rattle.cpn_index.proofs.AddedElements.{added_one}
use Rattle.cpn_index.proofs.KeptLists.{rises_with}
use Rattle.cpn_index.proofs.WaitingLists.{waits_as, waits_with}
use Rattle.cpn_index.proofs.elements.add.Goals as goal

pub returns-clause-added : goal.returns-clause-added
returns-clause-added c =
    let x = plain_enabled c.args.enabled in
    let old = c.args.due.now.elements in
    subst (AreAdded old (x ∷ [])) (sym (c.insert.ensures.elements ∙ ap (with_item enabled_cmp x) c.reserve.ensures.elements)) (added_one x old)

pub returns-clause-in_order : goal.returns-clause-in_order
returns-clause-in_order c =
    let x = plain_enabled c.args.enabled in
    let old = c.args.due.now.elements in
    let absent : is_kept x.entry.element old ≡ false = sym (rw c.deref.ensures at c.contains.ensures.exact) ∙ c.if-contains.false in
    subst (Rises enabled_cmp) (sym (c.insert.ensures.elements ∙ ap (with_item enabled_cmp x) c.reserve.ensures.elements)) (rises_with x old absent c.requires.in_order)

pub returns-clause-watched : goal.returns-clause-watched
returns-clause-watched c = λ p v e.
    let x = plain_enabled c.args.enabled in
    let old = c.args.due.now.elements in
    c.in_ok-watch.ensures.watched p v e
    ∙ ap (λ b. waits_as x p v e || b) (c.requires.watched p v e) ∙ sym (waits_with p v e x old) ∙ ap (λ es. waits es p v e) (sym (c.insert.ensures.elements ∙ ap (with_item enabled_cmp x) c.reserve.ensures.elements))
