-- What was due still is, and what has come is marked.
use Rattle.std.proofs.Common.{◌≤◌, sym, ap, subst, ◌∙◌, arith}
use Rattle.cpn_due.specs.Due.{PlainDue}
use Rattle.cpn_due.specs.Marked.{enabled_in, AreMarked}
use Rattle.cpn_due.proofs.KeptElements.{enabled_marked, marked_later}
use Rattle.cpn_due.proofs.due.Due.take_due.Goals as goal

pub invariant_of-self : goal.invariant_of-self
invariant_of-self c =
    let items = c.mark_due.ensures.items in
    let count = c.mark_due.ensures.count in
    let room = c.self.invariant.1 in
    let later = subst (λ (d : PlainDue). d.clock ≤ c.args.clock) (sym c.self.view_is) c.requires.not_back in
    (subst (AreMarked c.args.clock) (sym items) (marked_later c.self.inside.clock c.args.clock c.self.inside.tree.items later c.self.invariant.0), grind (arith, count, room))

pub returns-clause-elements : goal.returns-clause-elements
returns-clause-elements c =
    let items = c.mark_due.ensures.items in
    ap enabled_in items ∙ enabled_marked c.args.clock c.self.inside.tree.items ∙ ap (λ d. d.elements) c.self.view_is
