-- The element is marked as its time says, and stands where the order has it.
use Rattle.std.proofs.Common.{nat_le, sym, ap, subst, refl, ◌∙◌, arith}
use Rattle.cpn_definitions.specs.Lists.{with_item}
use Rattle.cpn_core.specs.Elements.{enabled_view}
use Rattle.cpn_due.specs.Due.{plain_enabled, enabled_cmp, is_kept}
use Rattle.cpn_due.specs.Marked.{PlainMarked, enabled_in, AreMarked}
use Rattle.cpn_due.proofs.KeptElements.{kept_among, enabled_with, marked_with}
use Rattle.cpn_due.proofs.due.Due.insert.Goals as goal

pub insert-requires-clause-absent : goal.insert-requires-clause-absent
insert-requires-clause-absent c =
    let e = (enabled_view c.args.element).element in
    let none = kept_among e c.self.inside.tree.items ∙ ap (λ d. is_kept e d.elements) c.self.view_is ∙ c.requires.absent in
    none

pub invariant_of-self : goal.invariant_of-self
invariant_of-self c =
    let m : PlainMarked = record { enabled = plain_enabled c.args.element; is_due = nat_le c.args.element.entry.earliest c.self.inside.clock } in
    let items = c.insert.ensures.items in
    let count = c.insert.ensures.count in
    let room = c.self.invariant.1 in
    let long = c.in-Some.ensures.len in
    let wide = c.in-Some.ensures.capacity in
    (subst (AreMarked c.self.inside.clock) (sym items) (marked_with c.self.inside.clock m c.self.inside.tree.items refl c.self.invariant.0), grind (arith, count, room, long, wide))

pub returns-clause-elements : goal.returns-clause-elements
returns-clause-elements c =
    let m : PlainMarked = record { enabled = plain_enabled c.args.element; is_due = nat_le c.args.element.entry.earliest c.self.inside.clock } in
    let items = c.insert.ensures.items in
    ap enabled_in items ∙ enabled_with m c.self.inside.tree.items ∙ ap (λ d. with_item enabled_cmp (plain_enabled c.args.element) d.elements) c.self.view_is
