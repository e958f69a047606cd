-- The item of the element is taken out, with the box that it leaves.
use Rattle.std.proofs.Common.{option_map, sym, ap, subst, ◌∙◌, arith}
use Rattle.cpn_core.specs.Elements.{element_view}
use Rattle.cpn_due.specs.Due.{kept_of, without}
use Rattle.cpn_due.specs.Marked.{PlainMarked, plain_marked, enabled_in, AreMarked}
use Rattle.cpn_due.specs.declared.removing.Taken.{Taken}
use Rattle.cpn_due.proofs.KeptElements.{enabled_without, kept_found, marked_without}
use Rattle.cpn_due.proofs.due.Due.remove.Goals as goal

pub invariant_of-self : goal.invariant_of-self
invariant_of-self c =
    let e = element_view c.args.element.now in
    let items = c.remove.ensures.items in
    let count = c.remove.ensures.count in
    let room = c.self.invariant.1 in
    (subst (AreMarked c.self.inside.clock) (sym items) (marked_without c.self.inside.clock e c.self.inside.tree.items c.self.invariant.0), grind (arith, count, room))

pub invariant_of-self-in-Some : goal.invariant_of-self-in-Some
invariant_of-self-in-Some c =
    let e = element_view c.args.element.now in
    let items = c.remove.ensures.items in
    let count = c.remove.ensures.count in
    let room = c.self.invariant.1 in
    let long = c.push_reserved.ensures.len in
    let wide = c.push_reserved.ensures.capacity in
    (subst (AreMarked c.self.inside.clock) (sym items) (marked_without c.self.inside.clock e c.self.inside.tree.items c.self.invariant.0), grind (arith, count, room, long, wide, c.in-Some.is))

pub returns-in-None-clause-removed : goal.returns-in-None-clause-removed
returns-in-None-clause-removed c =
    let e = element_view c.args.element.now in
    let found = c.remove.ensures.taken in
    ap (λ o. option_map (λ (m : PlainMarked). m.enabled) (option_map (λ (it : Taken). plain_marked it.item) o)) (sym c.in-None.is) ∙ ap (option_map (λ (m : PlainMarked). m.enabled)) found
    ∙ kept_found e c.self.inside.tree.items ∙ ap (λ d. kept_of e d.elements) c.self.view_is

pub returns-in-Some-clause-removed : goal.returns-in-Some-clause-removed
returns-in-Some-clause-removed c =
    let e = element_view c.args.element.now in
    let found = c.remove.ensures.taken in
    ap (λ o. option_map (λ (m : PlainMarked). m.enabled) (option_map (λ (it : Taken). plain_marked it.item) o)) (sym c.in-Some.is) ∙ ap (option_map (λ (m : PlainMarked). m.enabled)) found
    ∙ kept_found e c.self.inside.tree.items ∙ ap (λ d. kept_of e d.elements) c.self.view_is

pub returns-in-None-clause-elements : goal.returns-in-None-clause-elements
returns-in-None-clause-elements c =
    let e = element_view c.args.element.now in
    let items = c.remove.ensures.items in
    ap enabled_in items ∙ enabled_without e c.self.inside.tree.items ∙ ap (λ d. without e d.elements) c.self.view_is

pub returns-in-Some-clause-elements : goal.returns-in-Some-clause-elements
returns-in-Some-clause-elements c =
    let e = element_view c.args.element.now in
    let items = c.remove.ensures.items in
    ap enabled_in items ∙ enabled_without e c.self.inside.tree.items ∙ ap (λ d. without e d.elements) c.self.view_is
