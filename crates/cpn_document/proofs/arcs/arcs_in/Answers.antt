-- The rules of the list, of its arcs and of their number.
use Rattle.std.proofs.Common.{refl}
use Rattle.cpn_document.specs.Document.{arcs_rules, each_arc}
use Rattle.cpn_document.proofs.BrokenRules.{broken_append, is_kept, is_few, is_many}
use Rattle.cpn_document.proofs.arcs.arcs_in.Goals as goal

pub returns-then-branch : goal.returns-then-branch
unfolding arcs_rules each_arc
returns-then-branch c =
    let front = is_kept _ _ c.list_refusal.ensures.exact c.in_default.is in
    let arcs = rw c.list_or_empty.ensures.exact at c.in_ok-arcs.ensures.gives.0 in
    let each = rw c.list_or_empty.ensures.exact at c.in_ok-arcs.ensures.gives.1 in
    let few = rw (c.as_slice.ensures.value, arcs, c.if-branch.true) at c.in_ok-have_few_arcs.ensures.tells in
    record { gives = (arcs, simp broken_append (rw (front, each, is_few _ _ few) refl)) }

pub returns-else-branch : goal.returns-else-branch
unfolding arcs_rules each_arc
returns-else-branch c =
    let front = is_kept _ _ c.list_refusal.ensures.exact c.in_default.is in
    let arcs = rw c.list_or_empty.ensures.exact at c.in_ok-arcs.ensures.gives.0 in
    let each = rw c.list_or_empty.ensures.exact at c.in_ok-arcs.ensures.gives.1 in
    let few = rw (c.as_slice.ensures.value, arcs, c.if-branch.false) at c.in_ok-have_few_arcs.ensures.tells in
    record { gives = simp broken_append (rw (front, each, is_many _ _ few) refl) }
