-- Each transition has items.
use Rattle.std.proofs.Common.{map, length, sym, subst, arith}
use Rattle.std.specs.List.{AllByRecursion}
use Rattle.std.proofs.lemmas.List.{append-nil}
use Rattle.cpn_core.specs.Nets.{transition_view}
use Rattle.cpn_flat.specs.FlatNet.{flat_transition}
use Rattle.cpn_flat.specs.Items.{HasItems}
use Rattle.cpn_flat.proofs.AllItems.{all_item}
use Rattle.cpn_flat.proofs.TakenItems.{pushed_all}
use Rattle.cpn_flat.proofs.transitions.push_transitions.Goals as goal

pub flat_transition-requires-clause-items : goal.flat_transition-requires-clause-items
flat_transition-requires-clause-items c = all_item (HasItems (length c.args.classes.now.numbers) c.args.first) transition_view c.deref-transition-items.result.now c.loop-transition.transition-index c.transition-item.result (omega arith) c.transition-item.is (subst (λ ts. AllByRecursion (HasItems (length c.args.classes.now.numbers) c.args.first) (map transition_view ts)) (sym c.deref-transition-items.ensures.value) c.requires.items)

pub loop-transition-init : goal.loop-transition-init
loop-transition-init c = sym (append-nil (map transition_view c.args.transitions.now.items))

pub returns : goal.returns
returns c = record { pushed = pushed_all (flat_transition c.args.classes.now c.args.whole.now c.args.first) transition_view c.args.module.now.transitions.items (map transition_view c.args.transitions.now.items) c.loop-transition.transition-index _ c.loop-transition.invariant (let e = c.loop-transition-test.false in omega (arith, c.deref-transition-items.ensures.len)) }
