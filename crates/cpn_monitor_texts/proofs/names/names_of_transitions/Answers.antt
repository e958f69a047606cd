-- The next name is added, until all are.
use Rattle.std.proofs.Common.{ap, ◌∙◌, arith}
use Rattle.std.specs.Prelude.{string_bytes}
use Rattle.cpn_core.specs.Nets.{transition_view}
use Rattle.cpn_core.specs.declared.nets.Transition.{Transition}
use Rattle.cpn_names.specs.Names.{texts_of}
use Rattle.cpn_names.proofs.NameNumbers.{names_more, names_all}
use Rattle.cpn_monitor_texts.proofs.names.names_of_transitions.Goals as goal

pub loop-transition-preserved : goal.loop-transition-preserved
loop-transition-preserved c =
    rw c.in_ok-push.ensures.items (names_more (λ x. x.name) transition_view c.args.transitions.now c.loop-transition.transition-index c.transition-item.result c.loop-transition-test.true c.loop-transition.names.items c.as_str.result (c.as_str.ensures.value ∙ ap (λ (x : Transition). string_bytes x.name) c.transition-item.is) c.loop-transition.invariant)

pub loop-transition-init : goal.loop-transition-init
loop-transition-init c = ap texts_of c.in_ok-names.ensures.items

pub returns : goal.returns
returns c = record { names = names_all (λ x. x.name) transition_view c.args.transitions.now c.loop-transition.transition-index (omega arith) c.loop-transition.names.items c.loop-transition.invariant c.of.result c.of.ensures.names }
