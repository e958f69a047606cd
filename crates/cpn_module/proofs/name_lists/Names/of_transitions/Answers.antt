-- The next name is added, until all are.
use Rattle.std.proofs.Common.{ap, ◌∙◌, arith}
use Rattle.std.specs.Prelude.{string_bytes}
use Rattle.cpn_document.specs.declared.document.Transition.{Transition}
use Rattle.cpn_document.specs.Views.{transition_view}
use Rattle.cpn_module.specs.Names.{texts_of}
use Rattle.cpn_module.proofs.NameNumbers.{names_more, names_all}
use Rattle.cpn_module.proofs.name_lists.Names.of_transitions.Goals as goal

pub loop-transition-preserved : goal.loop-transition-preserved
loop-transition-preserved c =
    rw c.in_ok-push.ensures.items (names_more (λ t. t.name) transition_view c.args.transitions.now c.loop-transition.transition-index c.transition-item.result c.loop-transition-test.true c.loop-transition.names.items c.as_str.result (c.as_str.ensures.value ∙ ap (λ (t : Transition). string_bytes t.name) c.transition-item.is) c.loop-transition.invariant)

pub loop-transition-init : goal.loop-transition-init
loop-transition-init c = ap texts_of c.in_ok-names.ensures.items

pub returns : goal.returns
returns c = record { names = names_all (λ t. t.name) transition_view c.args.transitions.now c.loop-transition.transition-index (omega arith) c.loop-transition.names.items c.loop-transition.invariant c.of.result c.of.ensures.names }
