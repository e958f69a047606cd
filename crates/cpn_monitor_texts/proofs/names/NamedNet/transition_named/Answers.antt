-- The number of a transition is one of those that the net has.
use Rattle.std.proofs.Common.{◌≡◌, ◌∙◌, length, sym, ap, arith}
use Rattle.std.proofs.lemmas.List.{length-map}
use Rattle.cpn_core.specs.Nets.{net_view, transition_view}
use Rattle.cpn_core.specs.declared.nets.Net.{Net}
use Rattle.cpn_definitions.specs.DistinctNames.{transition_names}
use Rattle.cpn_names.proofs.FirstOfNames.{number_below}
use Rattle.cpn_monitor_texts.proofs.names.NamedNet.transition_named.Goals as goal

pub overflow_cast-result : goal.overflow_cast-result
overflow_cast-result c =
    let below = number_below c.args.name.now c.self.inside.transitions c.in-Some.number (sym c.number.ensures.number ∙ c.in-Some.is) in
    let many : length c.self.inside.transitions ≡ length c.args.self.now.transitions.items =
    ap length c.self.invariant.transitions_are ∙ ap (λ (n : Net). length (transition_names (net_view n))) c.self.view_is ∙ length-map _ _ ∙ length-map c.args.self.now.transitions.items transition_view in
    omega (arith, below, many, c.requires.few)
