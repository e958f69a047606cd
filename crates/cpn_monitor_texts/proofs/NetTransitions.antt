-- The variables of a transition of the net, as plain data.
use Rattle.std.proofs.Common.{◌≡◌, ℕ, ◌<◌, length, get_or, sym, ap, ◌∙◌}
use Rattle.std.proofs.lemmas.List.{get_or-map}
use Rattle.cpn_definitions.specs.Net.{PlainTransition, transition_at, no_transition}
use Rattle.cpn_core.specs.Nets.{transition_view, net_view}
use Rattle.cpn_core.specs.declared.nets.Transition.{Transition}
use Rattle.cpn_core.specs.declared.nets.Net.{Net}

pub vars_there : (n : Net) (t : ℕ) (transition : Transition) → t < length n.transitions.items → transition ≡ get_or n.transitions.items t transition → (transition_at (net_view n) t).vars ≡ transition.vars.items
vars_there n t transition lt at = ap (λ (x : PlainTransition). x.vars) (get_or-map transition_view n.transitions.items t transition no_transition lt ∙ ap transition_view (sym at))
