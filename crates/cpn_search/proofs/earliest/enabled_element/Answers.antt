-- The time and the needs that were found are those of the element.
use Rattle.std.proofs.Common.{ℕ, sym, subst}
use Rattle.cpn_core.specs.Nets.{net_view}
use Rattle.cpn_search.specs.Found.{element_of, IsLeastTime}
use Rattle.cpn_search.proofs.earliest.enabled_element.Goals as goal

pub returns-in_ok-element-in-Some-clause-least : goal.returns-in_ok-element-in-Some-clause-least
returns-in_ok-element-in-Some-clause-least c =
    subst (λ (k : ℕ). IsLeastTime (net_view c.args.net.now) c.args.marking.now (element_of c.args.t c.args.binding) k) (sym c.in_ok-element-in-Some.ensures.earliest) (rw c.in-Some.is at c.in_ok-found.ensures.least)
