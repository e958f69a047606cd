-- The element that is found is that of the end.
use Rattle.std.proofs.Common.{◌≡◌, IfSome, MatchOption, option_map, subst}
use Rattle.cpn_core.specs.Elements.{enabled_view}
use Rattle.cpn_core.specs.Nets.{net_view}
use Rattle.cpn_search.specs.Found.{element_of, IsNeverCovered, IsLeastTime}
use Rattle.cpn_search.proofs.FoundElements.{end_added, elements_added}
use Rattle.cpn_search.proofs.turns.push_end.Goals as goal

pub returns-clause-added : goal.returns-clause-added
returns-clause-added c =
    let n = net_view c.args.net.now in
    let m = c.args.marking.now in
    let t = c.args.t in
    end_added n m t c.args.partial.now c.args.found.now.items c.push_found.new.found.items c.in_ok-element.element
    (subst (λ b. MatchOption (option_map (λ x. (enabled_view x).earliest) c.in_ok-element.element) (IsNeverCovered n m (element_of t b)) (IsLeastTime n m (element_of t b))) c.in_ok-binding.ensures.bound c.in_ok-element.ensures.least)
    (subst (λ b. IfSome c.in_ok-element.element (λ x. (enabled_view x).element ≡ element_of t b)) c.in_ok-binding.ensures.bound c.in_ok-element.ensures.element)
    c.in_ok-push_found.ensures.appended

pub returns-clause-elements : goal.returns-clause-elements
returns-clause-elements c =
    elements_added (net_view c.args.net.now) c.args.t c.in_ok-binding.binding c.args.found.now.items c.push_found.new.found.items c.in_ok-element.element
    c.in_ok-element.ensures.element c.in_ok-element.ensures.needs c.in_ok-push_found.ensures.appended
