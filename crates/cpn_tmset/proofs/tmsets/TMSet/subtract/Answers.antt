-- What is taken, value by value, and how many tokens.
use Rattle.std.proofs.Common.{◌≡◌, ◌+◌, List, ap, ◌∙◌, length}
use Rattle.cpn_definitions.specs.Marking.{Tokens, stamps}
use Rattle.cpn_tmset.specs.Picks.{Demand, demands_at, left_after}
use Rattle.cpn_tmset.proofs.TakenNeeds.{taken_is_less, all_taken}
use Rattle.cpn_tmset.proofs.tmsets.TMSet.subtract.Goals as goal
use Rattle.cpn_tmset.proofs.tmsets.TMSet.subtract.Goals.{After-take_each}

left_is : (c : After-take_each) → c.take_each.new.self ≡ left_after (demands_at c.args.time c.args.need.now) c.args.self.now
left_is c = c.take_each.ensures.left ∙ ap (λ (ds : List Demand). left_after ds c.args.self.now) c.in_ok-taken.ensures.demands

pub returns-clause-less : goal.returns-clause-less
returns-clause-less c = λ v.
    ap (stamps v) (left_is (goal.at.returns-clause-less c).After-take_each) ∙ taken_is_less v c.args.time c.args.need.now c.args.self.now c.alloc.ensures.sorted c.demanded.ensures.is

pub returns-clause-number : goal.returns-clause-number
returns-clause-number c =
    ap (λ (ks : Tokens). length ks + length (demands_at c.args.time c.args.need.now)) (left_is (goal.at.returns-clause-number c).After-take_each)
    ∙ all_taken c.args.time c.args.need.now c.args.self.now c.alloc.ensures.sorted c.demanded.ensures.is c.requires.covered
