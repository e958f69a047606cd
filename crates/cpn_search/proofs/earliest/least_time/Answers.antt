-- The guard and the needs have a meaning, and what they tell is told of the element.
use Rattle.std.proofs.Common.{ℕ, Option, MatchOption, sym, ◌∙◌, subst}
use Rattle.cpn_core.specs.Faults.{fault_view}
use Rattle.cpn_core.specs.Nets.{net_view}
use Rattle.cpn_search.specs.Found.{element_of, IsNeverCovered, IsLeastTime}
use Rattle.cpn_search.proofs.LeastTimes.{told_by_needs, never_by_fault}
use Rattle.cpn_search.proofs.KnownTransitions.{guard_means, needs_have_meaning, may, never_guarded}
use Rattle.cpn_search.proofs.earliest.least_time.Goals as goal

pub guard_holds-requires : goal.guard_holds-requires
guard_holds-requires c = record { meaning = guard_means c.args.net.now c.args.t c.index-transition.result.now c.args.binding.now c.requires.sound c.requires.in_range c.index-transition.ensures c.requires.bound }

pub returns-then-not-holds-clause-least : goal.returns-then-not-holds-clause-least
returns-then-not-holds-clause-least c = never_guarded c.args.net.now c.args.marking.now c.args.t c.index-transition.result.now c.args.binding.now c.requires.in_range c.index-transition.ensures (sym c.if-not-holds.true ∙ c.in_ok-holds.ensures.holds)

pub needs_of-requires : goal.needs_of-requires
needs_of-requires c = record { meaning = needs_have_meaning c.args.net.now c.args.t c.args.binding.now c.requires.sound c.requires.in_range c.requires.bound }

pub returns-in-Some-clause-least : goal.returns-in-Some-clause-least
returns-in-Some-clause-least c =
    subst (λ (o : Option ℕ). MatchOption o (IsNeverCovered (net_view c.args.net.now) c.args.marking.now (element_of c.args.t c.args.binding.now)) (IsLeastTime (net_view c.args.net.now) c.args.marking.now (element_of c.args.t c.args.binding.now))) c.in-Some.is
    (told_by_needs (net_view c.args.net.now) c.args.marking.now (element_of c.args.t c.args.binding.now) c.in-Ok.needs c.earliest.result c.requires.marking (may c.args.net.now c.args.t c.index-transition.result.now c.args.binding.now c.requires.in_range c.index-transition.ensures c.requires.bound (sym c.if-not-holds.false ∙ c.in_ok-holds.ensures.holds)) c.in-Ok.ensures.needs c.earliest.ensures.earliest)

pub returns-in-None-clause-least : goal.returns-in-None-clause-least
returns-in-None-clause-least c =
    subst (λ (o : Option ℕ). MatchOption o (IsNeverCovered (net_view c.args.net.now) c.args.marking.now (element_of c.args.t c.args.binding.now)) (IsLeastTime (net_view c.args.net.now) c.args.marking.now (element_of c.args.t c.args.binding.now))) c.in-None.is
    (told_by_needs (net_view c.args.net.now) c.args.marking.now (element_of c.args.t c.args.binding.now) c.in-Ok.needs c.earliest.result c.requires.marking (may c.args.net.now c.args.t c.index-transition.result.now c.args.binding.now c.requires.in_range c.index-transition.ensures c.requires.bound (sym c.if-not-holds.false ∙ c.in_ok-holds.ensures.holds)) c.in-Ok.ensures.needs c.earliest.ensures.earliest)

pub returns-in-Err-Fault-clause-least : goal.returns-in-Err-Fault-clause-least
returns-in-Err-Fault-clause-least c = never_by_fault (net_view c.args.net.now) c.args.marking.now (element_of c.args.t c.args.binding.now) (fault_view c.in-Err-Fault.field-0-0) (rw c.in-Err-Fault.field-0-is at c.in-Err-Fault.ensures.needs)
