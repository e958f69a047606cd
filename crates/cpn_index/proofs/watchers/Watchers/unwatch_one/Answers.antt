-- What waits on the place of the need has changed; past the last place nothing waits.
use Rattle.std.proofs.Common.{refl, arith}
use Rattle.cpn_core.specs.Views.{value_view}
use Rattle.cpn_index.specs.WatcherOrder.{watching}
use Rattle.cpn_index.specs.Waiting.{same_element}
use Rattle.cpn_index.proofs.WatchedPlaces.{taken_on, taken_past}
use Rattle.cpn_index.proofs.watchers.Watchers.unwatch_one.Goals as goal

pub returns-in_default-clause-unwatched : goal.returns-in_default-clause-unwatched
returns-in_default-clause-unwatched c = λ p v e.
    taken_past c.args.self.now.places.items c.args.need.now.place (λ lt. let no = c.in_default.ensures.variant.1 (omega (arith, lt)) in cc) p v (value_view c.args.need.now.value) e (same_element e (watching c.args.watcher.now))

pub returns-clause-unwatched : goal.returns-clause-unwatched
returns-clause-unwatched c = λ p v e.
    taken_on c.args.self.now.places.items c.args.need.now.place c.in-Some.waiting.now c.remove.new.self (let lt = c.in-Some.ensures.variant.0 refl in omega (arith, lt)) c.in-Some.ensures.value v (value_view c.args.need.now.value) e (same_element e (watching c.args.watcher.now)) p
    (c.remove.ensures.removed v e)
