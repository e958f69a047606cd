-- The monitors of one place more.
use Rattle.std.proofs.Common.{◌∙◌, ◌<◌, ℕ, List, ap, subst, length, get_or, ◌++◌, arith}
use Rattle.cpn_numbers.specs.NumberLists.{numbers_at}
use Rattle.cpn_monitor.proofs.ListedMonitors.{concerned_more, concerned_none, concerned_all}
use Rattle.cpn_monitor.proofs.measuring.Measuring.concerned.Goals as goal

pub loop-place-init : goal.loop-place-init
loop-place-init c =
    concerned_none (numbers_at c.args.self.now.watched.of_transition c.args.transition) (numbers_at c.args.self.now.beside c.args.transition) c.args.self.now.watched.of_place c.push_each.new.numbers.items
    (c.in_ok-push_each.ensures.pushed ∙ ap (λ xs. xs ++ c.of_transition.result.now) c.new-numbers.ensures.items ∙ c.of_transition.ensures.numbers)

pub loop-place-preserved : goal.loop-place-preserved
loop-place-preserved c =
    let places = c.at-place-items.ensures.numbers in
    concerned_more (numbers_at c.args.self.now.watched.of_transition c.args.transition) (numbers_at c.args.self.now.beside c.args.transition) c.args.self.now.watched.of_place c.loop-place.place-index
    (subst (λ xs. c.loop-place.place-index < length xs) places c.loop-place-test.true) c.loop-place.numbers.items c.push_each-in-loop-place.new.numbers.items c.loop-place.invariant
    (c.in_ok-push_each-2.ensures.pushed ∙ ap (λ xs. c.loop-place.numbers.items ++ xs) (c.of_place.ensures.numbers ∙ ap (λ ps. numbers_at c.args.self.now.watched.of_place (get_or ps c.loop-place.place-index 0)) places))

pub returns : goal.returns
returns c =
    let places = ap (λ (xs : List ℕ). length xs) c.at-place-items.ensures.numbers in
    record {
      concerned =
          concerned_all (numbers_at c.args.self.now.watched.of_transition c.args.transition) (numbers_at c.args.self.now.beside c.args.transition) c.args.self.now.watched.of_place c.loop-place.place-index (omega (arith, places)) c.loop-place.numbers.items c.loop-place.invariant;
    }
