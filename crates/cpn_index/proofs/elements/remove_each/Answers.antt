-- The first one of the transition is out, and the others stay.
use Rattle.std.proofs.Common.{length, refl, sym, ap, ◌∙◌, arith}
use Rattle.cpn_due.specs.Due.{plain_enabled}
use Rattle.cpn_index.specs.WatchedElements.{of_others}
use Rattle.cpn_index.proofs.OtherTransitions.{all_others, first_is, others_without, fewer}
use Rattle.cpn_index.proofs.elements.remove_each.Goals as goal

pub loop-first-smaller : goal.loop-first-smaller
loop-first-smaller c =
    let now = c.loop-first.due.elements in
    let x = plain_enabled c.in-Some.first.now in
    let first = first_is c.args.transition now x (sym c.in-Some.ensures.first) in
    let less = fewer x.entry.element now x first.0 refl in
    let is = ap length (rw (c.deref.ensures, c.in_ok-element.ensures.cases) at c.take_out.ensures.others) in
    omega (arith, less, is)

pub loop-first-preserved : goal.loop-first-preserved
loop-first-preserved c =
    let t = c.args.transition in
    let now = c.loop-first.due.elements in
    let x = plain_enabled c.in-Some.first.now in
    let first = first_is t now x (sym c.in-Some.ensures.first) in
    record {
      others = ap (of_others t) (rw (c.deref.ensures, c.in_ok-element.ensures.cases) at c.take_out.ensures.others) ∙ others_without t x.entry.element now first.1 ∙ c.loop-first.invariant.others;
      in_order = c.take_out.ensures.in_order;
      watched = c.take_out.ensures.watched;
      clock = c.take_out.ensures.clock ∙ c.loop-first.invariant.clock;
      places = c.take_out.ensures.places ∙ c.loop-first.invariant.places;
    }

pub returns-clause-others : goal.returns-clause-others
returns-clause-others c = sym (all_others c.args.transition c.loop-first.due.elements (sym c.in_default.ensures.first)) ∙ c.loop-first.invariant.others
