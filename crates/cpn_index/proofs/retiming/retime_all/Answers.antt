-- Retimed for one told value more.
use Rattle.std.proofs.Common.{refl, sym, ◌∙◌, subst, arith, take}
use Rattle.cpn_tmset.specs.ChangedViews.{change_view, change_views}
use Rattle.cpn_index.specs.Retimed.{AreRetimed}
use Rattle.cpn_index.proofs.RetimedLists.{none_anew}
use Rattle.cpn_index.proofs.TakenAnew.{still_each, change_anew}
use Rattle.cpn_index.proofs.ToldViews.{views_next}
use Rattle.cpn_index.proofs.retiming.retime_all.Goals as goal

pub loop-change-init : goal.loop-change-init
loop-change-init g c = record { retimed = λ n marking own. none_anew n c.args.marking.now c.args.elements.now.elements; fewer = λ n final marking own enabled. omega arith; clock = refl; places = refl }

pub returns-in_err-retime_waiting-clause-steps : goal.returns-in_err-retime_waiting-clause-steps
returns-in_err-retime_waiting-clause-steps g c = λ n final marking own enabled.
    let told = change_views (take c.loop-change.change-index c.args.changes.now) in
    let before = c.loop-change.invariant.fewer n final marking own enabled in
    let few = c.retime_waiting.ensures.steps n final marking (still_each n c.args.marking.now told c.args.elements.now.elements c.loop-change.elements.elements (c.loop-change.invariant.retimed n marking own) own) enabled in
    omega (arith, before, few)

pub loop-change-preserved : goal.loop-change-preserved
loop-change-preserved g c =
    let m = c.args.marking.now in
    let changes = c.args.changes.now in
    let i = c.loop-change.change-index in
    let told = change_views (take i changes) in
    let start = c.args.elements.now.elements in
    let now = c.loop-change.elements.elements in
    let new = c.retime_waiting.new.elements.elements in
    record {
      retimed = λ n marking own.
          subst (λ ts. AreRetimed n m ts start new) (sym (views_next changes i c.change-item.result c.loop-change-test.true c.change-item.is))
          (change_anew n m told (change_view c.change-item.result) start now new own (c.loop-change.invariant.retimed n marking own) (λ own_now. c.in_ok-retime_waiting.ensures.retimed n marking own_now));
      fewer = λ n final marking own enabled.
          let before = c.loop-change.invariant.fewer n final marking own enabled in
          let few = c.retime_waiting.ensures.steps n final marking (still_each n m told start now (c.loop-change.invariant.retimed n marking own) own) enabled in
          omega (arith, before, few);
      clock = c.retime_waiting.ensures.clock ∙ c.loop-change.invariant.clock;
      places = c.retime_waiting.ensures.places ∙ c.loop-change.invariant.places;
    }
