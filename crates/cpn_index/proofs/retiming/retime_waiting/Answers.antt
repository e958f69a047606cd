-- One element more has its least time, with a step where it went or has another time.
use Rattle.std.proofs.Common.{◌≡◌, [], ◌∷◌, ◌++◌, take, refl, sym, ap, ◌∙◌, subst, arith}
use Rattle.std.proofs.lemmas.List.{take_more, take_all}
use Rattle.cpn_core.specs.Elements.{element_view}
use Rattle.cpn_tmset.specs.ChangedViews.{change_view}
use Rattle.cpn_index.proofs.GoneEntries.{one_if}
use Rattle.cpn_index.proofs.RetimedLists.{none_anew}
use Rattle.cpn_index.proofs.TakenAnew.{AreAnew, one_anew, one_fewer, waiting_anew}
use Rattle.cpn_index.proofs.retiming.retime_waiting.Goals as goal
use Rattle.cpn_index.proofs.retiming.retime_waiting.Goals.{then-retime, else-retime}

pub loop-element-init : goal.loop-element-init
loop-element-init g c = record { anew = λ n marking own. (none_anew n c.args.marking.now c.args.elements.now.elements, λ a h. absurd h); fewer = λ n final marking own enabled. omega arith; clock = refl; places = refl }

pub loop-element-preserved : goal.loop-element-preserved
loop-element-preserved g c =
    let m = c.args.marking.now in
    let start = c.args.elements.now.elements in
    let now = c.loop-element.elements.elements in
    let new = c.retime.new.self.elements in
    let items = c.deref-element-items.result.now in
    let i = c.loop-element.element-index in
    let a = c.element-item.result in
    let taken = rw c.deref.ensures at c.retime.ensures.anew in
    record {
      anew = λ n marking own.
          let inv = c.loop-element.invariant.anew n marking own in
          let next = one_anew (λ e. element_view e.value) n m marking start now own inv.0 c.retime.ensures.was_in_order (take i items) a new c.retime.result inv.1 taken in
          (next.0, subst (λ ws. AreAnew (λ e. element_view e.value) n m ws new) (sym (take_more items i a c.loop-element-test.true ∙ ap (λ x. take i items ++ x ∷ []) (sym c.element-item.is))) next.1);
      fewer = λ n final marking own enabled.
          let inv = c.loop-element.invariant.anew n marking own in
          let before = c.loop-element.invariant.fewer n final marking own enabled in
          let few = one_fewer (λ e. element_view e.value) n m marking start now own inv.0 c.retime.ensures.was_in_order a new c.retime.result final enabled taken in
          elim c.if-retime.branch [
            | then-retime w ↦ (let one : one_if c.retime.result ≡ 1 = ap one_if w.if-retime.true in let more = w.add.ensures.added in let is = w.steps-is in omega (arith, before, few, one, more, is))
            | else-retime w ↦ (let is = w.steps-is in omega (arith, before, few, is))
          ];
      clock = c.retime.ensures.clock ∙ c.loop-element.invariant.clock;
      places = c.retime.ensures.places ∙ c.loop-element.invariant.places;
    }

pub returns-clause-retimed : goal.returns-clause-retimed
returns-clause-retimed g c = λ n marking own.
    let m = c.args.marking.now in
    let items = c.deref-element-items.result.now in
    let inv = c.loop-element.invariant.anew n marking own in
    waiting_anew (λ e. element_view e.value) n m (change_view c.args.change.now) c.args.elements.now.elements c.loop-element.elements.elements items (rw (sym c.deref-element-items.ensures.value) at c.in_ok-waiting.ensures.waiting) inv.0
    (subst (λ ws. AreAnew (λ e. element_view e.value) n m ws c.loop-element.elements.elements) (take_all c.loop-element.element-index items (omega arith)) inv.1)
