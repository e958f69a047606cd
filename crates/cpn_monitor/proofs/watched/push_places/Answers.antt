-- One arc more.
use Rattle.std.proofs.Common.{◌∙◌, ◌==◌, ℕ, List, [], ◌∷◌, ◌++◌, length, take, ap, subst, sym, arith}
use Rattle.std.proofs.lemmas.List.{take_more, map-append}
use Rattle.cpn_core.specs.Nets.{arc_view, arcs_view}
use Rattle.cpn_numbers.specs.NumberLists.{numbers_at}
use Rattle.cpn_monitor.specs.Views.{watched_view}
use Rattle.cpn_monitor.specs.Watched.{TouchMore}
use Rattle.cpn_monitor.proofs.WatchedNets.{touch_none, touch_more, touch_no_more, list_known, no_numbers}
use Rattle.cpn_monitor.proofs.watched.push_places.Goals as goal
use Rattle.cpn_monitor.proofs.watched.push_places.Goals.{then-not-is_empty+in_ok-push, else-not-is_empty}

pub loop-arc-init : goal.loop-arc-init
loop-arc-init c = touch_none (watched_view c.args.watched.now) c.args.transition c.args.transitions.now

pub loop-arc-preserved : goal.loop-arc-preserved
loop-arc-preserved c =
    let arcs = c.args.arcs.now in
    let i = c.loop-arc.arc-index in
    let arc = c.arc-item.result in
    let w = watched_view c.args.watched.now in
    let one = ap arcs_view (take_more arcs i arc c.loop-arc-test.true ∙ ap (λ x. take i arcs ++ x ∷ []) (sym c.arc-item.is)) ∙ map-append arc_view (take i arcs) (arc ∷ []) in
    let now = c.loop-arc.transitions in
    let its = ap (λ (xs : List ℕ). length xs == 0) c.of_place.ensures.numbers in
    subst (λ those. TouchMore w those c.args.transition c.args.transitions.now c.if-not-is_empty.transitions) (sym one)
    (elim c.if-not-is_empty.branch [
      | then-not-is_empty+in_ok-push v ↦
          (let there = list_known c.args.watched.now.of_place (arc_view arc).place (sym its ∙ sym c.is_empty.ensures ∙ v.if-not-is_empty.true) in
          subst (TouchMore w (arcs_view (take i arcs) ++ arc_view arc ∷ []) c.args.transition c.args.transitions.now) (sym (v.transitions-is ∙ v.in_ok-push.ensures.with))
          (touch_more w (arcs_view (take i arcs)) (arc_view arc) c.args.transition c.args.transitions.now now c.loop-arc.invariant (let many = c.loop-arc.invariant.places in let old = c.requires.places in omega (arith, there, many, old))))
      | else-not-is_empty v ↦
          (let none = no_numbers (numbers_at c.args.watched.now.of_place (arc_view arc).place) (sym its ∙ sym c.is_empty.ensures ∙ v.if-not-is_empty.false) in
          subst (TouchMore w (arcs_view (take i arcs) ++ arc_view arc ∷ []) c.args.transition c.args.transitions.now) (sym v.transitions-is)
          (touch_no_more w (arcs_view (take i arcs)) (arc_view arc) c.args.transition c.args.transitions.now now c.loop-arc.invariant none))
    ])
