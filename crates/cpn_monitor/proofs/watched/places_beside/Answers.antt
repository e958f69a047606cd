-- One transition more, and all of them turned round.
use Rattle.std.proofs.Common.{◌≡◌, ◌∙◌, ap, subst, sym, arith}
use Rattle.std.proofs.lemmas.List.{length-map, get_or-map}
use Rattle.std.proofs.lemmas.Result.{IfOk-weaker}
use Rattle.cpn_core.specs.Nets.{net_view, transition_view, arcs_view}
use Rattle.cpn_definitions.specs.Net.{PlainTransition, transition_at, no_transition}
use Rattle.cpn_monitor.specs.Views.{watched_view}
use Rattle.cpn_monitor.specs.Watched.{TouchMore}
use Rattle.cpn_monitor.proofs.WatchedNets.{touched_more, beside_all, all_below}
use Rattle.cpn_monitor.proofs.watched.places_beside.Goals as goal

pub loop-number-preserved : goal.loop-number-preserved
loop-number-preserved c =
    let transitions = c.args.net.now.transitions.items in
    let i = c.loop-number.number in
    let transition = c.index-transition.result.now in
    let its : transition_at (net_view c.args.net.now) i ≡ transition_view transition = get_or-map transition_view transitions i transition no_transition (omega arith) ∙ ap transition_view (sym c.index-transition.ensures) in
    let inputs = ap arcs_view c.deref.ensures.value ∙ sym (ap (λ (t : PlainTransition). t.inputs) its) in
    let outputs = ap arcs_view c.deref-in-loop-number.ensures.value ∙ sym (ap (λ (t : PlainTransition). t.outputs) its) in
    let w = watched_view c.args.watched.now in
    touched_more (net_view c.args.net.now) w i c.loop-number.transitions c.push_places.new.transitions c.push_places-in-loop-number.new.transitions c.loop-number.invariant
    (subst (λ those. TouchMore w those i c.loop-number.transitions c.push_places.new.transitions) inputs c.in_ok-push_places.ensures.touched)
    (subst (λ those. TouchMore w those i c.push_places.new.transitions c.push_places-in-loop-number.new.transitions) outputs c.in_ok-push_places-2.ensures.touched)

pub turned-requires : goal.turned-requires
turned-requires c = record {
  below =
      all_below c.loop-number.transitions c.len-2.result
      (λ p t h. (let lt = (c.loop-number.invariant.only t p h).0 in let same : c.loop-number.number ≡ c.len-2.result = omega arith in omega (arith, lt, same)));
}

pub returns : goal.returns
returns c =
    let many = length-map c.args.net.now.transitions.items transition_view in
    record {
      beside =
          IfOk-weaker c.turned.result _ _
          (λ beside turned. beside_all (net_view c.args.net.now) (watched_view c.args.watched.now) c.loop-number.number c.loop-number.transitions beside c.loop-number.invariant (omega (arith, many)) turned) c.turned.ensures.turned;
    }
