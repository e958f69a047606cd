-- The next arc is joined behind those so far.
use Rattle.std.proofs.Common.{◌≡◌, ◌∙◌, ℕ, List, [], ◌∷◌, length, map, sym, ap, subst}
use Rattle.std.specs.List.{AllByRecursion}
use Rattle.std.proofs.lemmas.List.{map-append, length-map}
use Rattle.cpn_core.specs.Nets.{transition_view}
use Rattle.cpn_module_nets.specs.Accepted.{joined_from}
use Rattle.cpn_module_nets.specs.AcceptedViews.{sides_view, sides_views}
use Rattle.cpn_module_nets.specs.declared.arcs.Sides.{Sides}
use Rattle.cpn_module_nets.specs.Accepted as plain
use Rattle.cpn_module_nets.specs.Joining.{IsAtOneOf}
use Rattle.cpn_module_nets.proofs.JoinedArcs.{joined_twice, joined_nothing, joined_long}
use Rattle.cpn_module_nets.proofs.joining.join_arcs.Goals as goal

pub loop-arc-init : goal.loop-arc-init
loop-arc-init c = record {
  joined = sym (joined_nothing 0 (map transition_view c.args.transitions.now.items));
  left = subst (λ (arcs : List Sides). AllByRecursion (λ (arc : plain.Sides). IsAtOneOf (length c.args.transitions.now.items) arc.node) (sides_views arcs)) (sym c.into_iter-arc-iterator.ensures.into_iter_gives.0) c.requires.there;
}

pub join_among-requires : goal.join_among-requires
join_among-requires c =
    let all = subst (λ (arcs : List Sides). AllByRecursion (λ (arc : plain.Sides). IsAtOneOf (length c.args.transitions.now.items) arc.node) (sides_views arcs)) c.in-Some.ensures.steps.0 c.loop-arc.invariant.left in
    let long : length c.loop-arc.transitions.items ≡ length c.args.transitions.now.items =
    sym (length-map c.loop-arc.transitions.items transition_view) ∙ ap length c.loop-arc.invariant.joined ∙ joined_long 0 (map transition_view c.args.transitions.now.items) (sides_views c.loop-arc.yielded) ∙ length-map c.args.transitions.now.items transition_view in
    record { there = subst (λ (many : ℕ). IsAtOneOf many c.in-Some.arc.node) (sym long) all.0 }

pub loop-arc-preserved : goal.loop-arc-preserved
loop-arc-preserved c =
    let all = subst (λ (arcs : List Sides). AllByRecursion (λ (arc : plain.Sides). IsAtOneOf (length c.args.transitions.now.items) arc.node) (sides_views arcs)) c.in-Some.ensures.steps.0 c.loop-arc.invariant.left in
    record {
      left = all.1;
      joined = c.in_ok-join_among.ensures.joined
          ∙ ap (λ xs. joined_from 0 xs (sides_view c.in-Some.arc ∷ [])) c.loop-arc.invariant.joined
          ∙ joined_twice 0 (map transition_view c.args.transitions.now.items) (sides_views c.loop-arc.yielded) (sides_view c.in-Some.arc ∷ [])
          ∙ ap (λ arcs. joined_from 0 (map transition_view c.args.transitions.now.items) arcs) (sym (map-append sides_view c.loop-arc.yielded (c.in-Some.arc ∷ [])));
    }
