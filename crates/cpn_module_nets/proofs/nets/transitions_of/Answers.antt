-- The steps are those of the definition.
use Rattle.std.proofs.Common.{◌≡◌, ℕ, ◌<◌, length, map, true, refl, sym, subst}
use Rattle.std.proofs.lemmas.List.{length-map}
use Rattle.std.proofs.lemmas.Result.{err_from_is_err_and}
use Rattle.std.specs.List.{AllByRecursion}
use Rattle.cpn_core.specs.Nets.{place_view, transition_view}
use Rattle.cpn_declared.specs.DeclsViews.{decls_view}
use Rattle.cpn_module.specs.Hierarchy.{PlainEnds}
use Rattle.cpn_module.specs.Views.{structure_view}
use Rattle.cpn_module_trees.specs.TreesViews.{tree_view, transition_trees_view, module_trees_view}
use Rattle.cpn_readings.specs.ItemByItem.{EachIs}
use Rattle.cpn_accepted.specs.Completed.{IsCompleted}
use Rattle.cpn_accepted.specs.Nets.{net_from}
use Rattle.cpn_module_nets.specs.Accepted.{Sides, bare_transition, arc_of, joined_from}
use Rattle.cpn_module_nets.specs.AcceptedViews.{sides_views}
use Rattle.cpn_module_nets.specs.Answers.{Refuses, RefusesBy, net_refusal_of}
use Rattle.cpn_module_nets.specs.Joining.{IsAtOneOf}
use Rattle.cpn_module_nets.specs.Reading.{read, each_from}
use Rattle.cpn_module_nets.specs.Transitions.{HasItsTerms, AreBindable}
use Rattle.cpn_module_nets.proofs.AcceptedTransitions.{transitions_good, good_have_terms}
use Rattle.cpn_module_nets.proofs.ArcNodes.{at_transitions}
use Rattle.cpn_module_nets.proofs.ReadNets.{bares_refused, arcs_refused, variables_refused, transitions_read}
use Rattle.cpn_module_nets.proofs.nets.transitions_of.Goals as goal

pub returns-in_err-bares : goal.returns-in_err-bares
returns-in_err-bares c =
    let p = err_from_is_err_and c.from_residual.result c.from_residual.ensures.1 in
    let ds = decls_view c.args.decls.now in
    let o = net_refusal_of c.in_err-bares.field-0.0 in
    record {
      reads = rw (p.1, p.2) (bares_refused ds (map place_view c.args.places.now) c.args.of_module (structure_view c.args.structure.now) (module_trees_view c.args.trees.now) o
          (subst (λ ts. Refuses o (each_from (bare_transition ds c.args.of_module) 0 (map transition_trees_view ts))) c.as_slice.ensures.value c.in_err-bares.ensures.reads));
    }

pub arcs_of-requires-clause-at_places : goal.arcs_of-requires-clause-at_places
arcs_of-requires-clause-at_places c = subst (λ n. AllByRecursion (λ (ends : PlainEnds). ends.place < n) (structure_view c.args.structure.now).arcs) (length-map c.args.places.now place_view) c.requires.together.at_places

pub returns-in_err-arcs : goal.returns-in_err-arcs
returns-in_err-arcs c =
    let p = err_from_is_err_and c.from_residual-in_err-arcs.result c.from_residual-in_err-arcs.ensures.1 in
    let ds = decls_view c.args.decls.now in
    let places = map place_view c.args.places.now in
    let m = c.args.of_module in
    let s = structure_view c.args.structure.now in
    let o = net_refusal_of c.in_err-arcs.field-0.0 in
    let bares = map transition_view c.in_ok-bares.bares.items in
    let bares_are : each_from (bare_transition ds m) 0 (map transition_trees_view c.args.trees.now.transitions.items) ≡ read bares = subst (λ ts. each_from (bare_transition ds m) 0 (map transition_trees_view ts) ≡ read bares) c.as_slice.ensures.value c.in_ok-bares.ensures.reads in
    record {
      reads = rw (p.1, p.2) (arcs_refused ds places m s (module_trees_view c.args.trees.now) bares bares_are o
          (subst (λ texts. Refuses o (each_from (arc_of ds places m s) 0 (map tree_view texts))) c.as_slice-2.ensures.value c.in_err-arcs.ensures.reads));
    }

pub join_arcs-requires : goal.join_arcs-requires
join_arcs-requires c =
    let ds = decls_view c.args.decls.now in
    let places = map place_view c.args.places.now in
    let m = c.args.of_module in
    let s = structure_view c.args.structure.now in
    let trees = module_trees_view c.args.trees.now in
    let bares = map transition_view c.in_ok-bares.bares.items in
    let arcs = sides_views c.in_ok-arcs.arcs.items in
    let bares_are : each_from (bare_transition ds m) 0 trees.transitions ≡ read bares = subst (λ xs. each_from (bare_transition ds m) 0 (map transition_trees_view xs) ≡ read bares) c.as_slice.ensures.value c.in_ok-bares.ensures.reads in
    let arcs_are : each_from (arc_of ds places m s) 0 trees.arcs ≡ read arcs = subst (λ texts. each_from (arc_of ds places m s) 0 (map tree_view texts) ≡ read arcs) c.as_slice-2.ensures.value c.in_ok-arcs.ensures.reads in
    record {
      there = subst (λ (many : ℕ). AllByRecursion (λ (arc : Sides). IsAtOneOf many arc.node) arcs) (length-map c.in_ok-bares.bares.items transition_view) (at_transitions ds places m s trees c.requires.together bares bares_are arcs arcs_are);
    }

pub check_variables-requires : goal.check_variables-requires
check_variables-requires c =
    let ds = decls_view c.args.decls.now in
    let places = map place_view c.args.places.now in
    let m = c.args.of_module in
    let s = structure_view c.args.structure.now in
    let trees = module_trees_view c.args.trees.now in
    let bares = map transition_view c.in_ok-bares.bares.items in
    let arcs = sides_views c.in_ok-arcs.arcs.items in
    let ts = map transition_view c.in_ok-transitions.transitions.items in
    let bares_are : each_from (bare_transition ds m) 0 trees.transitions ≡ read bares = subst (λ xs. each_from (bare_transition ds m) 0 (map transition_trees_view xs) ≡ read bares) c.as_slice.ensures.value c.in_ok-bares.ensures.reads in
    let arcs_are : each_from (arc_of ds places m s) 0 trees.arcs ≡ read arcs = subst (λ texts. each_from (arc_of ds places m s) 0 (map tree_view texts) ≡ read arcs) c.as_slice-2.ensures.value c.in_ok-arcs.ensures.reads in
    let completed : EachIs IsCompleted (joined_from 0 bares arcs) ts = subst (λ xs. EachIs IsCompleted xs ts) c.in_ok-join_arcs.ensures.joined c.in_ok-transitions.ensures.completed in
    record { terms = subst (λ xs. AllByRecursion HasItsTerms (map transition_view xs)) (sym c.as_slice-3.ensures.value) (good_have_terms ds places ts (transitions_good ds places m s trees c.requires.together bares bares_are arcs arcs_are ts completed)) }

pub returns-in_err-check_variables : goal.returns-in_err-check_variables
returns-in_err-check_variables c =
    let ds = decls_view c.args.decls.now in
    let places = map place_view c.args.places.now in
    let m = c.args.of_module in
    let s = structure_view c.args.structure.now in
    let trees = module_trees_view c.args.trees.now in
    let bares = map transition_view c.in_ok-bares.bares.items in
    let arcs = sides_views c.in_ok-arcs.arcs.items in
    let ts = map transition_view c.in_ok-transitions.transitions.items in
    let bares_are : each_from (bare_transition ds m) 0 trees.transitions ≡ read bares = subst (λ xs. each_from (bare_transition ds m) 0 (map transition_trees_view xs) ≡ read bares) c.as_slice.ensures.value c.in_ok-bares.ensures.reads in
    let arcs_are : each_from (arc_of ds places m s) 0 trees.arcs ≡ read arcs = subst (λ texts. each_from (arc_of ds places m s) 0 (map tree_view texts) ≡ read arcs) c.as_slice-2.ensures.value c.in_ok-arcs.ensures.reads in
    let completed : EachIs IsCompleted (joined_from 0 bares arcs) ts = subst (λ xs. EachIs IsCompleted xs ts) c.in_ok-join_arcs.ensures.joined c.in_ok-transitions.ensures.completed in
    let p = err_from_is_err_and c.from_residual-in_err-check_variables.result c.from_residual-in_err-check_variables.ensures.1 in
    let o = net_refusal_of c.in_err-check_variables.field-0.0 in
    record {
      reads = rw (p.1, p.2) (variables_refused ds places m s trees bares bares_are arcs arcs_are ts completed o
          (subst (λ xs. RefusesBy (AreBindable (net_from ds places ts) m 0 (map transition_view xs)) o) c.as_slice-3.ensures.value (c.in_err-check_variables.ensures.bindable (net_from ds places ts) refl)));
    }

pub returns : goal.returns
returns c =
    let ds = decls_view c.args.decls.now in
    let places = map place_view c.args.places.now in
    let m = c.args.of_module in
    let s = structure_view c.args.structure.now in
    let trees = module_trees_view c.args.trees.now in
    let bares = map transition_view c.in_ok-bares.bares.items in
    let arcs = sides_views c.in_ok-arcs.arcs.items in
    let ts = map transition_view c.in_ok-transitions.transitions.items in
    let bares_are : each_from (bare_transition ds m) 0 trees.transitions ≡ read bares = subst (λ xs. each_from (bare_transition ds m) 0 (map transition_trees_view xs) ≡ read bares) c.as_slice.ensures.value c.in_ok-bares.ensures.reads in
    let arcs_are : each_from (arc_of ds places m s) 0 trees.arcs ≡ read arcs = subst (λ texts. each_from (arc_of ds places m s) 0 (map tree_view texts) ≡ read arcs) c.as_slice-2.ensures.value c.in_ok-arcs.ensures.reads in
    let completed : EachIs IsCompleted (joined_from 0 bares arcs) ts = subst (λ xs. EachIs IsCompleted xs ts) c.in_ok-join_arcs.ensures.joined c.in_ok-transitions.ensures.completed in
    record {
      reads = transitions_read ds places m s trees bares bares_are arcs arcs_are ts completed
          (subst (λ xs. AreBindable (net_from ds places ts) m 0 (map transition_view xs) (read true)) c.as_slice-3.ensures.value (c.in_ok-check_variables.ensures.bindable (net_from ds places ts) refl));
    }
