-- The transitions of the flat net of what is accepted are of accepted inscriptions: each is one of a module's, whose arcs are at the compound
-- places of their places.
use Rattle.std.proofs.Common.{◌≡◌, ℕ, ◌+◌, ◌<◌, List, [], ◌∷◌, ◌++◌, length, map, refl, sym, ap, ap₂, subst, arith, Contains}
use Rattle.std.specs.List.{flat_map, AllByRecursion}
use Rattle.std.specs.Prelude.{◌↔◌}
use Rattle.cpn_definitions.specs.Bindable.{variables_of}
use Rattle.cpn_definitions.specs.Net.{PlainArc, PlainTransition}
use Rattle.cpn_definitions.proofs.RisingLists.{each_mapped, each_implied}
use Rattle.cpn_typing.specs.AcceptedTransitions.{delay_variables, arcs_variables, transition_variables, IsAcceptedArc, IsAcceptedTransition}
use Rattle.cpn_typing.specs.InscriptionVariables.{inscription_variables}
use Rattle.cpn_typing.specs.Multisets.{Side, input, output}
use Rattle.cpn_typing.specs.Names.{Declared}
use Rattle.cpn_classes.specs.Numbering.{Numbering}
use Rattle.cpn_accepted.specs.Nets.{PlainModuleNet, PlainAccepted, module_net_at, IsWellAccepted}
use Rattle.cpn_fuse.specs.Instances.{PlainInstance, instance_at}
use Rattle.cpn_fuse.specs.PlaceInstances.{first_place}
use Rattle.cpn_fuse.specs.Unfolded.{IsUnfolded, AreInModules}
use Rattle.cpn_flat.specs.Names.{name_at}
use Rattle.cpn_flat.specs.FlatNet.{flat_arc, flat_transition, transitions_at, all_transitions}
use Rattle.cpn_flat.proofs.InstanceLookups.{of_each}
use Rattle.cpn_flat.proofs.PlaceLookups.{net_well, module_in}
use Rattle.cpn_flat.proofs.PlacedInstances.{placed}

module _ (classes : Numbering) (whole : List ℕ) (first : ℕ) where
  -- arcs at other places have the same variables
  same_variables : (arcs : List PlainArc) → arcs_variables (map (flat_arc classes first) arcs) ≡ arcs_variables arcs
  same_variables [] = refl
  same_variables (arc ∷ arcs) = ap (λ xs. inscription_variables arc.expr ++ xs) (same_variables arcs)

  its_variables : (t : PlainTransition) → transition_variables (flat_transition classes whole first t) ≡ transition_variables t
  its_variables t = ap₂ (λ ins outs. flat_map variables_of t.guard ++ (delay_variables t.delay ++ (ins ++ outs))) (same_variables t.inputs) (same_variables t.outputs)

  arcs_accepted : (ds : Declared) (side : Side) (arcs : List PlainArc) → AllByRecursion (IsAcceptedArc ds side) arcs → AllByRecursion (IsAcceptedArc ds side) (map (flat_arc classes first) arcs)
  arcs_accepted ds side arcs all =
      each_mapped (IsAcceptedArc ds side) (flat_arc classes first) arcs
      (each_implied (IsAcceptedArc ds side) (λ arc. IsAcceptedArc ds side (flat_arc classes first arc)) arcs (λ arc is. record { tree = is.tree; is = is.is }) all)

  transition_accepted : (ds : Declared) (t : PlainTransition) → IsAcceptedTransition ds t → IsAcceptedTransition ds (flat_transition classes whole first t)
  transition_accepted ds t is = record {
    variables = record {
      listed = is.variables.listed;
      exact = λ x. subst (λ xs. Contains t.vars x ↔ Contains xs x) (sym (its_variables t)) (is.variables.exact x);
    };
    guard_tree = is.guard_tree;
    guard = is.guard;
    delay = is.delay;
    inputs = arcs_accepted ds input t.inputs is.inputs;
    outputs = arcs_accepted ds output t.outputs is.outputs;
  }

module _ (accepted : PlainAccepted) (well : IsWellAccepted accepted) (is : List PlainInstance) (names : List (List ℕ)) (classes : Numbering) where
  instance_accepted : AreInModules accepted.hierarchy is → (i : ℕ) → i < length is
      → AllByRecursion (IsAcceptedTransition accepted.declared) (transitions_at accepted.hierarchy accepted.modules is names classes i (instance_at is i))
  instance_accepted within i lt =
      each_mapped (IsAcceptedTransition accepted.declared) (flat_transition classes (name_at names i) (first_place accepted.hierarchy is i)) net.transitions
      (each_implied (IsAcceptedTransition accepted.declared) (λ t. IsAcceptedTransition accepted.declared (flat_transition classes (name_at names i) (first_place accepted.hierarchy is i) t)) net.transitions
      (transition_accepted classes (name_at names i) (first_place accepted.hierarchy is i) accepted.declared)
      (net_well accepted well (instance_at is i).of_module (module_in accepted well is within i lt)).accepted)
    where
      net : PlainModuleNet
      net = module_net_at accepted (instance_at is i).of_module

  -- The transitions of the flat net are of accepted inscriptions.
  pub flat_accepted : IsUnfolded accepted.hierarchy is → AllByRecursion (IsAcceptedTransition accepted.declared) (all_transitions accepted.hierarchy accepted.modules is names classes)
  flat_accepted unfolded = of_each (transitions_at accepted.hierarchy accepted.modules is names classes) (IsAcceptedTransition accepted.declared) 0 is each
    where
      within : AreInModules accepted.hierarchy is
      within = (placed accepted.hierarchy is well.numbers unfolded.instances).1

      each : (j : ℕ) → j < length is → AllByRecursion (IsAcceptedTransition accepted.declared) (transitions_at accepted.hierarchy accepted.modules is names classes (0 + j) (instance_at is j))
      each j lt = subst (λ k. AllByRecursion (IsAcceptedTransition accepted.declared) (transitions_at accepted.hierarchy accepted.modules is names classes k (instance_at is j))) (let e : j ≡ 0 + j = omega arith in e) (instance_accepted within j lt)
