-- The flat net of what is accepted is sound: each of its transitions is one of a module's, whose arcs are at the compound places of
-- their places.
use Rattle.std.proofs.Common.{◌≡◌, ℕ, ◌+◌, ◌<◌, ◌≤◌, ◌^◌, ◌==◌, ◌&&◌, List, [], ◌∷◌, length, map, refl, sym, ap, ◌∙◌, subst, arith}
use Rattle.std.specs.Prelude.{slice_index_or}
use Rattle.std.specs.List.{AllByRecursion}
use Rattle.std.proofs.lemmas.List.{length-map}
use Rattle.cpn_definitions.specs.Colour.{admits}
use Rattle.cpn_definitions.specs.Inscription.{PlainExpr}
use Rattle.cpn_definitions.specs.Net.{PlainArc, PlainTransition, Coloured, nothing, variable_at}
use Rattle.cpn_definitions.specs.Meaning.{PlainBinding}
use Rattle.cpn_definitions.specs.Bindable.{variables_of, IsInTerm, IsEquated, IsBindable, by_term, by_size, by_guard, AreBindable, no_more, and_more}
use Rattle.cpn_definitions.specs.Occurrence.{binds}
use Rattle.cpn_definitions.specs.Sound.{IsSoundArc, IsSoundInput, IsSoundTransition, IsSound}
use Rattle.cpn_definitions.proofs.RisingLists.{in_from_contains, contains_from_in, in_map, each_mapped, each_implied}
use Rattle.cpn_typing.specs.Names.{Declared}
use Rattle.cpn_classes.specs.Numbering.{Numbering, number_of}
use Rattle.cpn_classes.specs.ClassCounts.{no_more_classes}
use Rattle.cpn_module.specs.Hierarchy.{places_in, structure_at}
use Rattle.cpn_accepted.specs.Nets.{PlainModuleNet, PlainAccepted, module_net_at, net_from, net_of, IsWellAccepted}
use Rattle.cpn_fuse.specs.Instances.{PlainInstance, instance_at}
use Rattle.cpn_fuse.specs.PlaceInstances.{place_count, first_place, place_number}
use Rattle.cpn_fuse.specs.Compound.{AreCompound}
use Rattle.cpn_fuse.specs.Unfolded.{IsUnfolded, AreInModules}
use Rattle.cpn_flat.specs.Names.{name_at}
use Rattle.cpn_flat.specs.FlatNet.{flat_arc, flat_transition, compound_places, transitions_at, all_transitions, flat_net}
use Rattle.cpn_flat.specs.Placed.{ArePlaced}
use Rattle.cpn_flat.proofs.InstanceLookups.{of_each}
use Rattle.cpn_flat.proofs.PlaceLookups.{net_well, places_of_module, module_in, place_in_all, length-all_transitions}
use Rattle.cpn_flat.proofs.PlacedInstances.{placed}
use Rattle.cpn_flat.proofs.JoinedColours.{colour_of, compound_colour}

-- ---- a transition of another net of what is declared, whose arcs are at other places

module _ (ds : Declared) (ps qs : List Coloured) (ts us : List PlainTransition) where
  -- the same variables are bound
  bound_alike : (xs : List ℕ) (b : PlainBinding) → binds (net_from ds ps ts) xs b ≡ binds (net_from ds qs us) xs b
  bound_alike [] [] = refl
  bound_alike [] (pair ∷ b) = refl
  bound_alike (x ∷ xs) [] = refl
  bound_alike (x ∷ xs) (pair ∷ b) = ap (λ rest. (x == pair.0) && admits (variable_at (net_from ds ps ts) x).colour pair.1 && rest) (bound_alike xs b)

module _ (classes : Numbering) (whole : List ℕ) (first : ℕ) (t : PlainTransition) where
  equated_there : (x : ℕ) (e : PlainExpr) → IsEquated t x e → IsEquated (flat_transition classes whole first t) x e
  equated_there x e h = record { conjunct = h.conjunct; is_conjunct = h.is_conjunct; part = h.part; is_part = h.is_part; is_equation = h.is_equation }

  equated_here : (x : ℕ) (e : PlainExpr) → IsEquated (flat_transition classes whole first t) x e → IsEquated t x e
  equated_here x e h = record { conjunct = h.conjunct; is_conjunct = h.is_conjunct; part = h.part; is_part = h.is_part; is_equation = h.is_equation }

  in_term_there : (x : ℕ) → IsInTerm t x → IsInTerm (flat_transition classes whole first t) x
  in_term_there x h = record {
    arc = flat_arc classes first h.arc;
    is_input = contains_from_in (map (flat_arc classes first) t.inputs) (flat_arc classes first h.arc) (in_map (flat_arc classes first) t.inputs h.arc (in_from_contains t.inputs h.arc h.is_input));
    term = h.term;
    is_term = h.is_term;
    is_in = h.is_in;
  }

  module _ (ds : Declared) (ps qs : List Coloured) (ts us : List PlainTransition) where
    mutual
      bindable_there : (x : ℕ) → IsBindable (net_from ds ps ts) t x → IsBindable (net_from ds qs us) (flat_transition classes whole first t) x
      bindable_there x (by_term _ h) = by_term x (in_term_there x h)
      bindable_there x (by_size _ h) = by_size x h
      bindable_there x (by_guard _ e h all) = by_guard x e (equated_there x e h) (all_bindable_there (variables_of e) all)

      all_bindable_there : (xs : List ℕ) → AreBindable (net_from ds ps ts) t xs → AreBindable (net_from ds qs us) (flat_transition classes whole first t) xs
      all_bindable_there xs no_more = no_more
      all_bindable_there xs (and_more x rest h all) = and_more x rest (bindable_there x h) (all_bindable_there rest all)

    module _ (there : (p : ℕ) → p < length ps → (number_of classes (first + p) < length qs) × ((slice_index_or ps p nothing).colour ≡ (slice_index_or qs (number_of classes (first + p)) nothing).colour)) where
      arc_sound : (arc : PlainArc) → IsSoundArc (net_from ds ps ts) t arc → IsSoundArc (net_from ds qs us) (flat_transition classes whole first t) (flat_arc classes first arc)
      arc_sound arc ok = record {
        place_known = (there arc.place ok.place_known).0;
        colour_is = ok.colour_is ∙ (there arc.place ok.place_known).1;
        means = λ b time bound soon. ok.means b time (bound_alike ds ps qs ts us t.vars b ∙ bound) soon;
      }

      input_sound : (arc : PlainArc) → IsSoundInput (net_from ds ps ts) t arc → IsSoundInput (net_from ds qs us) (flat_transition classes whole first t) (flat_arc classes first arc)
      input_sound arc ok = record { sound = arc_sound arc ok.sound; terms_are = ok.terms_are }

      transition_sound : IsSoundTransition (net_from ds ps ts) t → IsSoundTransition (net_from ds qs us) (flat_transition classes whole first t)
      transition_sound ok = record {
        listed = ok.listed;
        declared = ok.declared;
        bindable = λ x listed. bindable_there x (ok.bindable x listed);
        guard_means = λ b bound. ok.guard_means b (bound_alike ds ps qs ts us t.vars b ∙ bound);
        guard_solvable = record {
          guard_listed = ok.guard_solvable.guard_listed;
          equations_mean = λ x e equated xs b bound all. ok.guard_solvable.equations_mean x e (equated_here x e equated) xs b (bound_alike ds ps qs ts us xs b ∙ bound) all;
        };
        delay_means = λ b time bound soon. ok.delay_means b time (bound_alike ds ps qs ts us t.vars b ∙ bound) soon;
        few_arcs = let few = ok.few_arcs in let inputs = length-map t.inputs (flat_arc classes first) in let outputs = length-map t.outputs (flat_arc classes first) in omega (arith, few, inputs, outputs);
        inputs_sound = each_mapped (IsSoundInput (net_from ds qs us) (flat_transition classes whole first t)) (flat_arc classes first) t.inputs
            (each_implied (IsSoundInput (net_from ds ps ts) t) (λ arc. IsSoundInput (net_from ds qs us) (flat_transition classes whole first t) (flat_arc classes first arc)) t.inputs input_sound ok.inputs_sound);
        outputs_sound = each_mapped (IsSoundArc (net_from ds qs us) (flat_transition classes whole first t)) (flat_arc classes first) t.outputs
            (each_implied (IsSoundArc (net_from ds ps ts) t) (λ arc. IsSoundArc (net_from ds qs us) (flat_transition classes whole first t) (flat_arc classes first arc)) t.outputs arc_sound ok.outputs_sound);
      }

-- ---- the flat net

module _ (accepted : PlainAccepted) (well : IsWellAccepted accepted) (is : List PlainInstance) (names : List (List ℕ)) (classes : Numbering) (compound : AreCompound accepted.hierarchy is classes) where
  -- there are as many compound places as classes, no more than place instances
  pub length-compound_places : length (compound_places accepted.modules is names classes) ≡ length classes.firsts
  length-compound_places = length-map classes.firsts _

  pub few_compound_places : length (compound_places accepted.modules is names classes) ≤ place_count accepted.hierarchy is
  few_compound_places = let many = compound.each in let no_more = no_more_classes classes compound.in_order in let compounds = length-compound_places in omega (arith, many, no_more, compounds)

  module _ (within : AreInModules accepted.hierarchy is) (are : ArePlaced accepted.hierarchy is) where
    -- a place of an instance is at a compound place of its colour set
    at_compound : (i p : ℕ) → i < length is → p < length (module_net_at accepted (instance_at is i).of_module).places
        → (number_of classes (first_place accepted.hierarchy is i + p) < length (compound_places accepted.modules is names classes))
        × ((slice_index_or (module_net_at accepted (instance_at is i).of_module).places p nothing).colour ≡ (slice_index_or (compound_places accepted.modules is names classes) (number_of classes (first_place accepted.hierarchy is i + p)) nothing).colour)
    at_compound i p lt in_net = (
      let class_in = compound.in_order.in_class (place_number accepted.hierarchy is i p) (let every = compound.each in omega (arith, every, item)) in let compounds = length-compound_places in omega (arith, class_in, compounds),
      sym (compound_colour accepted well is within names are classes compound (place_number accepted.hierarchy is i p) item ∙ colour_of accepted well is within names i p lt in_x),
    )
      where
        in_x : p < places_in (structure_at accepted.hierarchy (instance_at is i).of_module)
        in_x = let many = places_of_module accepted well (instance_at is i).of_module (module_in accepted well is within i lt) in omega (arith, many, in_net)

        item : place_number accepted.hierarchy is i p < place_count accepted.hierarchy is
        item = place_in_all accepted well is within i p lt in_x

    instance_sound : (i : ℕ) → i < length is
        → AllByRecursion (IsSoundTransition (flat_net accepted is names classes)) (transitions_at accepted.hierarchy accepted.modules is names classes i (instance_at is i))
    instance_sound i lt =
        each_mapped (IsSoundTransition (flat_net accepted is names classes)) (flat_transition classes (name_at names i) (first_place accepted.hierarchy is i)) net.transitions
        (each_implied (IsSoundTransition (net_of accepted.declared net)) (λ t. IsSoundTransition (flat_net accepted is names classes) (flat_transition classes (name_at names i) (first_place accepted.hierarchy is i) t)) net.transitions
        (λ t. transition_sound classes (name_at names i) (first_place accepted.hierarchy is i) t accepted.declared net.places (compound_places accepted.modules is names classes) net.transitions (all_transitions accepted.hierarchy accepted.modules is names classes) (λ p. at_compound i p lt))
        (net_well accepted well (instance_at is i).of_module (module_in accepted well is within i lt)).sound)
      where
        net : PlainModuleNet
        net = module_net_at accepted (instance_at is i).of_module

    transitions_sound : AllByRecursion (IsSoundTransition (flat_net accepted is names classes)) (all_transitions accepted.hierarchy accepted.modules is names classes)
    transitions_sound = of_each (transitions_at accepted.hierarchy accepted.modules is names classes) (IsSoundTransition (flat_net accepted is names classes)) 0 is each
      where
        each : (j : ℕ) → j < length is → AllByRecursion (IsSoundTransition (flat_net accepted is names classes)) (transitions_at accepted.hierarchy accepted.modules is names classes (0 + j) (instance_at is j))
        each j lt = subst (λ k. AllByRecursion (IsSoundTransition (flat_net accepted is names classes)) (transitions_at accepted.hierarchy accepted.modules is names classes k (instance_at is j))) (let e : j ≡ 0 + j = omega arith in e) (instance_sound j lt)

  -- The flat net is sound.
  pub flat_sound : IsUnfolded accepted.hierarchy is → length accepted.declared.variables < 2 ^ 32 → IsSound (flat_net accepted is names classes)
  flat_sound unfolded few_variables = record {
    transitions_sound = transitions_sound all.1 all.0;
    functions_closed = well.closed;
    few_places = let few = unfolded.few_places in omega (arith, few, few_compound_places);
    few_transitions = let few = unfolded.few_transitions in let many = length-all_transitions accepted well is all.1 names classes in omega (arith, few, many);
    few_variables = few_variables;
  }
    where
      all : ArePlaced accepted.hierarchy is × AreInModules accepted.hierarchy is
      all = placed accepted.hierarchy is well.numbers unfolded.instances
