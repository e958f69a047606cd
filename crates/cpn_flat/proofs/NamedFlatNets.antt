-- The flat net of what is accepted is named: it has the names of the colour sets of its places and its variables.
use Rattle.std.proofs.Common.{◌≡◌, ℕ, ◌<◌, ◌&&◌, true, nat_le, List, length, refl, sym, ap, ◌∙◌}
use Rattle.std.specs.List.{AllByRecursion, list_all}
use Rattle.std.proofs.lemmas.List.Elements.{recursion_from_All}
use Rattle.std.proofs.lemmas.List.Sums.{AllPass-from_list_all, list_all-from_AllPass}
use Rattle.cpn_definitions.specs.Colour.{PlainShape, PlainShapes, Constructors, unit_shape, boolean_shape, int_shape, text_shape, constant_shape, tuple_shape, union_shape, list_shape, no_shapes, more_shapes, no_constructors, without, taking}
use Rattle.cpn_definitions.specs.Named.{constructors_of, count_of, has_names, have_names, arguments_have_names, is_named, IsNamed}
use Rattle.cpn_definitions.specs.Net.{PlainTransition, Coloured}
use Rattle.cpn_definitions.proofs.RisingLists.{passes_at, all_pass}
use Rattle.cpn_typing.specs.Names.{Declared}
use Rattle.cpn_classes.specs.Numbering.{Numbering}
use Rattle.cpn_accepted.specs.Nets.{PlainModuleNet, PlainAccepted, module_net_at, net_from, IsWellAccepted}
use Rattle.cpn_fuse.specs.Instances.{PlainInstance}
use Rattle.cpn_fuse.specs.Compound.{AreCompound}
use Rattle.cpn_fuse.specs.Unfolded.{IsUnfolded}
use Rattle.cpn_flat.specs.FlatNet.{compound_places, flat_net}
use Rattle.cpn_flat.proofs.CompoundColours.{of_compound}
use Rattle.cpn_flat.proofs.PlaceLookups.{net_well}
use Rattle.cpn_flat.proofs.PlacedInstances.{placed}

-- ---- nets of what is declared have the same names

module _ (ds : Declared) (ps qs : List Coloured) (ts us : List PlainTransition) where
  mutual
    shape_alike : (s : PlainShape) → has_names (net_from ds ps ts) s ≡ has_names (net_from ds qs us) s
    shape_alike unit_shape = refl
    shape_alike boolean_shape = refl
    shape_alike (int_shape low high) = refl
    shape_alike text_shape = refl
    shape_alike (constant_shape number count) = refl
    shape_alike (tuple_shape ss) = shapes_alike ss
    shape_alike (union_shape number cs) = ap (λ b. nat_le (count_of cs) (length (constructors_of (net_from ds ps ts) number)) && b) (arguments_alike cs)
    shape_alike (list_shape s) = shape_alike s

    shapes_alike : (ss : PlainShapes) → have_names (net_from ds ps ts) ss ≡ have_names (net_from ds qs us) ss
    shapes_alike no_shapes = refl
    shapes_alike (more_shapes s ss) = ap (λ b. b && have_names (net_from ds ps ts) ss) (shape_alike s) ∙ ap (λ b. has_names (net_from ds qs us) s && b) (shapes_alike ss)

    arguments_alike : (cs : Constructors) → arguments_have_names (net_from ds ps ts) cs ≡ arguments_have_names (net_from ds qs us) cs
    arguments_alike no_constructors = refl
    arguments_alike (without cs) = arguments_alike cs
    arguments_alike (taking s cs) = ap (λ b. b && arguments_have_names (net_from ds ps ts) cs) (shape_alike s) ∙ ap (λ b. has_names (net_from ds qs us) s && b) (arguments_alike cs)

  named_there : (c : Coloured) → is_named (net_from ds ps ts) c ≡ true → is_named (net_from ds qs us) c ≡ true
  named_there c is = sym (shape_alike c.colour.shape) ∙ is

  pub all_named_there : (cs : List Coloured) → list_all (is_named (net_from ds ps ts)) cs ≡ true → list_all (is_named (net_from ds qs us)) cs ≡ true
  all_named_there cs all = all_pass (is_named (net_from ds qs us)) cs (λ c c_in. named_there c (passes_at (is_named (net_from ds ps ts)) cs c all c_in))

-- ---- the flat net

module _ (accepted : PlainAccepted) (well : IsWellAccepted accepted) (is : List PlainInstance) (names : List (List ℕ)) (classes : Numbering) (compound : AreCompound accepted.hierarchy is classes) where
  abbrev IsNamedThere : Coloured → Type 0
  IsNamedThere c = is_named (flat_net accepted is names classes) c ≡ true

  module_named : (m : ℕ) → m < length accepted.hierarchy.modules → AllByRecursion IsNamedThere (module_net_at accepted m).places
  module_named m lt =
      recursion_from_All IsNamedThere net.places
      (AllPass-from_list_all (is_named (flat_net accepted is names classes)) net.places
      (all_named_there accepted.declared net.places (flat_net accepted is names classes).places net.transitions (flat_net accepted is names classes).transitions net.places (net_well accepted well m lt).named.places_named))
    where
      net : PlainModuleNet
      net = module_net_at accepted m

  -- The flat net is named.
  pub flat_named : IsUnfolded accepted.hierarchy is → IsNamed (flat_net accepted is names classes)
  flat_named unfolded = record {
    places_named = list_all-from_AllPass (is_named (flat_net accepted is names classes)) (compound_places accepted.modules is names classes)
        (of_compound accepted well is names classes compound (placed accepted.hierarchy is well.numbers unfolded.instances).1 IsNamedThere (λ whole c h. h) module_named);
    variables_named = all_named_there accepted.declared top.places (flat_net accepted is names classes).places top.transitions (flat_net accepted is names classes).transitions accepted.declared.variables
        (net_well accepted well accepted.hierarchy.top well.numbers.top).named.variables_named;
  }
    where
      top : PlainModuleNet
      top = module_net_at accepted accepted.hierarchy.top
