-- A net of what is declared names the constants and the constructors of the colour sets of its places and its variables.
use Rattle.std.proofs.Common.{◌≡◌, ℕ, zero, suc, ◌≤◌, true, nat_le, List, [], ◌∷◌, length, map, slice_get, slice_index_or, option_map, refl, sym, subst, arith}
use Rattle.std.specs.List.{list_all, AllByRecursion}
use Rattle.std.proofs.lemmas.Bool.{le-leb, and_from}
use Rattle.std.proofs.lemmas.List.{length-map}
use Rattle.cpn_definitions.specs.Colour.{PlainShape, PlainShapes, Constructors, unit_shape, boolean_shape, int_shape, text_shape, constant_shape, tuple_shape, union_shape, list_shape, no_shapes, more_shapes, no_constructors, without, taking, constructor_at}
use Rattle.cpn_definitions.specs.Named.{count_of, has_names, have_names, arguments_have_names, is_named, IsNamed}
use Rattle.cpn_definitions.specs.Net.{PlainTransition, Coloured, PlainNet, nothing}
use Rattle.cpn_typing.specs.Names.{NamedConstructor, Declared, colour_named, unknown}
use Rattle.cpn_typing.specs.TypedValues.{argument_of, argument_types, sets_of, HasSetsOf, HasSetsOfEach, HasSetsOfArguments}
use Rattle.cpn_typing.specs.Declarations.{colour_of}
use Rattle.cpn_typing.specs.Consistency.{IsConsistent}
use Rattle.cpn_typing.proofs.Consistent.{required_is}
use Rattle.cpn_typing.proofs.MeaningsInNets.{own_sets}
use Rattle.cpn_accepted.specs.Nets.{constructor_names, net_from}
use Rattle.cpn_module_nets.specs.Reading.{read, each_from}
use Rattle.cpn_module_trees.specs.Trees.{PlaceTrees}
use Rattle.cpn_module_nets.specs.Accepted.{accepted_at, net_place}
use Rattle.cpn_module_nets.proofs.AcceptedTexts.{each_from_all, accepted_is}
use Rattle.cpn_module_nets.proofs.ListFacts.{all_numbered, passes_all}
use Rattle.cpn_readings.proofs.Readings.{same_read, steps}
use Rattle.cpn_module_nets.specs.Pointers.{colour_pointer}

-- as many names as constructors
count_named : (cs : Constructors) (named : List NamedConstructor) → ((k : ℕ) → option_map argument_of (slice_get named k) ≡ argument_types (constructor_at cs k)) → count_of cs ≤ length named
count_named no_constructors named h = omega arith
count_named (without cs) [] h = absurd (let first = h 0 in cc)
count_named (taking s cs) [] h = absurd (let first = h 0 in cc)
count_named (without cs) (c ∷ named) h = let rest = count_named cs named (λ k. h (suc k)) in omega (arith, rest)
count_named (taking s cs) (c ∷ named) h = let rest = count_named cs named (λ k. h (suc k)) in omega (arith, rest)

names_there : (unions : List (List NamedConstructor)) (id : ℕ) → length (slice_index_or (map constructor_names unions) id []) ≡ length (slice_index_or unions id [])
names_there [] zero = refl
names_there [] (suc id) = refl
names_there (u ∷ unions) zero = length-map u (λ (c : NamedConstructor). c.name)
names_there (u ∷ unions) (suc id) = names_there unions id

module _ (ds : Declared) (places : List Coloured) (ts : List PlainTransition) where
  abbrev its_net : PlainNet
  its_net = net_from ds places ts

  constants_named : (id count : ℕ) → (sets_of ds).constants id ≡ count → nat_le count (length (slice_index_or ds.enumerations id [])) ≡ true
  constants_named id count h =
      let many = length (slice_index_or ds.enumerations id []) in
      subst (λ k. nat_le k (length (slice_index_or ds.enumerations id [])) ≡ true) h (le-leb many many (omega arith))

  constructors_named : (id : ℕ) (cs : Constructors) → ((k : ℕ) → (sets_of ds).constructor id k ≡ argument_types (constructor_at cs k)) → nat_le (count_of cs) (length (slice_index_or (map constructor_names ds.unions) id [])) ≡ true
  constructors_named id cs h =
      let few = count_named cs (slice_index_or ds.unions id []) h in
      le-leb (count_of cs) (length (slice_index_or (map constructor_names ds.unions) id [])) (subst (λ k. count_of cs ≤ k) (sym (names_there ds.unions id)) few)

  mutual
    shape_named : (s : PlainShape) → HasSetsOf (sets_of ds) s → has_names its_net s ≡ true
    shape_named unit_shape h = refl
    shape_named boolean_shape h = refl
    shape_named (int_shape low high) h = refl
    shape_named text_shape h = refl
    shape_named (constant_shape id count) h = constants_named id count h
    shape_named (tuple_shape ss) h = shapes_named ss h
    shape_named (union_shape id cs) h = and_from (nat_le (count_of cs) (length (slice_index_or (map constructor_names ds.unions) id []))) (arguments_have_names its_net cs) (constructors_named id cs h.0) (arguments_named cs h.1)
    shape_named (list_shape s) h = shape_named s h

    shapes_named : (ss : PlainShapes) → HasSetsOfEach (sets_of ds) ss → have_names its_net ss ≡ true
    shapes_named no_shapes h = refl
    shapes_named (more_shapes s ss) h = and_from (has_names its_net s) (have_names its_net ss) (shape_named s h.0) (shapes_named ss h.1)

    arguments_named : (cs : Constructors) → HasSetsOfArguments (sets_of ds) cs → arguments_have_names its_net cs ≡ true
    arguments_named no_constructors h = refl
    arguments_named (without cs) h = arguments_named cs h
    arguments_named (taking s cs) h = and_from (has_names its_net s) (arguments_have_names its_net cs) (shape_named s h.0) (arguments_named cs h.1)

abbrev pub IsOfDeclared : Declared → Coloured → Type 0
IsOfDeclared ds coloured = HasSetsOf (sets_of ds) coloured.colour.shape

each_named : (ds : Declared) (places : List Coloured) (ts : List PlainTransition) (all : List Coloured) → AllByRecursion (IsOfDeclared ds) all → list_all (is_named (net_from ds places ts)) all ≡ true
each_named ds places ts all h = passes_all (IsOfDeclared ds) (is_named (net_from ds places ts)) (λ c is. shape_named ds places ts c.colour.shape is) all h

-- ---- the colour sets of places and variables

place_declared : (ds : Declared) → IsConsistent ds → (m i : ℕ) (place : PlaceTrees) (made : Coloured) → net_place ds m i place ≡ read made → IsOfDeclared ds made
unfolding net_place
place_declared ds good m i place made h =
    let colour = steps _ (accepted_at (colour_pointer m i) (colour_of ds place.colour)) made h in
    let is = accepted_is (colour_pointer m i) (colour_of ds place.colour) colour.0 colour.1 in
    subst (IsOfDeclared ds) (same_read _ made colour.2) (good.colours_of (sets_of ds) (own_sets ds) place.colour colour.0 (required_is (colour_named place.colour ds) (unknown place.colour) colour.0 is))

pub named : (ds : Declared) → IsConsistent ds → (m : ℕ) (trees : List PlaceTrees) (places : List Coloured) (ts : List PlainTransition) → each_from (net_place ds m) 0 trees ≡ read places → IsNamed (net_from ds places ts)
named ds good m trees places ts h = record {
  places_named = each_named ds places ts places (each_from_all (net_place ds m) (IsOfDeclared ds) (place_declared ds good m) 0 trees places h);
  variables_named = each_named ds places ts ds.variables (all_numbered (IsOfDeclared ds) nothing ds.variables (λ x lt. good.coloured (sets_of ds) (own_sets ds) x lt));
}
