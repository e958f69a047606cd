-- The flat net of a document has distinct names: no two places and no two transitions have one name, nor have two variables, two
-- constants of an enumeration or two constructors of a union. All its names are well spelled, and those of places and transitions are
-- flattened names. And its integers have 64 bits.
use Rattle.std.proofs.Common.{◌≡◌, ℕ, suc, ◌+◌, ◌<◌, Bool, true, List, [], ◌∷◌, ◌++◌, length, take, map, sum, refl, sym, ap, ap₂, ◌∙◌, subst, inl, inr, arith}
use Rattle.std.specs.Prelude.{slice_index_or}
use Rattle.std.specs.List.{list_all}
use Rattle.std.proofs.lemmas.Bool.{and_from, cases_order}
use Rattle.std.proofs.lemmas.List.{length-map, map-append, get_or-map}
use Rattle.std.proofs.lemmas.List.Elements.{recursion_from_All}
use Rattle.cpn_definitions.specs.DistinctNames.{AreDistinct, is_path, HasDistinctNames, HasWellSpelledNames}
use Rattle.cpn_definitions.specs.Integers.{HasShortIntegers}
use Rattle.cpn_definitions.specs.Net.{PlainTransition, Coloured, PlainNet, nothing}
use Rattle.cpn_definitions.proofs.DistinctLists.{TellsPositions, distinct_from_positions, positions_from_distinct}
use Rattle.cpn_classes.specs.Numbering.{Numbering, first_of}
use Rattle.cpn_document.specs.Document.{RawDocument}
use Rattle.cpn_document.specs.Texts.{is_name, is_flat_name}
use Rattle.cpn_document.specs.WellNamed.{AreNames, AreWellNamed}
use Rattle.cpn_fuse.specs.Instances.{PlainInstance, instance_at}
use Rattle.cpn_fuse.specs.Compound.{AreCompound}
use Rattle.cpn_fuse.specs.Unfolded.{IsUnfolded, AreInModules}
use Rattle.cpn_accepted.specs.Nets.{PlainAccepted, IsWellAccepted}
use Rattle.cpn_accepted.specs.AsWritten.{names_of_places, names_of_transitions, HasItsNames, HasShortParts}
use Rattle.cpn_readings.specs.Relations.{such_that}
use Rattle.cpn_readings.proofs.Readings.{same_read}
use Rattle.cpn_readings.proofs.RelatedReadings.{step_parts, such_holds}
use Rattle.cpn_flat.specs.Refusals.{Reading, read}
use Rattle.cpn_flat.specs.Names.{joined_name, name_at, AreNames as AreInstanceNames}
use Rattle.cpn_flat.specs.FlatNames.{HasFlatNames}
use Rattle.cpn_flat.specs.FlatNet.{each_instance, module_net_among, joined_place, places_at, all_places, compound_places, flat_transition, transitions_at, all_transitions, flat_net}
use Rattle.cpn_flat.specs.Flat.{PlainLoaded, IsUnfoldedAs, unfolded, not_unfolded, all_written, flat_in}
use Rattle.cpn_flat.specs.InitialMarking.{started}
use Rattle.cpn_flat.proofs.InstanceLookups.{instance_with, HaveAsMany, length-each, at_number}
use Rattle.cpn_flat.proofs.InstancePaths.{name_in, module_named, in_document, instances_told, instance_path}
use Rattle.cpn_flat.proofs.JoinedNames.{IsPlain, plain_name, joined_once, IsPath, path_joined}
use Rattle.cpn_flat.proofs.PlacedInstances.{placed}
use Rattle.cpn_flat.proofs.PlaceLookups.{length-all_places}
use Rattle.cpn_flat.proofs.ShortFlatNets.{flat_short}

-- ---- names of what instances have

module _ (names : List (List ℕ)) (own : PlainInstance → List (List ℕ)) where
  -- the names of what an instance has, each joined to that of the instance
  abbrev names_at : ℕ → PlainInstance → List (List ℕ)
  names_at i x = map (joined_name (name_at names i)) (own x)

  as_many : (is : List PlainInstance) → HaveAsMany names_at (λ x. length (own x)) is
  as_many is = recursion_from_All (λ x. (i : ℕ) → length (names_at i x) ≡ length (own x)) is (λ k d lt i. length-map (own (slice_index_or is k d)) (joined_name (name_at names i)))

  -- the name of a number of an instance
  name_of_number : (is : List PlainInstance) (i p : ℕ) → i < length is → p < length (own (instance_at is i))
      → slice_index_or (each_instance names_at 0 is) (sum (take i (map (λ x. length (own x)) is)) + p) [] ≡ joined_name (name_at names i) (slice_index_or (own (instance_at is i)) p [])
  name_of_number is i p lt in_x =
      at_number names_at (λ x. length (own x)) 0 is i p [] (as_many is) lt in_x
      ∙ get_or-map (joined_name (name_at names (0 + i))) (own (instance_at is i)) p [] [] in_x
      ∙ ap (λ (k : ℕ). joined_name (name_at names k) (slice_index_or (own (instance_at is i)) p [])) (let e : 0 + i ≡ i = omega arith in e)

  module _ (is : List PlainInstance) (plain : (i : ℕ) → i < length is → AreNames (own (instance_at is i))) where
    named_at : (i p : ℕ) → i < length is → p < length (own (instance_at is i)) → is_name (slice_index_or (own (instance_at is i)) p []) ≡ true
    named_at i p lt in_x = name_in (own (instance_at is i)) p (plain i lt) in_x

    plain_at : (i p : ℕ) → i < length is → p < length (own (instance_at is i)) → IsPlain (slice_index_or (own (instance_at is i)) p [])
    plain_at i p lt in_x = plain_name (slice_index_or (own (instance_at is i)) p []) (named_at i p lt in_x)

    -- where no two instances have one name, no two of all these are one
    names_told : ((i j : ℕ) → i < length is → j < length is → name_at names i ≡ name_at names j → i ≡ j) → TellsPositions (each_instance names_at 0 is)
    names_told told k l in_k in_l same =
        let long = length-each names_at (λ x. length (own x)) 0 is (as_many is) in
        let first = instance_with (λ x. length (own x)) is k (omega (arith, in_k, long)) in
        let second = instance_with (λ x. length (own x)) is l (omega (arith, in_l, long)) in
        one_number first.0 first.1 second.0 second.1 first.2 first.3 second.2 second.3 first.4 second.4
      where
        one_number : (i p j q : ℕ) → i < length is → p < length (own (instance_at is i)) → j < length is → q < length (own (instance_at is j))
            → k ≡ sum (take i (map (λ x. length (own x)) is)) + p → l ≡ sum (take j (map (λ x. length (own x)) is)) + q → k ≡ l
        one_number i p j q in_i in_p in_j in_q k_is l_is =
            let joined : joined_name (name_at names i) (slice_index_or (own (instance_at is i)) p []) ≡ joined_name (name_at names j) (slice_index_or (own (instance_at is j)) q [])
            = sym (name_of_number is i p in_i in_p) ∙ ap (λ (m : ℕ). slice_index_or (each_instance names_at 0 is) m []) (sym k_is) ∙ same ∙ ap (λ (m : ℕ). slice_index_or (each_instance names_at 0 is) m []) l_is ∙ name_of_number is j q in_j in_q in
            let parts = joined_once (name_at names i) (name_at names j) (slice_index_or (own (instance_at is i)) p []) (slice_index_or (own (instance_at is j)) q []) (plain_at i p in_i in_p) (plain_at j q in_j in_q) joined in
            let instances : i ≡ j = told i j in_i in_j parts.0 in
            let here : q < length (own (instance_at is i)) = subst (λ (m : ℕ). q < length (own (instance_at is m))) (sym instances) in_q in
            let names_same : slice_index_or (own (instance_at is i)) p [] ≡ slice_index_or (own (instance_at is i)) q [] = parts.1 ∙ ap (λ (m : ℕ). slice_index_or (own (instance_at is m)) q []) (sym instances) in
            let positions : p ≡ q = positions_from_distinct (own (instance_at is i)) (plain i in_i).distinct p q in_p here names_same in
            k_is ∙ ap₂ (λ (m n : ℕ). sum (take m (map (λ x. length (own x)) is)) + n) instances positions ∙ sym l_is

    -- where the names of instances are paths, so are all these
    names_paths : ((i : ℕ) → i < length is → IsPath (name_at names i)) → (k : ℕ) → k < length (each_instance names_at 0 is) → IsPath (slice_index_or (each_instance names_at 0 is) k [])
    names_paths paths k in_k =
        let long = length-each names_at (λ x. length (own x)) 0 is (as_many is) in
        let found = instance_with (λ x. length (own x)) is k (omega (arith, in_k, long)) in
        subst (λ (m : ℕ). IsPath (slice_index_or (each_instance names_at 0 is) m [])) (sym found.4)
        (subst IsPath (sym (name_of_number is found.0 found.1 found.2 found.3))
        (path_joined (name_at names found.0) (slice_index_or (own (instance_at is found.0)) found.1 []) (paths found.0 found.2) (named_at found.0 found.1 found.2 found.3)))

  -- they are the names of things that instances have
  names_are : {A : Type 0} (has : ℕ → PlainInstance → List A) (name : A → List ℕ) → ((i : ℕ) (x : PlainInstance) → map name (has i x) ≡ names_at i x) → (i : ℕ) (xs : List PlainInstance)
      → map name (each_instance has i xs) ≡ each_instance names_at i xs
  unfolding each_instance
  names_are has name same i [] = refl
  names_are has name same i (x ∷ xs) = map-append name (has i x) (each_instance has (suc i) xs) ∙ ap₂ (λ (ns ms : List (List ℕ)). ns ++ ms) (same i x) (names_are has name same (suc i) xs)

passes_all : (p : List ℕ → Bool) (xs : List (List ℕ)) → ((k : ℕ) → k < length xs → p (slice_index_or xs k []) ≡ true) → list_all p xs ≡ true
passes_all p [] each = refl
passes_all p (x ∷ xs) each = and_from (p x) (list_all p xs) (each 0 (omega arith)) (passes_all p xs (λ k lt. each (suc k) (omega arith)))

-- all of these are paths
record ArePaths (xs : List (List ℕ)) : Type 0 where
  pub spelled : list_all is_path xs ≡ true
  pub flat : list_all is_flat_name xs ≡ true

paths_all : (xs : List (List ℕ)) → ((k : ℕ) → k < length xs → IsPath (slice_index_or xs k [])) → ArePaths xs
paths_all xs each = record { spelled = passes_all is_path xs (λ k lt. (each k lt).spelled); flat = passes_all is_flat_name xs (λ k lt. (each k lt).flat) }

-- ---- places and transitions of a module

joined_places : (whole : List ℕ) (places : List Coloured) → names_of_places (map (joined_place whole) places) ≡ map (joined_name whole) (names_of_places places)
joined_places whole [] = refl
joined_places whole (p ∷ places) = ap (λ (ns : List (List ℕ)). joined_name whole p.name ∷ ns) (joined_places whole places)

joined_transitions : (classes : Numbering) (whole : List ℕ) (first : ℕ) (ts : List PlainTransition) → names_of_transitions (map (flat_transition classes whole first) ts) ≡ map (joined_name whole) (names_of_transitions ts)
joined_transitions classes whole first [] = refl
joined_transitions classes whole first (t ∷ ts) = ap (λ (ns : List (List ℕ)). joined_name whole t.name ∷ ns) (joined_transitions classes whole first ts)

module _ (d : RawDocument) (a : PlainAccepted) (well_named : AreWellNamed d) (has : HasItsNames d a) (well : IsWellAccepted a) (is : List PlainInstance) (is_unfolded : IsUnfolded a.hierarchy is) (names : List (List ℕ)) (are : AreInstanceNames d is names) where
  within : AreInModules a.hierarchy is
  within = (placed a.hierarchy is well.numbers is_unfolded.instances).1

  told : (i j : ℕ) → i < length is → j < length is → name_at names i ≡ name_at names j → i ≡ j
  told = instances_told d well_named a.hierarchy has.hierarchy is within (placed a.hierarchy is well.numbers is_unfolded.instances).0 names are is_unfolded.instances

  paths : (i : ℕ) → i < length is → IsPath (name_at names i)
  paths = instance_path d well_named a.hierarchy has.hierarchy is within (placed a.hierarchy is well.numbers is_unfolded.instances).0 names are

  here : (i : ℕ) → i < length is → (instance_at is i).of_module < length d.modules
  here = in_document d well_named a.hierarchy has.hierarchy is within (placed a.hierarchy is well.numbers is_unfolded.instances).0 names are

  -- the names of the places, and of the transitions, of the module of an instance
  abbrev own_places : PlainInstance → List (List ℕ)
  own_places x = names_of_places (module_net_among a.modules x.of_module).places

  abbrev own_transitions : PlainInstance → List (List ℕ)
  own_transitions x = names_of_transitions (module_net_among a.modules x.of_module).transitions

  places_plain : (i : ℕ) → i < length is → AreNames (own_places (instance_at is i))
  places_plain i lt = subst AreNames (sym (has.places (instance_at is i).of_module (here i lt))) (module_named d well_named (instance_at is i).of_module (here i lt)).places

  transitions_plain : (i : ℕ) → i < length is → AreNames (own_transitions (instance_at is i))
  transitions_plain i lt = subst AreNames (sym (has.transitions (instance_at is i).of_module (here i lt))) (module_named d well_named (instance_at is i).of_module (here i lt)).transitions

  -- ---- all place instances and transition instances

  abbrev place_instances : List (List ℕ)
  place_instances = names_of_places (all_places a.modules is names)

  place_instances_are : names_of_places (all_places a.modules is names) ≡ each_instance (names_at names own_places) 0 is
  place_instances_are = names_are names own_places (places_at a.modules names) (λ (c : Coloured). c.name) (λ i x. joined_places (name_at names i) (module_net_among a.modules x.of_module).places) 0 is

  places_told : TellsPositions (names_of_places (all_places a.modules is names))
  places_told = subst TellsPositions (sym place_instances_are) (names_told names own_places is places_plain told)

  places_paths : (k : ℕ) → k < length (names_of_places (all_places a.modules is names)) → IsPath (slice_index_or (names_of_places (all_places a.modules is names)) k [])
  places_paths = subst (λ (ns : List (List ℕ)). (k : ℕ) → k < length ns → IsPath (slice_index_or ns k [])) (sym place_instances_are) (names_paths names own_places is places_plain paths)

  module _ (classes : Numbering) (compound : AreCompound a.hierarchy is classes) where
    transitions_are : names_of_transitions (all_transitions a.hierarchy a.modules is names classes) ≡ each_instance (names_at names own_transitions) 0 is
    transitions_are = names_are names own_transitions (transitions_at a.hierarchy a.modules is names classes) (λ (t : PlainTransition). t.name)
        (λ i x. joined_transitions classes (name_at names i) _ (module_net_among a.modules x.of_module).transitions) 0 is

    transitions_distinct : AreDistinct (names_of_transitions (all_transitions a.hierarchy a.modules is names classes))
    transitions_distinct = distinct_from_positions (names_of_transitions (all_transitions a.hierarchy a.modules is names classes)) (subst TellsPositions (sym transitions_are) (names_told names own_transitions is transitions_plain told))

    transitions_paths : ArePaths (names_of_transitions (all_transitions a.hierarchy a.modules is names classes))
    transitions_paths = subst ArePaths (sym transitions_are) (paths_all (each_instance (names_at names own_transitions) 0 is) (names_paths names own_transitions is transitions_plain paths))

    -- ---- compound places

    abbrev flat_places : List Coloured
    flat_places = compound_places a.modules is names classes

    as_many_classes : length (names_of_places flat_places) ≡ length classes.firsts
    as_many_classes = length-map flat_places (λ (c : Coloured). c.name) ∙ length-map classes.firsts (λ (first : ℕ). slice_index_or (all_places a.modules is names) first nothing)

    first_in : (k : ℕ) → k < length classes.firsts → first_of classes k < length (names_of_places (all_places a.modules is names))
    first_in k lt =
        let item = compound.in_order.is_item k lt in
        let every = compound.each in
        let many = length-all_places a well is within names in
        let all = length-map (all_places a.modules is names) (λ (c : Coloured). c.name) in
        omega (arith, item, every, many, all)

    -- a compound place has the name of its first member
    name_of_class : (k : ℕ) → k < length classes.firsts → slice_index_or (names_of_places flat_places) k [] ≡ slice_index_or (names_of_places (all_places a.modules is names)) (first_of classes k) []
    name_of_class k lt =
        let many = length-map classes.firsts (λ (first : ℕ). slice_index_or (all_places a.modules is names) first nothing) in
        let first = first_in k lt in
        let all = length-map (all_places a.modules is names) (λ (c : Coloured). c.name) in
        get_or-map (λ (c : Coloured). c.name) flat_places k nothing [] (omega (arith, lt, many))
        ∙ ap (λ (c : Coloured). c.name) (get_or-map (λ (first : ℕ). slice_index_or (all_places a.modules is names) first nothing) classes.firsts k 0 nothing lt)
        ∙ sym (get_or-map (λ (c : Coloured). c.name) (all_places a.modules is names) (first_of classes k) nothing [] (omega (arith, first, all)))

    one_class : (k l : ℕ) → k < length classes.firsts → l < length classes.firsts → first_of classes k ≡ first_of classes l → k ≡ l
    one_class k l in_k in_l same =
        elim (cases_order k l) [
          | inl e ↦ e
          | inr apart ↦ elim apart [
            | inl before ↦ let rise = compound.in_order.rise k l before in_l in absurd (omega (arith, rise, same))
            | inr after ↦ let rise = compound.in_order.rise l k after in_k in absurd (omega (arith, rise, same))
          ]
        ]

    classes_told : TellsPositions (names_of_places flat_places)
    classes_told k l in_k in_l same =
        let first : k < length classes.firsts = let e = as_many_classes in omega (arith, in_k, e) in
        let second : l < length classes.firsts = let e = as_many_classes in omega (arith, in_l, e) in
        one_class k l first second (places_told (first_of classes k) (first_of classes l) (first_in k first) (first_in l second) (sym (name_of_class k first) ∙ same ∙ name_of_class l second))

    class_path : (k : ℕ) → k < length (names_of_places flat_places) → IsPath (slice_index_or (names_of_places flat_places) k [])
    class_path k in_k =
        let first : k < length classes.firsts = let e = as_many_classes in omega (arith, in_k, e) in
        subst IsPath (sym (name_of_class k first)) (places_paths (first_of classes k) (first_in k first))

    -- ---- the flat net

    flat_distinct : HasDistinctNames (flat_net a is names classes)
    flat_distinct = record {
      places = distinct_from_positions (names_of_places flat_places) classes_told;
      transitions = transitions_distinct;
      variables = has.distinct.variables;
      constants = has.distinct.constants;
      constructors = has.distinct.constructors;
    }

    flat_spelled : HasWellSpelledNames (flat_net a is names classes)
    flat_spelled = record {
      places = (paths_all (names_of_places flat_places) class_path).spelled;
      transitions = transitions_paths.spelled;
      variables = has.spelled.variables;
      constants = has.spelled.constants;
      constructors = has.spelled.constructors;
    }

    flat_flat : HasFlatNames (flat_net a is names classes)
    flat_flat = record { places = (paths_all (names_of_places flat_places) class_path).flat; transitions = transitions_paths.flat }

-- ---- what is meant

-- A net whose names are distinct and well spelled, those of places and transitions flattened names, and whose integers have 64 bits.
pub record IsWellWritten (n : PlainNet) : Type 0 where
  pub distinct : HasDistinctNames n
  pub spelled : HasWellSpelledNames n
  pub flat : HasFlatNames n
  pub short : HasShortIntegers n

pub unfolded_is : (a : PlainAccepted) (reading : Reading (List PlainInstance)) (is : List PlainInstance) → IsUnfoldedAs a.hierarchy reading → reading ≡ read is → IsUnfolded a.hierarchy is
unfolded_is a reading is (unfolded made made_so) e = subst (IsUnfolded a.hierarchy) (same_read made is e) made_so
unfolded_is a reading is (not_unfolded refusal refused_so) e = cc

-- The flat net that is meant is well written.
pub well_written : (d : RawDocument) (a : PlainAccepted) (loaded : PlainLoaded) → AreWellNamed d → HasItsNames d a → HasShortParts a → IsWellAccepted a → flat_in d a (read loaded) → IsWellWritten loaded.net
unfolding flat_in
well_written d a loaded well_named has short well h =
    let is = step_parts (IsUnfoldedAs a.hierarchy) _ loaded h in
    let names = step_parts (such_that (AreInstanceNames d is.0)) _ loaded is.2 in
    let classes = step_parts (such_that (AreCompound a.hierarchy is.0)) _ loaded names.2 in
    let marking = step_parts (started (flat_net a is.0 names.0 classes.0) (all_written a.modules is.0 classes.0)) _ loaded classes.2 in
    let are = such_holds (AreInstanceNames d is.0) names.0 names.1 in
    let compound = such_holds (AreCompound a.hierarchy is.0) classes.0 classes.1 in
    let made = unfolded_is a (read is.0) is.0 is.1 refl in
    subst (λ (x : PlainLoaded). IsWellWritten x.net) (sym (same_read loaded (record { net = flat_net a is.0 names.0 classes.0; initial = marking.0; declared = a.declared; monitors = d.monitors; phases = d.phases }) marking.2))
    (record {
      distinct = flat_distinct d a well_named has well is.0 made names.0 are classes.0 compound;
      spelled = flat_spelled d a well_named has well is.0 made names.0 are classes.0 compound;
      flat = flat_flat d a well_named has well is.0 made names.0 are classes.0 compound;
      short = flat_short a short well is.0 names.0 classes.0 compound made;
    })
