-- What is accepted has the names that the document writes, its integers have 64 bits, and it declares no more variables than its texts have
-- room for.
use Rattle.std.proofs.Common.{◌≡◌, ℕ, suc, ◌<◌, ◌≤◌, ◌*◌, true, List, [], ◌∷◌, length, map, slice_index_or, refl, sym, ap, ap₂, ◌∙◌, subst}
use Rattle.std.proofs.Math.Nat.{zero-add}
use Rattle.std.specs.List.{AllByRecursion, IsDistinct, list_all}
use Rattle.std.proofs.lemmas.Bool.{and_from}
use Rattle.std.proofs.lemmas.List.Elements.{All-from_recursion}
use Rattle.std.proofs.lemmas.List.Sums.{list_all-from_AllPass}
use Rattle.cpn_definitions.specs.DistinctNames.{is_word, HasDistinctNames, HasWellSpelledNames}
use Rattle.cpn_definitions.specs.Integers.{is_short, HasShortIntegers}
use Rattle.cpn_definitions.specs.Net.{PlainTransition, Coloured}
use Rattle.cpn_document.specs.Document.{RawPlace, RawTransition, RawModule, RawDocument}
use Rattle.cpn_module.specs.Checked.{IsChecked}
use Rattle.cpn_module.specs.Hierarchy.{PlainStructure, PlainHierarchy, structure_at}
use Rattle.cpn_module.specs.Named.{hierarchy_in, place_names, transition_names}
use Rattle.cpn_module_trees.specs.Parsing.{most_bytes}
use Rattle.cpn_module_trees.specs.Trees.{PlaceTrees, TransitionTrees, ModuleTrees, DocumentTrees, AreTrees, ArePlaceTrees, AreTransitionTrees, AreModuleTrees}
use Rattle.cpn_readings.specs.ItemByItem.{EachIs}
use Rattle.cpn_readings.specs.Relations.{just, such_that, refused_by}
use Rattle.cpn_readings.proofs.Readings.{same_read, steps}
use Rattle.cpn_readings.proofs.RelatedReadings.{step_parts, such_holds}
use Rattle.cpn_typing.specs.Names.{Name, Declared, nothing_declared}
use Rattle.cpn_typing.specs.Declarations.{colour_of}
use Rattle.cpn_typing.proofs.DistinctDeclared.{AreNamed, names_of_variables, names_of_constructors}
use Rattle.cpn_typing.proofs.ShortDeclared.{IsShortColoured, DeclaresShort, colour_short}
use Rattle.cpn_accepted.specs.Completed.{IsCompleted}
use Rattle.cpn_accepted.specs.AsWritten.{raw_module_at, names_of_places, names_of_transitions, net_of_declared, HasItsNames, HasShortParts}
use Rattle.cpn_accepted.specs.Nets.{PlainModuleNet, PlainAccepted, places_at, no_module_net}
use Rattle.cpn_module_nets.specs.Reading.{Reading, read, of_modules, each_from}
use Rattle.cpn_module_nets.specs.Accepted.{accepted_at, guard_at, delay_at, declared_from, net_place, places_of, bare_transition, Sides, joined_from}
use Rattle.cpn_module_nets.specs.Documents.{net_so, nets_so, accepted_in}
use Rattle.cpn_module_nets.specs.Fitting.{no_trees, trees_at}
use Rattle.cpn_module_nets.specs.Pointers.{colour_pointer, guard_pointer, delay_pointer}
use Rattle.cpn_module_nets.proofs.AcceptedTexts.{each_from_all, accepted_is}
use Rattle.cpn_module_nets.proofs.CheckedModules.{kept}
use Rattle.cpn_module_nets.proofs.DeclaredNames.{IsWord, IsDeclaredWell, all_well}
use Rattle.cpn_module_nets.proofs.ModuleParts.{as_many_trees, trees_are, places_read}
use Rattle.cpn_module_nets.proofs.WellAccepted.{so_long, so_at, checked_read}
use Rattle.cpn_module_nets.proofs.WellNets.{net_parts}

-- What is accepted of a document is as the document writes it: it has its names, its integers have 64 bits, and what is declared has no
-- more variables than the texts have room for.
pub record IsAsWritten (d : RawDocument) (a : PlainAccepted) : Type 0 where
  pub names : HasItsNames d a
  pub short : HasShortParts a
  pub few_variables : length a.declared.variables ≤ most_bytes * length d.declarations

-- ---- lists

-- what is read item by item has the names that the items have
names_read : {A B : Type 0} (f : ℕ → A → Reading B) (written : A → List ℕ) (name : B → List ℕ) → ((i : ℕ) (x : A) (y : B) → f i x ≡ read y → name y ≡ written x)
    → (i : ℕ) (xs : List A) (ys : List B) → each_from f i xs ≡ read ys → map name ys ≡ map written xs
unfolding each_from
names_read f written name same i [] ys h = ap (map name) (sym (same_read [] ys h))
names_read f written name same i (x ∷ xs) ys h =
    let first = steps _ (f i x) ys h in
    let rest = steps _ (each_from f (suc i) xs) ys first.2 in
    ap (map name) (sym (same_read (first.0 ∷ rest.0) ys rest.2)) ∙ ap₂ (λ (n : List ℕ) (ns : List (List ℕ)). n ∷ ns) (same i x first.0 first.1) (names_read f written name same (suc i) xs rest.0 rest.1)

names_correspond : {A B : Type 0} (Is : A → B → Type 0) (written : A → List ℕ) (name : B → List ℕ) → ((x : A) (y : B) → Is x y → name y ≡ written x) → (xs : List A) (ys : List B) → EachIs Is xs ys → map name ys ≡ map written xs
names_correspond Is written name same [] [] are = refl
names_correspond Is written name same [] (y ∷ ys) are = absurd are
names_correspond Is written name same (x ∷ xs) [] are = absurd are
names_correspond Is written name same (x ∷ xs) (y ∷ ys) are = ap₂ (λ (n : List ℕ) (ns : List (List ℕ)). n ∷ ns) (same x y are.0) (names_correspond Is written name same xs ys are.1)

-- ---- places

place_name : (ds : Declared) (m i : ℕ) (place : PlaceTrees) (made : Coloured) → net_place ds m i place ≡ read made → made.name ≡ place.name
unfolding net_place
place_name ds m i place made h =
    let colour = steps _ (accepted_at (colour_pointer m i) (colour_of ds place.colour)) made h in
    ap (λ (c : Coloured). c.name) (sym (same_read _ made colour.2))

places_have : (ds : Declared) (m : ℕ) (raw : RawModule) (trees : ModuleTrees) (places : List Coloured) → AreModuleTrees raw trees → each_from (net_place ds m) 0 trees.places ≡ read places → names_of_places places ≡ place_names raw
places_have ds m raw trees places are h =
    names_read (net_place ds m) (λ (t : PlaceTrees). t.name) (λ (c : Coloured). c.name) (place_name ds m) 0 trees.places places h
    ∙ names_correspond ArePlaceTrees (λ (p : RawPlace). p.name) (λ (t : PlaceTrees). t.name) (λ p t is. is.name) raw.places trees.places are.places

place_short : (ds : Declared) → DeclaresShort ds → (m i : ℕ) (place : PlaceTrees) (made : Coloured) → net_place ds m i place ≡ read made → IsShortColoured made
unfolding net_place
place_short ds short m i place made h =
    let colour = steps _ (accepted_at (colour_pointer m i) (colour_of ds place.colour)) made h in
    subst IsShortColoured (same_read _ made colour.2) (colour_short ds short place.colour colour.0 (accepted_is (colour_pointer m i) (colour_of ds place.colour) colour.0 colour.1))

-- ---- transitions

bare_name : (ds : Declared) (m i : ℕ) (transition : TransitionTrees) (made : PlainTransition) → bare_transition ds m i transition ≡ read made → made.name ≡ transition.name
unfolding bare_transition
bare_name ds m i transition made h =
    let guard = steps _ (guard_at ds (guard_pointer m i) transition.guard) made h in
    let delay = steps _ (delay_at ds (delay_pointer m i) transition.delay) made guard.2 in
    ap (λ (t : PlainTransition). t.name) (sym (same_read _ made delay.2))

joined_names : (t : ℕ) (xs : List PlainTransition) (arcs : List Sides) → names_of_transitions (joined_from t xs arcs) ≡ names_of_transitions xs
joined_names t [] arcs = refl
joined_names t (x ∷ xs) arcs = ap (λ (ns : List (List ℕ)). x.name ∷ ns) (joined_names (suc t) xs arcs)

completed_name : (bare t : PlainTransition) → IsCompleted bare t → t.name ≡ bare.name
completed_name bare t is = ap (λ (u : PlainTransition). u.name) is.same

transitions_have : (ds : Declared) (places : List Coloured) (m : ℕ) (s : PlainStructure) (raw : RawModule) (trees : ModuleTrees) (net : PlainModuleNet) → AreModuleTrees raw trees → net_so ds places m s trees (read net)
    → names_of_transitions net.transitions ≡ transition_names raw
transitions_have ds places m s raw trees net are h =
    let parts = net_parts ds places m s trees net h in
    let its = parts.parts in
    ap (λ (x : PlainModuleNet). names_of_transitions x.transitions) parts.is
    ∙ names_correspond IsCompleted (λ (t : PlainTransition). t.name) (λ (t : PlainTransition). t.name) completed_name (joined_from 0 its.bares its.arcs) parts.ts its.completed
    ∙ joined_names 0 its.bares its.arcs
    ∙ names_read (bare_transition ds m) (λ (t : TransitionTrees). t.name) (λ (t : PlainTransition). t.name) (bare_name ds m) 0 trees.transitions its.bares its.bares_are
    ∙ names_correspond AreTransitionTrees (λ (t : RawTransition). t.name) (λ (t : TransitionTrees). t.name) (λ p t is. is.name) raw.transitions trees.transitions are.transitions

net_places : (ds : Declared) (places : List Coloured) (m : ℕ) (s : PlainStructure) (trees : ModuleTrees) (net : PlainModuleNet) → net_so ds places m s trees (read net) → net.places ≡ places
net_places ds places m s trees net h = let parts = net_parts ds places m s trees net h in ap (λ (x : PlainModuleNet). x.places) parts.is

-- ---- what is declared

words_all : (xs : List Name) → AllByRecursion IsWord xs → list_all is_word xs ≡ true
words_all [] all = refl
words_all (x ∷ xs) all = and_from (is_word x) (list_all is_word xs) all.0 (words_all xs all.1)

lists_all : (xs : List (List Name)) → AllByRecursion (AllByRecursion IsWord) xs → list_all (list_all is_word) xs ≡ true
lists_all [] all = refl
lists_all (x ∷ xs) all = and_from (list_all is_word x) (list_all (list_all is_word) xs) (words_all x all.0) (lists_all xs all.1)

declared_distinct : (ds : Declared) → AreNamed IsWord ds → HasDistinctNames (net_of_declared ds)
unfolding IsDistinct
declared_distinct ds named = record { places = tt; transitions = tt; variables = named.variables; constants = named.constants; constructors = named.constructors }

declared_spelled : (ds : Declared) → AreNamed IsWord ds → HasWellSpelledNames (net_of_declared ds)
declared_spelled ds named = record {
  places = refl;
  transitions = refl;
  variables = words_all (names_of_variables ds.variables) named.of_variables;
  constants = lists_all ds.enumerations named.of_constants;
  constructors = lists_all (map names_of_constructors ds.unions) named.of_constructors;
}

declared_short : (ds : Declared) → DeclaresShort ds → HasShortIntegers (net_of_declared ds)
declared_short ds short = record {
  places_short = refl;
  variables_short = list_all-from_AllPass is_short ds.variables (All-from_recursion IsShortColoured ds.variables short.variables);
}

-- ---- the document

module _ (ds : Declared) (d : RawDocument) (trees : DocumentTrees) (are : AreTrees d trees) (ds_is : declared_from 0 nothing_declared trees.declarations ≡ read ds) (places : List (List Coloured)) (places_are : each_from (places_of ds) 0 trees.modules ≡ read places) where
  declared_well : IsDeclaredWell (most_bytes * length d.declarations) ds
  declared_well = all_well d.declarations trees.declarations ds are.declarations ds_is

  module _ (h : PlainHierarchy) (is : h ≡ hierarchy_in d) (nets : List PlainModuleNet) (nets_are : nets_so ds places h trees.modules (read nets)) where
    below : (m : ℕ) → m < length d.modules → m < length trees.modules
    below m lt = subst (λ (k : ℕ). m < k) (sym (as_many_trees ds d trees are)) lt

    net_read : (m : ℕ) → m < length trees.modules → net_so ds (places_at places m) m (structure_at h m) (trees_at trees.modules m) (read (slice_index_or nets m no_module_net))
    unfolding nets_so
    net_read m lt =
        let at = so_at (λ m. net_so ds (places_at places m) m (structure_at h m)) 0 trees.modules nets m no_trees no_module_net nets_are lt in
        subst (λ k. net_so ds (places_at places k) k (structure_at h k) (trees_at trees.modules m) (read (slice_index_or nets m no_module_net))) (zero-add m) at

    own_places : (m : ℕ) → m < length trees.modules → (slice_index_or nets m no_module_net).places ≡ places_at places m
    own_places m lt = net_places ds (places_at places m) m (structure_at h m) (trees_at trees.modules m) (slice_index_or nets m no_module_net) (net_read m lt)

    many_nets : length nets ≡ length trees.modules
    unfolding nets_so
    many_nets = so_long (λ m. net_so ds (places_at places m) m (structure_at h m)) 0 trees.modules nets nets_are

    all_have : HasItsNames d (record { declared = ds; hierarchy = h; modules = nets })
    all_have = record {
      hierarchy = is;
      many = many_nets ∙ as_many_trees ds d trees are;
      places = λ m lt. ap names_of_places (own_places m (below m lt))
          ∙ places_have ds m (raw_module_at d m) (trees_at trees.modules m) (places_at places m) (trees_are ds d trees are m lt) (places_read ds d trees are places places_are m (below m lt));
      transitions = λ m lt. transitions_have ds (places_at places m) m (structure_at h m) (raw_module_at d m) (trees_at trees.modules m) (slice_index_or nets m no_module_net) (trees_are ds d trees are m lt) (net_read m (below m lt));
      distinct = declared_distinct ds declared_well.named;
      spelled = declared_spelled ds declared_well.named;
    }

    places_short : (m : ℕ) → m < length trees.modules → AllByRecursion IsShortColoured (slice_index_or nets m no_module_net).places
    places_short m lt = subst (AllByRecursion IsShortColoured) (sym (own_places m lt))
        (each_from_all (net_place ds m) IsShortColoured (place_short ds declared_well.short m) 0 (trees_at trees.modules m).places (places_at places m) (places_read ds d trees are places places_are m lt))

    all_short : HasShortParts (record { declared = ds; hierarchy = h; modules = nets })
    all_short = record {
      declared = declared_short ds declared_well.short;
      places = λ m lt. places_short m (subst (λ (k : ℕ). m < k) many_nets lt);
    }

    all_written : IsAsWritten d (record { declared = ds; hierarchy = h; modules = nets })
    all_written = record { names = all_have; short = all_short; few_variables = declared_well.few }

-- The law.
pub accepted_as_written : (d : RawDocument) (a : PlainAccepted) → accepted_in d (read a) → IsAsWritten d a
unfolding accepted_in
accepted_as_written d a h =
    let trees = step_parts (such_that (AreTrees d)) _ a h in
    let ds = step_parts (just (declared_from 0 nothing_declared trees.0.declarations)) _ a trees.2 in
    let places = step_parts (just (each_from (places_of ds.0) 0 trees.0.modules)) _ a ds.2 in
    let hierarchy = step_parts (refused_by of_modules (IsChecked ds.0 d)) _ a places.2 in
    let nets = step_parts (nets_so ds.0 places.0 hierarchy.0 trees.0.modules) _ a hierarchy.2 in
    let are = such_holds (AreTrees d) trees.0 trees.1 in
    let checked = kept ds.0 d hierarchy.0 (checked_read of_modules (IsChecked ds.0 d) hierarchy.0 hierarchy.1) in
    subst (IsAsWritten d) (sym (same_read a (record { declared = ds.0; hierarchy = hierarchy.0; modules = nets.0 }) nets.2))
    (all_written ds.0 d trees.0 are (sym ds.1) places.0 (sym places.1) hierarchy.0 checked.is nets.0 nets.1)
