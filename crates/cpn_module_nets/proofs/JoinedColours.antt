-- Places that are one place are of one colour set, where the rules of modules are kept.
use Rattle.std.proofs.Common.{◌≡◌, ℕ, ◌+◌, ◌<◌, ◌||◌, Bool, true, false, List, [], ◌∷◌, length, slice_index_or, refl, sym, ap, ◌∙◌, subst}
use Rattle.std.specs.Prelude.{Some, All, Contains}
use Rattle.std.specs.List.{AllByRecursion}
use Rattle.std.specs.Str.{bytes_eq}
use Rattle.std.proofs.lemmas.List.{length-map}
use Rattle.std.proofs.lemmas.Slice.Eq.{bytes_eq-Decides}
use Rattle.std.proofs.Math.Nat.{zero-add}
use Rattle.cpn_definitions.specs.Colour.{PlainColour}
use Rattle.cpn_definitions.specs.Net.{Coloured, nothing}
use Rattle.cpn_definitions.proofs.RisingLists.{IsIn, in_from_contains, of_one_in, each_implied}
use Rattle.cpn_document.specs.Document.{RawPlace, RawDocument, at_assignment, at_member}
use Rattle.cpn_document.specs.declared.pointers.AssignmentPart.TheVariants as of_assignment
use Rattle.cpn_document.specs.declared.pointers.MemberPart.TheVariants as of_member
use Rattle.cpn_readings.specs.Rules.{each_item}
use Rattle.cpn_readings.specs.ItemByItem.{EachIs}
use Rattle.cpn_readings.proofs.Readings.{same_read, steps}
use Rattle.cpn_same.specs.SameColours.{colours_decide}
use Rattle.cpn_module.specs.Colours.{are_one_colour, colours_agree}
use Rattle.cpn_module.specs.Hierarchy.{PlainAssignment, PlainSubstitution, PlainStructure, PlainMember, PlainHierarchy, no_structure, no_substitution, places_in, structure_at, substitution_at}
use Rattle.cpn_module.specs.Refusals.{colour_differs}
use Rattle.cpn_module.specs.ModuleRules.{Rule, rule, each_assigned, each_fused, colour_name, agrees_with_first, colour_rules, relation_rules}
use Rattle.cpn_module.specs.Named.{no_place, structure_in}
use Rattle.cpn_module.specs.Ranges.{IsAssignment, IsSubstitution, IsMember, HasItsNumbers}
use Rattle.cpn_module_trees.specs.Trees.{PlaceTrees, DocumentTrees, ArePlaceTrees, AreTrees}
use Rattle.cpn_typing.specs.Names.{Name, Declared, colour_named, unknown}
use Rattle.cpn_typing.specs.Declarations.{colour_of}
use Rattle.cpn_typing.proofs.Consistent.{required_is}
use Rattle.cpn_accepted.specs.AsWritten.{raw_module_at}
use Rattle.cpn_accepted.specs.Nets.{PlainAccepted, places_at, module_net_at, colour_at, colour_of_place, AgreeInColour}
use Rattle.cpn_module_nets.specs.Reading.{read, each_from}
use Rattle.cpn_module_nets.specs.Accepted.{accepted_at, net_place, places_of}
use Rattle.cpn_module_nets.specs.Fitting.{trees_at}
use Rattle.cpn_module_nets.specs.Pointers.{colour_pointer}
use Rattle.cpn_module_nets.proofs.AcceptedTexts.{accepted_is, each_from_at, no_place_trees}
use Rattle.cpn_module_nets.proofs.CheckedModules.{IsKept}
use Rattle.cpn_module_nets.proofs.KeptRules.{AreKept, both_kept, test_kept, each_with, kept_at}
use Rattle.cpn_module_nets.proofs.ListFacts.{all_below}
use Rattle.cpn_module_nets.proofs.ModuleParts.{each_is_at, each_is_long, all_recursive, structure_is, trees_are, as_many_trees, places_read}

-- ---- colour sets by their names

-- names that agree name one colour set
agreed : (ds : Declared) (name other : Name) (c e : PlainColour) → colour_named name ds ≡ Some c → colour_named other ds ≡ Some e → colours_agree ds name other ≡ true → c ≡ e
agreed ds name other c e is is_too h = by (bytes_eq name other) refl h
  where
    by : (b : Bool) → bytes_eq name other ≡ b → (b || are_one_colour (colour_named name ds) (colour_named other ds)) ≡ true → c ≡ e
    by true same k = let one : name ≡ other = (bytes_eq-Decides name other).0 same in let two : Some c ≡ Some e = sym is ∙ ap (λ n. colour_named n ds) one ∙ is_too in cc
    by false same k =
        let equal : are_one_colour (Some c) (Some e) ≡ true = subst (λ o. are_one_colour (Some c) o ≡ true) is_too (subst (λ o. are_one_colour o (colour_named other ds) ≡ true) is k) in
        (colours_decide c e).0 equal

placed : (ds : Declared) (m i : ℕ) (place : PlaceTrees) (made : Coloured) → net_place ds m i place ≡ read made → colour_named place.colour ds ≡ Some made.colour
unfolding net_place
placed ds m i place made h =
    let colour = steps _ (accepted_at (colour_pointer m i) (colour_of ds place.colour)) made h in
    let is = accepted_is (colour_pointer m i) (colour_of ds place.colour) colour.0 colour.1 in
    required_is (colour_named place.colour ds) (unknown place.colour) colour.0 is ∙ ap (λ (x : Coloured). Some x.colour) (same_read (record { name = place.name; colour = colour.0 }) made colour.2)

module _ (ds : Declared) (d : RawDocument) (trees : DocumentTrees) (are : AreTrees d trees) (places : List (List Coloured)) (places_are : each_from (places_of ds) 0 trees.modules ≡ read places) where
  -- the colour set of a place of a module is that of its name in the document
  named_colour : (m p : ℕ) → m < length d.modules → p < length (raw_module_at d m).places → colour_named (colour_name d m p) ds ≡ Some (colour_at (places_at places m) p)
  named_colour m p within lt =
      let tree = trees_at trees.modules m in
      let here : m < length trees.modules = subst (λ k. m < k) (sym (as_many_trees ds d trees are)) within in
      let each = (trees_are ds d trees are m within).places in
      let long = longer (raw_module_at d m).places tree.places each in
      let made : net_place ds m (0 + p) (slice_index_or tree.places p no_place_trees) ≡ read (slice_index_or (places_at places m) p nothing) =
      each_from_at (net_place ds m) 0 tree.places (places_at places m) p no_place_trees nothing (places_read ds d trees are places places_are m here) (subst (λ k. p < k) (sym long) lt) in
      let tree_is = each_is_at ArePlaceTrees (raw_module_at d m).places tree.places p no_place no_place_trees each lt in
      subst (λ n. colour_named n ds ≡ Some (colour_at (places_at places m) p)) tree_is.colour (placed ds m (0 + p) (slice_index_or tree.places p no_place_trees) (slice_index_or (places_at places m) p nothing) made)
    where
      longer : (raws : List RawPlace) (ts : List PlaceTrees) → EachIs ArePlaceTrees raws ts → length ts ≡ length raws
      longer raws ts h = each_is_long ArePlaceTrees raws ts h

  module _ (accepted : PlainAccepted) (checked : IsKept ds d accepted.hierarchy) (numbers : HasItsNumbers accepted.hierarchy) (have : (m : ℕ) → m < length accepted.hierarchy.modules → (module_net_at accepted m).places ≡ places_at places m) where
    abbrev h : PlainHierarchy
    h = accepted.hierarchy

    many_modules : length h.modules ≡ length d.modules
    many_modules = ap (λ (x : PlainHierarchy). length x.modules) checked.is ∙ length-map d.modules (structure_in d)

    many_places : (m : ℕ) → m < length d.modules → places_in (structure_at h m) ≡ length (raw_module_at d m).places
    many_places m lt = ap (λ (x : PlainHierarchy). places_in (structure_at x m)) checked.is ∙ ap places_in (structure_is d m lt) ∙ length-map (raw_module_at d m).places (λ (p : RawPlace). p.port)

    -- places whose names of colour sets agree
    one_colour : (m p n q : ℕ) → m < length h.modules → p < places_in (structure_at h m) → n < length h.modules → q < places_in (structure_at h n) → colours_agree ds (colour_name d m p) (colour_name d n q) ≡ true → colour_of_place accepted m p ≡ colour_of_place accepted n q
    one_colour m p n q in_m in_p in_n in_q agree =
        let m_lt : m < length d.modules = subst (λ k. m < k) many_modules in_m in
        let n_lt : n < length d.modules = subst (λ k. n < k) many_modules in_n in
        let here = named_colour m p m_lt (subst (λ k. p < k) (many_places m m_lt) in_p) in
        let there = named_colour n q n_lt (subst (λ k. q < k) (many_places n n_lt) in_q) in
        ap (λ (ps : List Coloured). colour_at ps p) (have m in_m)
        ∙ agreed ds (colour_name d m p) (colour_name d n q) (colour_at (places_at places m) p) (colour_at (places_at places n) q) here there agree
        ∙ sym (ap (λ (ps : List Coloured). colour_at ps q) (have n in_n))

    rules_kept : AreKept (colour_rules ds d h)
    unfolding relation_rules
    rules_kept =
        let related = subst (λ g. AreKept (relation_rules ds d g)) (sym checked.is) checked.related in
        (both_kept _ _ (both_kept _ _ (both_kept _ _ (both_kept _ _ related).0).0).0).1

    -- ---- sockets and ports

    abbrev IsAlike : ℕ → ℕ → PlainAssignment → Type 0
    IsAlike m submodule a = colour_of_place accepted m a.socket ≡ colour_of_place accepted submodule a.port

    abbrev HasAlike : ℕ → PlainSubstitution → Type 0
    HasAlike m sub = AllByRecursion (IsAlike m sub.submodule) sub.assignments

    -- the rules of the assignments of a substitution transition
    abbrev assignment_rules : ℕ → ℕ → PlainSubstitution → List Rule
    assignment_rules m i sub = each_item (λ k (a : PlainAssignment). rule (colours_agree ds (colour_name d m a.socket) (colour_name d sub.submodule a.port)) (colour_differs (at_assignment m i k of_assignment.Whole))) 0 sub.assignments

    module_alike : (m : ℕ) (s : PlainStructure) → m < length h.modules → s ≡ structure_at h m → AllByRecursion (IsSubstitution h s) s.substitutions → AreKept (each_item (assignment_rules m) 0 s.substitutions) → AllByRecursion (HasAlike m) s.substitutions
    module_alike m s within is numbered kept =
        each_with _ (IsSubstitution h s) (HasAlike m)
        (λ i sub there sub_kept. each_with _ (IsAssignment s (structure_at h sub.submodule)) (IsAlike m sub.submodule)
        (λ k a known a_kept. one_colour m a.socket sub.submodule a.port within (subst (λ (x : PlainStructure). a.socket < places_in x) is known.socket) there.submodule known.port (test_kept _ _ a_kept))
        0 sub.assignments (all_recursive (IsAssignment s (structure_at h sub.submodule)) sub.assignments there.assignments) sub_kept)
        0 s.substitutions numbered kept

    sockets : (m i : ℕ) → m < length h.modules → i < length (structure_at h m).substitutions → (a : PlainAssignment) → Contains (substitution_at h m i).assignments a → IsAlike m (substitution_at h m i).submodule a
    unfolding colour_rules each_assigned
    sockets m i within lt a is =
        let kept = subst (λ k. AreKept (each_item (assignment_rules k) 0 (structure_at h m).substitutions)) (zero-add m) (kept_at _ 0 h.modules m no_structure (both_kept _ _ rules_kept).0 within) in
        let subs = all_recursive (IsSubstitution h (structure_at h m)) (structure_at h m).substitutions (numbers.modules m no_structure within).substitutions in
        let alike = all_below (HasAlike m) no_substitution (structure_at h m).substitutions i lt (module_alike m (structure_at h m) within refl subs kept) in
        of_one_in (IsAlike m (substitution_at h m i).submodule) (substitution_at h m i).assignments a alike (in_from_contains (substitution_at h m i).assignments a is)

    -- ---- members of fusion sets

    abbrev AreOne : PlainMember → PlainMember → Type 0
    AreOne x y = colour_of_place accepted x.of_module x.place ≡ colour_of_place accepted y.of_module y.place

    abbrev AllOne : List PlainMember → Type 0
    AllOne members = (x y : PlainMember) → IsIn x members → IsIn y members → AreOne x y

    members_alike : (f : ℕ) (members : List PlainMember) → AllByRecursion (IsMember h) members → AreKept (each_item (λ k (member : PlainMember). rule (agrees_with_first ds d member members) (colour_differs (at_member f k of_member.Whole))) 0 members) → AllOne members
    members_alike f [] numbered kept x y in_x in_y = absurd in_x
    members_alike f (first ∷ rest) numbered kept x y in_x in_y =
        let all = each_with _ (IsMember h) (AreOne first) (λ k member known k_kept. one_colour first.of_module first.place member.of_module member.place numbered.0.of_module numbered.0.place known.of_module known.place (test_kept _ _ k_kept)) 0 (first ∷ rest) numbered kept in
        sym (of_one_in (AreOne first) (first ∷ rest) x all in_x) ∙ of_one_in (AreOne first) (first ∷ rest) y all in_y

    fused : AllByRecursion AllOne h.fusions
    unfolding colour_rules each_fused
    fused =
        each_with _ (λ members. AllByRecursion (IsMember h) members) AllOne (λ f members known kept. members_alike f members known kept) 0 h.fusions
        (each_implied (All (IsMember h)) (λ members. AllByRecursion (IsMember h) members) h.fusions (λ members all. all_recursive (IsMember h) members all) (all_recursive (All (IsMember h)) h.fusions numbers.fusions))
        (both_kept _ _ rules_kept).1

    -- Joined places have one colour set.
    pub agree_in_colour : AgreeInColour accepted
    agree_in_colour = record {
      sockets = sockets;
      members = λ fusion is x y is_x is_y. of_one_in AllOne h.fusions fusion fused (in_from_contains h.fusions fusion is) x y (in_from_contains fusion x is_x) (in_from_contains fusion y is_y);
    }
