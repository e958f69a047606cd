-- Where the rules of documents are kept, things in one list have names, no two of them the same, nor have a transition and a
-- substitution transition of a module one name; and there are few declarations.
use Rattle.std.proofs.Common.{◌≡◌, ℕ, suc, ◌≤◌, Bool, true, false, not, ◌||◌, List, [], ◌∷◌, ◌++◌, map, refl, sym, ◌∙◌, subst, leb-true}
use Rattle.std.specs.Prelude.{None, codes}
use Rattle.std.specs.List.{AllByRecursion, IsDistinct, list_all, list_any}
use Rattle.std.specs.Str.{bytes_eq}
use Rattle.std.proofs.lemmas.Bool.{and_from}
use Rattle.std.proofs.lemmas.List.{length-map}
use Rattle.std.proofs.lemmas.List.Folds.{list_any-append}
use Rattle.std.proofs.lemmas.Map.Keys.{IsDistinct-cons}
use Rattle.std.proofs.lemmas.Slice.Eq.{bytes_eq-Decides}
use Rattle.serde_json.specs.Data.{Data}
use Rattle.cpn_document.specs.Refusals.{FormRefusal}
use Rattle.cpn_document.specs.Rules.{Rule, first_broken}
use Rattle.cpn_document.specs.Texts.{is_name}
use Rattle.cpn_document.specs.Parts.{is_one_of, text_in, text_at, items_at, name_rules, new_name_rules, names_in, each_named}
use Rattle.cpn_document.specs.Document.{most_declarations, place_in, transition_in, sub_in, module_in, fusion_in, document_in, place_rules, each_place, places_rules, transition_rules, each_transition, transitions_rules, sub_rules, each_sub, subs_rules, module_rules, each_module, modules_rules, fusion_rules, each_fusion, fusions_rules, declarations_rules, document_rules}
use Rattle.cpn_document.specs.Monitors.{monitor_in, monitor_rules, each_monitor, monitors_rules}
use Rattle.cpn_document.specs.WellNamed.{AreNames, IsWellNamed, AreWellNamed, HasFewDeclarations}
use Rattle.cpn_document.specs.declared.pointers.Pointer.{Pointer}
use Rattle.cpn_document.proofs.BrokenRules.{broken_append}
use Rattle.cpn_document.proofs.FewArcs.{none_parts, limit_kept}

-- ---- names that differ

apart_both : (x y : List ℕ) → bytes_eq x y ≡ false → bytes_eq y x ≡ false
apart_both x y h = by (bytes_eq y x) refl
  where
    by : (b : Bool) → bytes_eq y x ≡ b → b ≡ false
    by false e = refl
    by true e = let same = (bytes_eq-Decides y x).0 e in let again = (bytes_eq-Decides x y).1 (sym same) in cc

or_false : (a b : Bool) → (a || b) ≡ false → (a ≡ false) × (b ≡ false)
or_false false b h = (refl, h)
or_false true b h = cc

-- a name that none of these and not this one is
not_among : (y x : List ℕ) (earlier : List (List ℕ)) → is_one_of y (earlier ++ x ∷ []) ≡ false → (is_one_of y earlier ≡ false) × (bytes_eq y x ≡ false)
not_among y x earlier h =
    let parts = or_false (list_any (bytes_eq y) earlier) (list_any (bytes_eq y) (x ∷ [])) (sym (list_any-append (bytes_eq y) earlier (x ∷ [])) ∙ h) in
    (parts.0, (or_false (bytes_eq y x) false parts.1).0)

-- ---- a list of things that have new names

-- a name, and none of those before it
record IsNew (earlier : List (List ℕ)) (name : List ℕ) : Type 0 where
  pub formed : is_name name ≡ true
  pub new : is_one_of name earlier ≡ false

not_is : (b : Bool) → not b ≡ true → b ≡ false
not_is false h = refl
not_is true h = cc

pub one_kept : (kept : Bool) (refusal : FormRefusal) → first_broken (record { kept = kept; refusal = refusal } ∷ []) ≡ None → kept ≡ true
unfolding first_broken
one_kept true refusal h = refl
one_kept false refusal h = cc

new_kept : (key : List ℕ) (whole here : Pointer) (earlier : List (List ℕ)) (d : Data) → first_broken (new_name_rules key whole here earlier d) ≡ None → IsNew earlier (text_at key d)
unfolding new_name_rules name_rules
new_kept key whole here earlier d h =
    let k = none_parts _ _ (simp broken_append at h) in
    record { formed = one_kept _ _ (none_parts _ _ k.0).1; new = not_is _ (one_kept _ _ k.1) }

-- names of a list that are none of those before it
record AreNew (earlier names : List (List ℕ)) : Type 0 where
  pub formed : list_all is_name names ≡ true
  pub new : AllByRecursion (λ name. is_one_of name earlier ≡ false) names
  pub distinct : IsDistinct bytes_eq names

still_new : (x : List ℕ) (earlier names : List (List ℕ)) → AllByRecursion (λ name. is_one_of name (earlier ++ x ∷ []) ≡ false) names
    → AllByRecursion (λ name. is_one_of name earlier ≡ false) names × AllByRecursion (λ name. bytes_eq x name ≡ false) names
still_new x earlier [] h = (tt, tt)
still_new x earlier (y ∷ names) h =
    let first = not_among y x earlier h.0 in
    let rest = still_new x earlier names h.1 in
    ((first.0, rest.0), (apart_both y x first.1, rest.1))

one_new : (x : List ℕ) (earlier names : List (List ℕ)) → IsNew earlier x → AreNew (earlier ++ x ∷ []) names → AreNew earlier (x ∷ names)
one_new x earlier names first rest =
    let still = still_new x earlier names rest.new in
    record { formed = and_from (is_name x) (list_all is_name names) first.formed rest.formed; new = (first.new, still.0); distinct = IsDistinct-cons bytes_eq x names still.1 rest.distinct }

no_names : (earlier : List (List ℕ)) → AreNew earlier []
unfolding IsDistinct
no_names earlier = record { formed = refl; new = tt; distinct = tt }

-- where the rules of each give a new name, all the names are new
each_new : (rules : ℕ → List (List ℕ) → Data → List Rule)
    → ((i : ℕ) (earlier : List (List ℕ)) (d : Data) → first_broken (rules i earlier d) ≡ None → IsNew earlier (text_at (codes "name") d))
    → (i : ℕ) (earlier : List (List ℕ)) (ds : List Data) → first_broken (each_named rules i earlier ds) ≡ None → AreNew earlier (names_in ds)
unfolding each_named
each_new rules new i earlier [] h = no_names earlier
each_new rules new i earlier (d ∷ ds) h =
    let k = none_parts _ _ (simp broken_append at h) in
    one_new (text_at (codes "name") d) earlier (names_in ds) (new i earlier d k.0) (each_new rules new (suc i) (earlier ++ text_at (codes "name") d ∷ []) ds k.1)

names_of : {A : Type 0} (made : Data → A) (name : A → List ℕ) → ((d : Data) → name (made d) ≡ text_at (codes "name") d) → (ds : List Data) → map name (map made ds) ≡ names_in ds
names_of made name same [] = refl
names_of made name same (d ∷ ds) = let first = same d in let rest = names_of made name same ds in cc

are_names : {A : Type 0} (made : Data → A) (name : A → List ℕ) → ((d : Data) → name (made d) ≡ text_at (codes "name") d) → (earlier : List (List ℕ)) (ds : List Data) → AreNew earlier (names_in ds) → AreNames (map name (map made ds))
are_names made name same earlier ds new = subst AreNames (sym (names_of made name same ds)) (record { formed = new.formed; distinct = new.distinct })

-- ---- places, transitions, substitution transitions

place_new : (version m i : ℕ) (earlier : List (List ℕ)) (d : Data) → first_broken (place_rules version m i earlier d) ≡ None → IsNew earlier (text_at (codes "name") d)
unfolding place_rules
place_new version m i earlier d h = let k = simp broken_append at h in new_kept _ _ _ earlier d (none_parts _ _ (none_parts _ _ (none_parts _ _ (none_parts _ _ k).0).0).0).1

transition_new : (version m i : ℕ) (earlier : List (List ℕ)) (d : Data) → first_broken (transition_rules version m i earlier d) ≡ None → IsNew earlier (text_at (codes "name") d)
unfolding transition_rules
transition_new version m i earlier d h = let k = simp broken_append at h in new_kept _ _ _ earlier d (none_parts _ _ (none_parts _ _ (none_parts _ _ k).0).0).1

sub_new : (version m i : ℕ) (earlier : List (List ℕ)) (d : Data) → first_broken (sub_rules version m i earlier d) ≡ None → IsNew earlier (text_at (codes "name") d)
unfolding sub_rules
sub_new version m i earlier d h = let k = simp broken_append at h in new_kept _ _ _ earlier d (none_parts _ _ (none_parts _ _ (none_parts _ _ (none_parts _ _ k).0).0).0).1

places_named : (version m : ℕ) (d : Data) → first_broken (places_rules version m d) ≡ None → AreNames (map (λ place. place.name) (module_in d).places)
unfolding places_rules each_place
places_named version m d h =
    let k = simp broken_append at h in
    are_names place_in (λ place. place.name) (λ e. refl) [] (items_at (codes "places") d) (each_new (place_rules version m) (place_new version m) 0 [] (items_at (codes "places") d) (none_parts _ _ k).1)

transitions_named : (version m : ℕ) (d : Data) → first_broken (transitions_rules version m d) ≡ None → AreNames (map (λ transition. transition.name) (module_in d).transitions)
unfolding transitions_rules each_transition
transitions_named version m d h =
    let k = simp broken_append at h in
    are_names transition_in (λ transition. transition.name) (λ e. refl) [] (items_at (codes "transitions") d)
    (each_new (transition_rules version m) (transition_new version m) 0 [] (items_at (codes "transitions") d) (none_parts _ _ k).1)

subs_new : (version m : ℕ) (transitions : List (List ℕ)) (d : Data) → first_broken (subs_rules version m transitions d) ≡ None → AreNew transitions (names_in (items_at (codes "subs") d))
unfolding subs_rules each_sub
subs_new version m transitions d h =
    let k = simp broken_append at h in
    each_new (sub_rules version m) (sub_new version m) 0 transitions (items_at (codes "subs") d) (none_parts _ _ k).1

-- none of them has one of these names
subs_apart : (transitions : List (List ℕ)) (ds : List Data) → AllByRecursion (λ name. is_one_of name transitions ≡ false) (names_in ds) → AllByRecursion (λ sub. is_one_of sub.name transitions ≡ false) (map sub_in ds)
subs_apart transitions [] h = tt
subs_apart transitions (d ∷ ds) h = (h.0, subs_apart transitions ds h.1)

-- ---- modules

module_named : (version m : ℕ) (earlier : List (List ℕ)) (d : Data) → first_broken (module_rules version m earlier d) ≡ None → IsWellNamed (module_in d)
unfolding module_rules
module_named version m earlier d h =
    let before_subs = none_parts _ _ (simp broken_append at h) in
    let before_arcs = none_parts _ _ before_subs.0 in
    let before_transitions = none_parts _ _ before_arcs.0 in
    let before_places = none_parts _ _ before_transitions.0 in
    let subs = subs_new version m (names_in (items_at (codes "transitions") d)) d before_subs.1 in
    record {
      places = places_named version m d before_places.1;
      transitions = transitions_named version m d before_transitions.1;
      subs = are_names sub_in (λ sub. sub.name) (λ e. refl) (names_in (items_at (codes "transitions") d)) (items_at (codes "subs") d) subs;
      apart = subst (λ (names : List (List ℕ)). AllByRecursion (λ sub. is_one_of sub.name names ≡ false) (module_in d).subs) (sym (names_of transition_in (λ transition. transition.name) (λ e. refl) (items_at (codes "transitions") d)))
          (subs_apart (names_in (items_at (codes "transitions") d)) (items_at (codes "subs") d) subs.new);
    }

module_new : (version m : ℕ) (earlier : List (List ℕ)) (d : Data) → first_broken (module_rules version m earlier d) ≡ None → IsNew earlier (text_at (codes "name") d)
unfolding module_rules
module_new version m earlier d h =
    let k = simp broken_append at h in
    new_kept _ _ _ earlier d (none_parts _ _ (none_parts _ _ (none_parts _ _ (none_parts _ _ (none_parts _ _ k).0).0).0).0).1

modules_named : (version i : ℕ) (earlier : List (List ℕ)) (ds : List Data) → first_broken (each_named (module_rules version) i earlier ds) ≡ None → AllByRecursion IsWellNamed (map module_in ds)
unfolding each_named
modules_named version i earlier [] h = tt
modules_named version i earlier (d ∷ ds) h =
    let k = none_parts _ _ (simp broken_append at h) in
    (module_named version i earlier d k.0, modules_named version (suc i) (earlier ++ text_at (codes "name") d ∷ []) ds k.1)

-- the modules of a document, and the things of each
record HasNamedModules (d : Data) : Type 0 where
  pub modules : AreNames (map (λ of_document. of_document.name) (document_in d).modules)
  pub each : AllByRecursion IsWellNamed (document_in d).modules

list_named : (version : ℕ) (d : Data) → first_broken (modules_rules version d) ≡ None → HasNamedModules d
unfolding modules_rules each_module
list_named version d h =
    let k = none_parts _ _ (simp broken_append at h) in
    record {
      modules = are_names module_in (λ of_document. of_document.name) (λ e. refl) [] (items_at (codes "modules") d) (each_new (module_rules version) (module_new version) 0 [] (items_at (codes "modules") d) k.1);
      each = modules_named version 0 [] (items_at (codes "modules") d) k.1;
    }

-- ---- fusion sets, monitors

fusion_new : (version i : ℕ) (earlier : List (List ℕ)) (d : Data) → first_broken (fusion_rules version i earlier d) ≡ None → IsNew earlier (text_at (codes "name") d)
unfolding fusion_rules
fusion_new version i earlier d h = let k = simp broken_append at h in new_kept _ _ _ earlier d (none_parts _ _ (none_parts _ _ (none_parts _ _ k).0).0).1

fusions_named : (version : ℕ) (d : Data) → first_broken (fusions_rules version d) ≡ None → AreNames (map (λ fusion. fusion.name) (document_in d).fusions)
unfolding fusions_rules each_fusion
fusions_named version d h =
    let k = simp broken_append at h in
    are_names fusion_in (λ fusion. fusion.name) (λ e. refl) [] (items_at (codes "fusions") d) (each_new (fusion_rules version) (fusion_new version) 0 [] (items_at (codes "fusions") d) (none_parts _ _ k).1)

monitor_new : (version i : ℕ) (earlier : List (List ℕ)) (d : Data) → first_broken (monitor_rules version i earlier d) ≡ None → IsNew earlier (text_at (codes "name") d)
unfolding monitor_rules
monitor_new version i earlier d h = let k = simp broken_append at h in new_kept _ _ _ earlier d (none_parts _ _ (none_parts _ _ (none_parts _ _ k).0).0).1

monitors_named : (version : ℕ) (d : Data) → first_broken (monitors_rules version d) ≡ None → AreNames (map (λ monitor. monitor.name) (document_in d).monitors)
unfolding monitors_rules each_monitor
monitors_named version d h =
    let k = simp broken_append at h in
    are_names monitor_in (λ monitor. monitor.name) (λ e. refl) [] (items_at (codes "monitors") d) (each_new (monitor_rules version) (monitor_new version) 0 [] (items_at (codes "monitors") d) (none_parts _ _ k).1)

-- ---- the document

-- A document that keeps the rules is well named.
pub document_named : (version : ℕ) (d : Data) → first_broken (document_rules version d) ≡ None → AreWellNamed (document_in d)
unfolding document_rules
document_named version d h =
    let before_phases = none_parts _ _ (simp broken_append at h) in
    let before_monitors = none_parts _ _ before_phases.0 in
    let before_fusions = none_parts _ _ before_monitors.0 in
    let modules = list_named version d (none_parts _ _ before_fusions.0).1 in
    record { modules = modules.modules; fusions = fusions_named version d before_fusions.1; monitors = monitors_named version d before_monitors.1; each = modules.each }

declarations_few : (d : Data) → first_broken (declarations_rules d) ≡ None → HasFewDeclarations (document_in d)
unfolding declarations_rules
declarations_few d h =
    let k = simp broken_append at h in
    subst (λ (n : ℕ). n ≤ most_declarations) (sym (length-map (items_at (codes "declarations") d) text_in))
    (leb-true _ _ (limit_kept _ _ (none_parts _ _ (none_parts _ _ k).0).1))

-- It has few declarations.
pub document_declares_few : (version : ℕ) (d : Data) → first_broken (document_rules version d) ≡ None → HasFewDeclarations (document_in d)
unfolding document_rules
document_declares_few version d h =
    let k = simp broken_append at h in
    declarations_few d (none_parts _ _ (none_parts _ _ (none_parts _ _ (none_parts _ _ (none_parts _ _ (none_parts _ _ k).0).0).0).0).0).1
