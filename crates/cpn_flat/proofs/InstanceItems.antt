-- What the instance of a number has, where all instances are given.
use Rattle.std.proofs.Common.{◌≡◌, ℕ, ◌<◌, List, ◌++◌, length, get_or, map, sym, ap₂, ◌∙◌, subst, arith}
use Rattle.std.specs.Prelude.{slice_index}
use Rattle.std.specs.List.{AllByRecursion}
use Rattle.std.proofs.lemmas.List.{length-map}
use Rattle.std.proofs.lemmas.List.{get_or-map}
use Rattle.cpn_definitions.specs.Net.{PlainTransition}
use Rattle.cpn_classes.specs.Numbering.{Numbering}
use Rattle.cpn_fuse.specs.Instances.{PlainInstance, no_instance, instance_at}
use Rattle.cpn_fuse.specs.PlaceInstances.{first_place}
use Rattle.cpn_fuse.specs.Answers.{AreFirstPlaces}
use Rattle.cpn_module.specs.Hierarchy.{PlainHierarchy}
use Rattle.cpn_accepted.specs.Nets.{PlainModuleNet}
use Rattle.cpn_flat.specs.FlatNet.{module_net_among, flat_transition, transitions_at}
use Rattle.cpn_flat.specs.Names.{name_at}
use Rattle.cpn_flat.specs.Items.{HasItems, HaveItems}

module _ {V : Type 0} (view : V → PlainInstance) (vs : List V) (i : ℕ) (d : V) (lt : i < length vs) where
  -- the instance of a number
  pub seen_at : instance_at (map view vs) i ≡ view (get_or vs i d)
  seen_at = get_or-map view vs i d no_instance lt

  pub in_views : i < length (map view vs)
  in_views = let e = length-map vs view in omega (arith, lt, e)

  module _ (h : PlainHierarchy) (modules : List PlainModuleNet) (firsts : List ℕ) (are : AreFirstPlaces h (map view vs) firsts) where
    -- its transitions have items
    pub items_at : (count : ℕ) → HaveItems h modules (map view vs) count → AllByRecursion (HasItems count (slice_index firsts i)) (module_net_among modules (view (get_or vs i d)).of_module).transitions
    items_at count have =
        subst (λ first. AllByRecursion (HasItems count first) (module_net_among modules (view (get_or vs i d)).of_module).transitions) (sym (are.first i in_views))
        (subst (λ (x : PlainInstance). AllByRecursion (HasItems count (first_place h (map view vs) i)) (module_net_among modules x.of_module).transitions) seen_at (have i in_views))

    -- its transitions, given its name and the number of its first place
    pub transitions_of : (names : List (List ℕ)) (classes : Numbering) (whole : List ℕ) (now more : List PlainTransition) → whole ≡ name_at names i
        → more ≡ now ++ map (flat_transition classes whole (slice_index firsts i)) (module_net_among modules (view (get_or vs i d)).of_module).transitions
        → more ≡ now ++ transitions_at h modules (map view vs) names classes i (view (get_or vs i d))
    transitions_of names classes whole now more name h =
        h ∙ ap₂ (λ (w : List ℕ) (first : ℕ). now ++ map (flat_transition classes w first) (module_net_among modules (view (get_or vs i d)).of_module).transitions) name (are.first i in_views)
