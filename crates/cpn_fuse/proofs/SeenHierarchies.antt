-- What the program reads of a hierarchy and of instances, as plain data.
use Rattle.std.proofs.Common.{◌≡◌, ℕ, ◌<◌, List, [], length, get_or, None, sym, ap, subst, ◌∙◌}
use Rattle.std.specs.Prelude.{slice_index_or}
use Rattle.std.proofs.lemmas.List.{get_or-map, length-map}
use Rattle.cpn_module.specs.Hierarchy.{PlainStructure, structure_at, substitution_at, no_structure, no_substitution}
use Rattle.cpn_module.specs.Views.{substitution_view, structure_view, fusion_set_view, hierarchy_view}
use Rattle.cpn_module.specs.declared.hierarchy.Substitution.{Substitution}
use Rattle.cpn_module.specs.declared.hierarchy.Structure.{Structure}
use Rattle.cpn_module.specs.declared.hierarchy.FusionSet.{FusionSet}
use Rattle.cpn_module.specs.declared.hierarchy.Hierarchy.{Hierarchy}
use Rattle.cpn_fuse.specs.Instances.{instance_at, no_instance}
use Rattle.cpn_fuse.specs.Unfolded.{AreInModules}
use Rattle.cpn_fuse.specs.Views.{instance_view, instances_view}
use Rattle.cpn_fuse.specs.declared.instances.Instance.{Instance}

-- what is read past the end of a list
abbrev pub no_value : Instance
no_value = record { of_module = 0; part_of = None }

-- a module
pub module_seen : (h : Hierarchy) (m : ℕ) (s : Structure) → m < length h.modules.items → s ≡ slice_index_or h.modules.items m s → structure_at (hierarchy_view h) m ≡ structure_view s
module_seen h m s lt e = get_or-map structure_view h.modules.items m s no_structure lt ∙ ap structure_view (sym e)

-- a substitution transition of it
pub substitution_seen : (h : Hierarchy) (m i : ℕ) (s : Structure) (sub : Substitution) → m < length h.modules.items → s ≡ slice_index_or h.modules.items m s → i < length s.substitutions.items → sub ≡ slice_index_or s.substitutions.items i sub → substitution_at (hierarchy_view h) m i ≡ substitution_view sub
substitution_seen h m i s sub lt e i_in is =
    ap (λ (p : PlainStructure). slice_index_or p.substitutions i no_substitution) (module_seen h m s lt e)
    ∙ get_or-map substitution_view s.substitutions.items i sub no_substitution i_in ∙ ap substitution_view (sym is)

-- as many modules
pub modules_in : (h : Hierarchy) (m : ℕ) → m < length (hierarchy_view h).modules → m < length h.modules.items
modules_in h m lt = rw (← length-map h.modules.items structure_view) lt

-- as many substitution transitions
pub seen_in : (h : Hierarchy) (m i : ℕ) (s : Structure) → m < length h.modules.items → s ≡ slice_index_or h.modules.items m s → i < length (structure_at (hierarchy_view h) m).substitutions → i < length s.substitutions.items
seen_in h m i s lt e i_in = rw (← length-map s.substitutions.items substitution_view) (subst (λ (p : PlainStructure). i < length p.substitutions) (module_seen h m s lt e) i_in)

-- a fusion set
pub set_seen : (h : Hierarchy) (i : ℕ) (set : FusionSet) → i < length h.fusions.items → set ≡ slice_index_or h.fusions.items i set → slice_index_or (hierarchy_view h).fusions i [] ≡ fusion_set_view set
set_seen h i set lt e = get_or-map fusion_set_view h.fusions.items i set [] lt ∙ ap fusion_set_view (sym e)

module _ (xs : List Instance) (i : ℕ) (d : Instance) (i_in : i < length xs) where
  -- an instance
  pub instance_seen : instance_at (instances_view xs) i ≡ instance_view (get_or xs i d)
  instance_seen = get_or-map instance_view xs i d no_instance i_in

  -- its module
  pub its_module_in : (h : Hierarchy) → AreInModules (hierarchy_view h) (instances_view xs) → (get_or xs i d).of_module < length h.modules.items
  its_module_in h all = modules_in h (get_or xs i d).of_module (rw instance_seen at (all i no_instance (rw (length-map xs instance_view) i_in)))

  -- how it is made
  pub its_structure : (h : Hierarchy) (s : Structure) → AreInModules (hierarchy_view h) (instances_view xs) → s ≡ slice_index_or h.modules.items (get_or xs i d).of_module s → structure_at (hierarchy_view h) (instance_at (instances_view xs) i).of_module ≡ structure_view s
  its_structure h s all e = rw instance_seen (module_seen h (get_or xs i d).of_module s (its_module_in h all) e)
