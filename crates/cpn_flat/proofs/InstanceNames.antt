-- The names of instances: each is known once those of the instances before it are.
use Rattle.std.proofs.Common.{◌≡◌, ℕ, ◌<◌, List, length, ap, ◌∙◌, arith}
use Rattle.std.specs.Prelude.{Option, Some, None}
use Rattle.std.specs.List.{AllByRecursion}
use Rattle.std.proofs.lemmas.List.{length-map, get_or-map}
use Rattle.std.proofs.lemmas.List.Elements.{recursion_from_All, All-from_get_or}
use Rattle.cpn_document.specs.Document.{RawDocument}
use Rattle.cpn_module.specs.Hierarchy.{no_structure, structure_at}
use Rattle.cpn_module.specs.Named.{no_module, structure_in, substitution_in, hierarchy_in}
use Rattle.cpn_accepted.specs.AsWritten.{raw_module_at}
use Rattle.cpn_fuse.specs.Instances.{PlainPart, PlainInstance, no_instance, instance_at}
use Rattle.cpn_fuse.specs.Unfolded.{AreInModules}
use Rattle.cpn_flat.specs.Names.{name_at, name_where, HasItsName, IsNamedIn}
use Rattle.cpn_flat.specs.Placed.{IsPlaced, ArePlaced}

module _ (d : RawDocument) (is : List PlainInstance) where
  -- so far: each of the names is that of its instance
  abbrev pub AreNamesSoFar : List (List ℕ) → Type 0
  AreNamesSoFar names = (j : ℕ) → j < length names → name_at names j ≡ name_where d is names (instance_at is j)

-- ---- what instances are called by is there

module _ (d : RawDocument) (is : List PlainInstance) where
  -- a module of the hierarchy is one of the document, with as many substitution transitions
  in_document : (m : ℕ) → m < length (hierarchy_in d).modules → m < length d.modules
  in_document m lt = let e = length-map d.modules (structure_in d) in omega (arith, e, lt)

  as_many_subs : (m : ℕ) → m < length d.modules → length (structure_at (hierarchy_in d) m).substitutions ≡ length (raw_module_at d m).subs
  as_many_subs m lt = ap (λ s. length s.substitutions) (get_or-map (structure_in d) d.modules m no_module no_structure lt) ∙ length-map (raw_module_at d m).subs (substitution_in d (raw_module_at d m))

  -- each instance that is placed in the hierarchy of a document has its name there
  pub instances_named : ArePlaced (hierarchy_in d) is × AreInModules (hierarchy_in d) is → AllByRecursion (IsNamedIn d is) is
  instances_named placed = recursion_from_All (IsNamedIn d is) is (All-from_get_or (IsNamedIn d is) is no_instance (λ i lt. by i (instance_at is i).of_module (instance_at is i).part_of lt (in_modules i lt) (placed.0.placed i lt)))
    where
      in_modules : (j : ℕ) → j < length is → (instance_at is j).of_module < length d.modules
      in_modules j lt = in_document (instance_at is j).of_module (placed.1 j no_instance lt)

      by : (i m : ℕ) (part : Option PlainPart) → i < length is → m < length d.modules → IsPlaced (hierarchy_in d) is i m part → HasItsName d is m part
      by i m None lt there stands = there
      by i m (Some part) lt there stands =
          let outer_in : part.instance < length is = omega (arith, stands.behind, lt) in
          let outer = (instance_at is part.instance).of_module in
          let many = as_many_subs outer (in_modules part.instance outer_in) in
          let in_subs = stands.substitution in
          record { of_module = in_modules part.instance outer_in; sub = omega (arith, many, in_subs) }
