-- The names of instances are paths, and no two instances have one name.
use Rattle.std.proofs.Common.{◌≡◌, ℕ, zero, suc, ◌<◌, ◌≤◌, true, List, [], length, map, refl, sym, ap, ap₂, ◌∙◌, subst, arith}
use Rattle.std.specs.Prelude.{Option, Some, None, slice_index_or}
use Rattle.std.proofs.lemmas.List.{length-map, get_or-map}
use Rattle.std.proofs.lemmas.List.Elements.{All-from_recursion, All-get_or}
use Rattle.std.proofs.lemmas.List.Sums.{AllPass-from_list_all}
use Rattle.cpn_definitions.proofs.DistinctLists.{positions_from_distinct}
use Rattle.cpn_document.specs.Document.{RawSub, RawModule, RawDocument}
use Rattle.cpn_document.specs.Texts.{is_name}
use Rattle.cpn_document.specs.WellNamed.{AreNames, IsWellNamed, AreWellNamed}
use Rattle.cpn_module.specs.Hierarchy.{PlainHierarchy, PlainStructure, no_structure, structure_at}
use Rattle.cpn_module.specs.Named.{no_module, structure_in, substitution_in, hierarchy_in}
use Rattle.cpn_accepted.specs.AsWritten.{raw_module_at}
use Rattle.cpn_fuse.specs.Instances.{PlainPart, PlainInstance, no_instance, instance_at, AreInstances}
use Rattle.cpn_fuse.specs.Unfolded.{AreInModules}
use Rattle.cpn_flat.specs.Names.{joined_name, no_sub, sub_name_at, name_at, name_where, AreNames as AreInstanceNames}
use Rattle.cpn_flat.specs.Placed.{IsPlaced, ArePlaced}
use Rattle.cpn_flat.proofs.ApartInstances.{one_place}
use Rattle.cpn_flat.proofs.JoinedNames.{IsPlain, plain_name, joined_once, none_joined, IsPath, path_from_name, path_joined}

-- a name of a list of names
pub name_in : (names : List (List ℕ)) (k : ℕ) → AreNames names → k < length names → is_name (slice_index_or names k []) ≡ true
name_in names k are lt = All-get_or (λ n. is_name n ≡ true) names k [] lt (AllPass-from_list_all is_name names are.formed)

abbrev part_at : ℕ → ℕ → PlainPart
part_at i s = record { instance = i; substitution = s }

one_record : (a b : PlainPart) → a.instance ≡ b.instance → a.substitution ≡ b.substitution → a ≡ b
one_record a b first second = ap₂ part_at first second

-- the name of an instance of a module, by where it stands
abbrev name_by : RawDocument → List PlainInstance → List (List ℕ) → ℕ → Option PlainPart → List ℕ
name_by d is names m None = (raw_module_at d m).name
name_by d is names m (Some part) = joined_name (name_at names part.instance) (sub_name_at d (instance_at is part.instance).of_module part.substitution)

named_by : (d : RawDocument) (is : List PlainInstance) (names : List (List ℕ)) (m : ℕ) (part : Option PlainPart) → name_where d is names (record { of_module = m; part_of = part }) ≡ name_by d is names m part
named_by d is names m None = refl
named_by d is names m (Some part) = refl

module _ (d : RawDocument) (well : AreWellNamed d) where
  -- the module of a number is well named
  pub module_named : (m : ℕ) → m < length d.modules → IsWellNamed (raw_module_at d m)
  module_named m lt = All-get_or IsWellNamed d.modules m no_module lt (All-from_recursion IsWellNamed d.modules well.each)

  -- and its name is a name
  module_name : (m : ℕ) → m < length d.modules → is_name (raw_module_at d m).name ≡ true
  module_name m lt =
      let names = map (λ (of_document : RawModule). of_document.name) d.modules in
      let many = length-map d.modules (λ (of_document : RawModule). of_document.name) in
      subst (λ name. is_name name ≡ true) (get_or-map (λ (of_document : RawModule). of_document.name) d.modules m no_module [] lt) (name_in names m well.modules (omega (arith, lt, many)))

  module _ (h : PlainHierarchy) (h_is : h ≡ hierarchy_in d) (is : List PlainInstance) (within : AreInModules h is) (placed : ArePlaced h is) (names : List (List ℕ)) (are : AreInstanceNames d is names) where
    as_many_modules : length h.modules ≡ length d.modules
    as_many_modules = ap (λ (x : PlainHierarchy). length x.modules) h_is ∙ length-map d.modules (structure_in d)

    -- an instance is of a module of the document
    pub in_document : (i : ℕ) → i < length is → (instance_at is i).of_module < length d.modules
    in_document i lt = subst (λ (k : ℕ). (instance_at is i).of_module < k) as_many_modules (within i no_instance lt)

    as_many_subs : (m : ℕ) → m < length d.modules → length (structure_at h m).substitutions ≡ length (raw_module_at d m).subs
    as_many_subs m lt =
        ap (λ (x : PlainHierarchy). length (structure_at x m).substitutions) h_is
        ∙ ap (λ (s : PlainStructure). length s.substitutions) (get_or-map (structure_in d) d.modules m no_module no_structure lt)
        ∙ length-map (raw_module_at d m).subs (substitution_in d (raw_module_at d m))

    -- the names of the substitution transitions of the module of an instance
    abbrev subs_of : ℕ → List (List ℕ)
    subs_of i = map (λ (sub : RawSub). sub.name) (raw_module_at d (instance_at is i).of_module).subs

    sub_name : (i k : ℕ) → i < length is → k < length (structure_at h (instance_at is i).of_module).substitutions → sub_name_at d (instance_at is i).of_module k ≡ slice_index_or (subs_of i) k []
    sub_name i k lt in_k =
        let many = as_many_subs (instance_at is i).of_module (in_document i lt) in
        sym (get_or-map (λ (sub : RawSub). sub.name) (raw_module_at d (instance_at is i).of_module).subs k no_sub [] (omega (arith, many)))

    in_subs : (i k : ℕ) → i < length is → k < length (structure_at h (instance_at is i).of_module).substitutions → k < length (subs_of i)
    in_subs i k lt in_k =
        let many = as_many_subs (instance_at is i).of_module (in_document i lt) in
        let all = length-map (raw_module_at d (instance_at is i).of_module).subs (λ (sub : RawSub). sub.name) in
        omega (arith, many, all)

    sub_named : (i k : ℕ) → i < length is → k < length (structure_at h (instance_at is i).of_module).substitutions → is_name (sub_name_at d (instance_at is i).of_module k) ≡ true
    sub_named i k lt in_k = subst (λ name. is_name name ≡ true) (sym (sub_name i k lt in_k)) (name_in (subs_of i) k (module_named (instance_at is i).of_module (in_document i lt)).subs (in_subs i k lt in_k))

    sub_plain : (i k : ℕ) → i < length is → k < length (structure_at h (instance_at is i).of_module).substitutions → IsPlain (sub_name_at d (instance_at is i).of_module k)
    sub_plain i k lt in_k = plain_name (sub_name_at d (instance_at is i).of_module k) (sub_named i k lt in_k)

    -- the name of an instance
    name_is : (i : ℕ) → i < length is → name_at names i ≡ name_by d is names (instance_at is i).of_module (instance_at is i).part_of
    name_is i lt = are.named i lt ∙ named_by d is names (instance_at is i).of_module (instance_at is i).part_of

    module_plain : (m : ℕ) → m < length d.modules → IsPlain (raw_module_at d m).name
    module_plain m lt = plain_name (raw_module_at d m).name (module_name m lt)

    -- ---- no two have one name

    -- the names of the first n instances tell them from all others
    abbrev TellsUpTo : ℕ → Type 0
    TellsUpTo n = (i j : ℕ) → i < n → i < length is → j < length is → name_at names i ≡ name_at names j → i ≡ j

    one_part : (n i j mi mj : ℕ) (o p : Option PlainPart) → TellsUpTo n → i ≤ n → i < length is → j < length is → mi < length d.modules → mj < length d.modules → IsPlaced h is i mi o → IsPlaced h is j mj p
        → name_by d is names mi o ≡ name_by d is names mj p → o ≡ p
    one_part n i j mi mj None None tells few in_i in_j in_mi in_mj placed_i placed_j same = refl
    one_part n i j mi mj None (Some q) tells few in_i in_j in_mi in_mj placed_i placed_j same =
        absurd (none_joined (raw_module_at d mi).name (name_at names q.instance) (sub_name_at d (instance_at is q.instance).of_module q.substitution) (module_plain mi in_mi) same)
    one_part n i j mi mj (Some p) None tells few in_i in_j in_mi in_mj placed_i placed_j same =
        absurd (none_joined (raw_module_at d mj).name (name_at names p.instance) (sub_name_at d (instance_at is p.instance).of_module p.substitution) (module_plain mj in_mj) (sym same))
    one_part n i j mi mj (Some p) (Some q) tells few in_i in_j in_mi in_mj placed_i placed_j same =
        let before_i = placed_i.behind in
        let before_j = placed_j.behind in
        let in_p : p.instance < length is = omega (arith, before_i) in
        let in_q : q.instance < length is = omega (arith, before_j) in
        let parts = joined_once (name_at names p.instance) (name_at names q.instance) (sub_name_at d (instance_at is p.instance).of_module p.substitution) (sub_name_at d (instance_at is q.instance).of_module q.substitution)
        (sub_plain p.instance p.substitution in_p placed_i.substitution) (sub_plain q.instance q.substitution in_q placed_j.substitution) same in
        let instances : p.instance ≡ q.instance = tells p.instance q.instance (omega (arith, before_i)) in_p in_q parts.0 in
        let in_sub : q.substitution < length (structure_at h (instance_at is p.instance).of_module).substitutions = subst (λ (k : ℕ). q.substitution < length (structure_at h (instance_at is k).of_module).substitutions) (sym instances) placed_j.substitution in
        let names_same : sub_name_at d (instance_at is p.instance).of_module p.substitution ≡ sub_name_at d (instance_at is p.instance).of_module q.substitution
        = parts.1 ∙ ap (λ (k : ℕ). sub_name_at d (instance_at is k).of_module q.substitution) (sym instances) in
        let subs : p.substitution ≡ q.substitution = positions_from_distinct (subs_of p.instance) (module_named (instance_at is p.instance).of_module (in_document p.instance in_p)).subs.distinct p.substitution q.substitution
        (in_subs p.instance p.substitution in_p placed_i.substitution) (in_subs p.instance q.substitution in_p in_sub)
        (sym (sub_name p.instance p.substitution in_p placed_i.substitution) ∙ names_same ∙ sub_name p.instance q.substitution in_p in_sub) in
        ap Some (one_record p q instances subs)

    module _ (instances : AreInstances h is) where
      tells_up_to : (n : ℕ) → TellsUpTo n
      tells_up_to zero i j few in_i in_j same = absurd (omega arith)
      tells_up_to (suc n) i j few in_i in_j same =
          one_place h is instances i j in_i in_j
          (one_part n i j (instance_at is i).of_module (instance_at is j).of_module (instance_at is i).part_of (instance_at is j).part_of (tells_up_to n) (omega arith) in_i in_j (in_document i in_i) (in_document j in_j)
          (placed.placed i in_i) (placed.placed j in_j) (sym (name_is i in_i) ∙ same ∙ name_is j in_j))

      -- No two instances have one name.
      pub instances_told : (i j : ℕ) → i < length is → j < length is → name_at names i ≡ name_at names j → i ≡ j
      instances_told i j in_i in_j same = tells_up_to (suc i) i j (omega arith) in_i in_j same

    -- ---- they are paths

    abbrev ArePathsUpTo : ℕ → Type 0
    ArePathsUpTo n = (i : ℕ) → i < n → i < length is → IsPath (name_at names i)

    path_by : (n i m : ℕ) (part : Option PlainPart) → ArePathsUpTo n → i ≤ n → i < length is → m < length d.modules → IsPlaced h is i m part → IsPath (name_by d is names m part)
    path_by n i m None paths few in_i in_m is_placed = path_from_name (raw_module_at d m).name (module_name m in_m)
    path_by n i m (Some part) paths few in_i in_m is_placed =
        let before = is_placed.behind in
        let in_part : part.instance < length is = omega (arith, before) in
        path_joined (name_at names part.instance) (sub_name_at d (instance_at is part.instance).of_module part.substitution) (paths part.instance (omega (arith, before)) in_part)
        (sub_named part.instance part.substitution in_part is_placed.substitution)

    paths_up_to : (n : ℕ) → ArePathsUpTo n
    paths_up_to zero i few in_i = absurd (omega arith)
    paths_up_to (suc n) i few in_i =
        subst IsPath (sym (name_is i in_i)) (path_by n i (instance_at is i).of_module (instance_at is i).part_of (paths_up_to n) (omega arith) in_i (in_document i in_i) (placed.placed i in_i))

    -- The name of each instance is a path.
    pub instance_path : (i : ℕ) → i < length is → IsPath (name_at names i)
    instance_path i in_i = paths_up_to (suc i) i (omega arith) in_i
