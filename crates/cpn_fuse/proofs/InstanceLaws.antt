-- Laws of instances: each is of a module that there is, and one that is a part stands behind the one that it is a part of, for a
-- substitution transition that its module has, and is of the submodule.
use Rattle.std.proofs.Common.{◌≡◌, ℕ, zero, suc, ◌+◌, ◌<◌, ◌≤◌, List, [], ◌∷◌, ◌++◌, length, get_or, Option, Some, None, refl, sym, ap, subst, ◌∙◌, append_assoc, arith}
use Rattle.std.specs.Prelude.{All, IfSome}
use Rattle.std.proofs.lemmas.List.{get_or_append_left, get_or_push, length_push}
use Rattle.std.proofs.lemmas.List.Elements.{All-nil, All-cons, All-head, All-tail, All-append, All-weaker, All-get_or, All-from_get_or}
use Rattle.cpn_module.specs.Hierarchy.{PlainSubstitution, PlainHierarchy, structure_at, substitution_at, no_structure, no_substitution}
use Rattle.cpn_module.specs.Ranges.{IsSubstitution, IsStructure, HasItsNumbers}
use Rattle.cpn_fuse.specs.Instances.{PlainPart, PlainInstance, instance_at, no_instance, parts_from, parts_of, ComeFirst, none_yet, one_first, top_of, AreInstances}
use Rattle.cpn_fuse.specs.Unfolded.{AreInModules}
use Rattle.cpn_fuse.proofs.InstanceTrees.{instances_come}

-- a part of an instance before the one of number i, for a substitution transition that stands for the module m
pub record IsPart (h : PlainHierarchy) (is : List PlainInstance) (i : ℕ) (m : ℕ) (part : PlainPart) : Type 0 where
  pub before : part.instance < i
  pub substitution : part.substitution < length (structure_at h (instance_at is part.instance).of_module).substitutions
  pub submodule : m ≡ (substitution_at h (instance_at is part.instance).of_module part.substitution).submodule

-- an instance, by its number
pub record IsPlaced (h : PlainHierarchy) (is : List PlainInstance) (i : ℕ) (x : PlainInstance) : Type 0 where
  pub of_module : x.of_module < length h.modules
  pub part : IfSome x.part_of (IsPart h is i x.of_module)

-- it stays so where more instances come
placed_more : (h : PlainHierarchy) (is more : List PlainInstance) (i j : ℕ) (x : PlainInstance) → i ≤ j → i ≤ length is → IsPlaced h is i x → IsPlaced h (is ++ more) j x
placed_more h is more i j x le in_is placed = record { of_module = placed.of_module; part = by x.part_of placed.part }
  where
    by : (part : Option PlainPart) → IfSome part (IsPart h is i x.of_module) → IfSome part (IsPart h (is ++ more) j x.of_module)
    by None none = tt
    by (Some part) one =
        let lt : part.instance < length is = omega (arith, one.before) in
        let same : get_or (is ++ more) part.instance no_instance ≡ get_or is part.instance no_instance = get_or_append_left is more no_instance part.instance lt in
        record {
          before = omega (arith, one.before);
          substitution = rw same one.substitution;
          submodule = rw same one.submodule;
        }

length-parts_from : (n i : ℕ) (subs : List PlainSubstitution) → length (parts_from n i subs) ≡ length subs
length-parts_from n i [] = refl
length-parts_from n i (sub ∷ subs) = ap suc (length-parts_from n (suc i) subs)

-- the part for a substitution transition
abbrev part_for : ℕ → ℕ → PlainSubstitution → PlainInstance
part_for n i sub = record { of_module = sub.submodule; part_of = Some (record { instance = n; substitution = i }) }

parts_at : (n i : ℕ) (subs : List PlainSubstitution) (j : ℕ) → j < length subs → instance_at (parts_from n i subs) j ≡ part_for n (i + j) (get_or subs j no_substitution)
parts_at n i [] j lt = absurd (omega arith)
parts_at n i (sub ∷ subs) zero lt = let same : i ≡ i + 0 = omega arith in ap (λ (k : ℕ). part_for n k sub) same
parts_at n i (sub ∷ subs) (suc j) lt =
    let less : j < length subs = omega arith in
    let same : suc i + j ≡ i + suc j = omega arith in
    parts_at n (suc i) subs j less ∙ ap (λ (k : ℕ). part_for n k (get_or subs j no_substitution)) same

module _ (h : PlainHierarchy) (numbers : HasItsNumbers h) where
  structure_in : (m : ℕ) → m < length h.modules → IsStructure h (structure_at h m)
  structure_in m lt = All-get_or (IsStructure h) h.modules m no_structure lt numbers.modules

  -- a substitution transition that there is
  pub substitution_in : (m i : ℕ) → m < length h.modules → i < length (structure_at h m).substitutions → IsSubstitution h (structure_at h m) (substitution_at h m i)
  substitution_in m i lt i_in = All-get_or (IsSubstitution h (structure_at h m)) (structure_at h m).substitutions i no_substitution i_in (structure_in m lt).substitutions

  -- the parts of an instance that has just come
  parts_placed : (is : List PlainInstance) (n : ℕ) (x : PlainInstance) → n ≡ length is → x.of_module < length h.modules → All (IsPlaced h (is ++ x ∷ []) (suc n)) (parts_of h n x)
  parts_placed is n x e x_in = All-from_get_or (IsPlaced h (is ++ x ∷ []) (suc n)) (parts_of h n x) no_instance each
    where
      each : (j : ℕ) → j < length (parts_of h n x) → IsPlaced h (is ++ x ∷ []) (suc n) (get_or (parts_of h n x) j no_instance)
      each j lt =
          let j_in : j < length (structure_at h x.of_module).substitutions = rw (← length-parts_from n 0 (structure_at h x.of_module).substitutions) lt in
          let itself : get_or (is ++ x ∷ []) n no_instance ≡ x = get_or_push is x no_instance n (sym e) in
          let zero_j : 0 + j ≡ j = omega arith in
          rw (parts_at n 0 (structure_at h x.of_module).substitutions j j_in, zero_j) (record {
            of_module = (substitution_in x.of_module j x_in j_in).submodule;
            part = record {
              before = omega arith;
              substitution = rw itself j_in;
              submodule = rw itself refl;
            };
          })

  placed_from : (n : ℕ) (waiting come later : List PlainInstance) → ComeFirst h n waiting come later → (is : List PlainInstance) → n ≡ length is → All (IsPlaced h is n) waiting → (j : ℕ) → j < length come → IsPlaced h (is ++ come) (n + j) (get_or come j no_instance)
  placed_from _ _ _ _ (none_yet n waiting) is e all j lt = absurd (omega arith)
  placed_from _ _ _ _ (one_first n x waiting come later comes) is e all zero lt =
      let same : n ≡ n + 0 = omega arith in
      placed_more h is (x ∷ come) n (n + 0) x (omega arith) (omega arith) (All-head (IsPlaced h is n) x waiting all)
  placed_from _ _ _ _ (one_first n x waiting come later comes) is e all (suc j) lt =
      let number : suc n + j ≡ n + suc j = omega arith in
      let less : j < length come = omega arith in
      let one_longer : suc n ≡ length (is ++ x ∷ []) = omega (arith, e, length_push is x) in
      let first = All-head (IsPlaced h is n) x waiting all in
      let all_more = All-append (IsPlaced h (is ++ x ∷ []) (suc n)) (parts_of h n x) waiting (parts_placed is n x e first.of_module)
      (All-weaker (IsPlaced h is n) (IsPlaced h (is ++ x ∷ []) (suc n)) (λ y placed. placed_more h is (x ∷ []) n (suc n) y (omega arith) (omega arith) placed) waiting (All-tail (IsPlaced h is n) x waiting all)) in
      let rest = placed_from (suc n) (parts_of h n x ++ waiting) come later comes (is ++ x ∷ []) one_longer all_more j less in
      subst (λ (xs : List PlainInstance). IsPlaced h xs (n + suc j) (get_or come j no_instance)) (append_assoc is (x ∷ []) come)
      (subst (λ (k : ℕ). IsPlaced h ((is ++ x ∷ []) ++ come) k (get_or come j no_instance)) number rest)

  -- each instance of a hierarchy stands where it should
  pub instance_placed : (is : List PlainInstance) → AreInstances h is → (i : ℕ) → i < length is → IsPlaced h is i (instance_at is i)
  instance_placed is come i lt =
      let top = All-cons (IsPlaced h [] 0) (top_of h) [] (record { of_module = numbers.top; part = tt }) (All-nil (IsPlaced h [] 0)) in
      let zero_i : 0 + i ≡ i = omega arith in
      rw zero_i at (placed_from 0 (top_of h ∷ []) is [] (instances_come h is come) [] refl top i lt)

  pub in_modules : (is : List PlainInstance) → AreInstances h is → AreInModules h is
  in_modules is come = All-from_get_or (λ (x : PlainInstance). x.of_module < length h.modules) is no_instance (λ i lt. (instance_placed is come i lt).of_module)
