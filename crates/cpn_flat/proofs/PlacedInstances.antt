-- The instances of a hierarchy are placed: each that stands in another stands behind it, for a substitution transition of that
-- one's module, as an instance of its submodule; and all are of modules that there are.
use Rattle.std.proofs.Common.{◌≡◌, ℕ, suc, ◌+◌, ◌<◌, ◌≤◌, List, [], ◌∷◌, ◌++◌, length, slice_index_or, refl, sym, ap, ◌∙◌, subst, inl, inr, arith}
use Rattle.std.specs.Prelude.{Option, Some, None}
use Rattle.std.specs.List.{AllByRecursion}
use Rattle.std.proofs.lemmas.Bool.{cases_order}
use Rattle.std.proofs.lemmas.List.{append-nil, append_assoc, length-append, length_push, get_or_append_left, get_or_push, get_or_at}
use Rattle.std.proofs.lemmas.List.Elements.{All-get_or, All-push}
use Rattle.cpn_definitions.proofs.RisingLists.{each_implied, each_appended}
use Rattle.cpn_module.specs.Hierarchy.{PlainSubstitution, PlainHierarchy, no_structure, no_substitution, structure_at, substitution_at}
use Rattle.cpn_module.specs.Ranges.{IsSubstitution, IsStructure, HasItsNumbers}
use Rattle.cpn_fuse.specs.Instances.{PlainPart, PlainInstance, no_instance, instance_at, parts_from, parts_of, ComeFirst, none_yet, one_first, top_of, AreInstances}
use Rattle.cpn_fuse.specs.Unfolded.{AreInModules}
use Rattle.cpn_fuse.proofs.InstanceTrees.{instances_come}
use Rattle.cpn_flat.specs.Placed.{IsBehind, StandBehind, IsPlaced, ArePlaced}

-- instances so far
record AreSoFar (h : PlainHierarchy) (is : List PlainInstance) : Type 0 where
  in_modules : AreInModules h is
  are : ArePlaced h is

-- an instance that may come behind those so far
record MayFollow (h : PlainHierarchy) (is : List PlainInstance) (x : PlainInstance) : Type 0 where
  in_modules : x.of_module < length h.modules
  is_placed : IsPlaced h is (length is) x.of_module x.part_of

module _ (h : PlainHierarchy) where
  -- what is placed stays so where more come behind
  still_placed : (is more : List PlainInstance) (i j m : ℕ) (part : Option PlainPart) → i ≤ length is → i ≤ j → IsPlaced h is i m part → IsPlaced h (is ++ more) j m part
  still_placed is more i j m None few le placed = tt
  still_placed is more i j m (Some part) few le placed =
      let before : part.instance < i = placed.behind in
      let same : instance_at is part.instance ≡ instance_at (is ++ more) part.instance = sym (get_or_append_left is more no_instance part.instance (omega arith)) in
      record {
        behind = omega arith;
        substitution = subst (λ (y : PlainInstance). part.substitution < length (structure_at h y.of_module).substitutions) same placed.substitution;
        submodule = subst (λ (y : PlainInstance). m ≡ (substitution_at h y.of_module part.substitution).submodule) same placed.submodule;
      }

  still_follows : (is : List PlainInstance) (x y : PlainInstance) → MayFollow h is y → MayFollow h (is ++ x ∷ []) y
  still_follows is x y follows =
      let longer = length_push is x in
      record { in_modules = follows.in_modules; is_placed = still_placed is (x ∷ []) (length is) (length (is ++ x ∷ [])) y.of_module y.part_of (omega arith) (omega (arith, longer)) follows.is_placed }

  -- one more
  one_more : (is : List PlainInstance) (x : PlainInstance) → AreSoFar h is → MayFollow h is x → AreSoFar h (is ++ x ∷ [])
  one_more is x so_far follows = record {
    in_modules = All-push (λ y. y.of_module < length h.modules) is x so_far.in_modules follows.in_modules;
    are = record { placed = each };
  }
    where
      each : (i : ℕ) → i < length (is ++ x ∷ []) → IsPlaced h (is ++ x ∷ []) i (instance_at (is ++ x ∷ []) i).of_module (instance_at (is ++ x ∷ []) i).part_of
      each i lt = elim (cases_order i (length is)) [
        | inl e ↦
            subst (λ y. IsPlaced h (is ++ x ∷ []) i y.of_module y.part_of) (sym (get_or_push is x no_instance i (sym e)))
            (still_placed is (x ∷ []) (length is) i x.of_module x.part_of (omega arith) (omega (arith, e)) follows.is_placed)
        | inr apart ↦ elim apart [
          | inl before ↦
              let y : PlainInstance = instance_at is i in
              subst (λ z. IsPlaced h (is ++ x ∷ []) i z.of_module z.part_of) (sym (get_or_append_left is (x ∷ []) no_instance i before))
              (still_placed is (x ∷ []) i i y.of_module y.part_of (omega arith) (omega arith) (so_far.are.placed i before))
          | inr after ↦ let longer = length_push is x in absurd (omega (arith, longer))
        ]
      ]

  module _ (numbers : HasItsNumbers h) where
    -- the parts of the last instance may follow
    parts_follow : (is : List PlainInstance) (x : PlainInstance) (n : ℕ) (front subs : List PlainSubstitution) → length is ≡ n → x.of_module < length h.modules → (structure_at h x.of_module).substitutions ≡ front ++ subs
        → AllByRecursion (MayFollow h (is ++ x ∷ [])) (parts_from n (length front) subs)
    parts_follow is x n front [] e in_modules all = tt
    parts_follow is x n front (sub ∷ subs) e in_modules all = (first, rest (parts_follow is x n (front ++ sub ∷ []) subs e in_modules (all ∙ sym (append_assoc front (sub ∷ []) subs))))
      where
        last : x ≡ instance_at (is ++ x ∷ []) n
        last = sym (get_or_push is x no_instance n e)

        count : length (front ++ sub ∷ subs) ≡ length front + length (sub ∷ subs)
        count = length-append front (sub ∷ subs)

        many : length front < length (structure_at h x.of_module).substitutions
        many = let as_many = ap length all in omega (arith, as_many, count)

        at : substitution_at h x.of_module (length front) ≡ sub
        at = ap (λ ss. slice_index_or ss (length front) no_substitution) all ∙ get_or_at front sub subs no_substitution (length front) refl

        structure : IsStructure h (structure_at h x.of_module)
        structure = All-get_or (IsStructure h) h.modules x.of_module no_structure in_modules numbers.modules

        its : IsSubstitution h (structure_at h x.of_module) (substitution_at h x.of_module (length front))
        its = All-get_or (IsSubstitution h (structure_at h x.of_module)) (structure_at h x.of_module).substitutions (length front) no_substitution many structure.substitutions

        first : MayFollow h (is ++ x ∷ []) (record { of_module = sub.submodule; part_of = Some (record { instance = n; substitution = length front }) })
        first = record {
          in_modules = subst (λ (s : PlainSubstitution). s.submodule < length h.modules) at its.submodule;
          is_placed = record {
            behind = let longer = length_push is x in omega (arith, longer, e);
            substitution = subst (λ (y : PlainInstance). length front < length (structure_at h y.of_module).substitutions) last many;
            submodule = subst (λ (y : PlainInstance). sub.submodule ≡ (substitution_at h y.of_module (length front)).submodule) last (ap (λ (s : PlainSubstitution). s.submodule) (sym at));
          };
        }

        rest : AllByRecursion (MayFollow h (is ++ x ∷ [])) (parts_from n (length (front ++ sub ∷ [])) subs) → AllByRecursion (MayFollow h (is ++ x ∷ [])) (parts_from n (suc (length front)) subs)
        rest = subst (λ k. AllByRecursion (MayFollow h (is ++ x ∷ [])) (parts_from n k subs)) (let longer = length_push front sub in omega (arith, longer))

    -- all that come first are placed, where what waits may follow those so far
    come_placed : (n : ℕ) (waiting more later : List PlainInstance) → ComeFirst h n waiting more later → (is : List PlainInstance) → length is ≡ n → AreSoFar h is → AllByRecursion (MayFollow h is) waiting → AreSoFar h (is ++ more)
    come_placed n waiting more later (none_yet _ _) is e so_far follow = subst (AreSoFar h) (sym (append-nil is)) so_far
    come_placed n waiting more later (one_first _ x rest others _ come) is e so_far follow =
        subst (AreSoFar h) (append_assoc is (x ∷ []) others)
        (come_placed (suc n) (parts_of h n x ++ rest) others later come (is ++ x ∷ []) (let longer = length_push is x in omega (arith, longer, e)) (one_more is x so_far follow.0)
        (each_appended (MayFollow h (is ++ x ∷ [])) (parts_of h n x) rest (parts_follow is x n [] (structure_at h x.of_module).substitutions e follow.0.in_modules refl)
        (each_implied (MayFollow h is) (MayFollow h (is ++ x ∷ [])) rest (still_follows is x) follow.1)))

-- The instances of a hierarchy are placed, and of modules that there are.
pub placed : (h : PlainHierarchy) (is : List PlainInstance) → HasItsNumbers h → AreInstances h is → ArePlaced h is × AreInModules h is
placed h is numbers are = (all.are, all.in_modules)
  where
    none : AreSoFar h []
    none = record { in_modules = λ k d lt. absurd (omega (arith, lt)); are = record { placed = λ i lt. absurd (omega (arith, lt)) } }

    all : AreSoFar h is
    all = come_placed h numbers 0 (top_of h ∷ []) is [] (instances_come h is are) [] refl none (record { in_modules = numbers.top; is_placed = tt }, tt)

-- Placed instances stand behind those that they stand in.
pub placed_behind : (h : PlainHierarchy) (is : List PlainInstance) → ArePlaced h is → StandBehind is
placed_behind h is are i lt = by (instance_at is i).of_module (instance_at is i).part_of (are.placed i lt)
  where
    by : (m : ℕ) (part : Option PlainPart) → IsPlaced h is i m part → IsBehind i part
    by m None is_placed = tt
    by m (Some part) is_placed = is_placed.behind
