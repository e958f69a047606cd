-- What joined places come from: each with each of some numbers, the instances of a member of a fusion set, the marked places.
use Rattle.std.proofs.Common.{◌≡◌, ℕ, zero, suc, ◌+◌, ◌<◌, Bool, true, false, cond, eqb, List, [], ◌∷◌, length, get_or, map, refl, sym, ap, subst, ◌∙◌, inl, inr, arith}
use Rattle.std.specs.Prelude.{Contains, slice_index_or}
use Rattle.std.proofs.lemmas.Bool.{cases_order, eq-eqb, eqb-true}
use Rattle.std.proofs.lemmas.List.Elements.{Contains-append_left, Contains-append_right, Contains-append_cases}
use Rattle.cpn_classes.specs.Joined.{IsJoined, paired, turned, through}
use Rattle.cpn_module.specs.Hierarchy.{PlainMember, PlainHierarchy}
use Rattle.cpn_fuse.specs.Instances.{PlainInstance, instance_at, no_instance}
use Rattle.cpn_fuse.specs.PlaceInstances.{place_number}
use Rattle.cpn_fuse.specs.Compound.{instances_of_from, instances_of, each_with_each}
use Rattle.cpn_fuse.specs.FewerPairs.{with_first, marked_pairs}
use Rattle.cpn_fuse.proofs.Members.{at_head, in_tail, in_none, head_or_tail, mapped, from_map, flat_mapped, from_flat_map}

-- ---- each with each, and the first with each

both_in : (xs : List ℕ) (p : ℕ × ℕ) (x y : ℕ) → Contains xs x → Contains xs y → (x, y) ≡ p → Contains xs p.0 × Contains xs p.1
both_in xs p x y in_x in_y e = subst (λ (q : ℕ × ℕ). Contains xs q.0 × Contains xs q.1) e (in_x, in_y)

pub each_pair : (xs : List ℕ) (x y : ℕ) → Contains xs x → Contains xs y → Contains (each_with_each xs) (x, y)
each_pair xs x y in_x in_y = flat_mapped (λ (a : ℕ). map (λ (b : ℕ). (a, b)) xs) xs x (x, y) in_x (mapped (λ (b : ℕ). (x, b)) xs y in_y)

pub from_each : (xs : List ℕ) (p : ℕ × ℕ) → Contains (each_with_each xs) p → Contains xs p.0 × Contains xs p.1
from_each xs p h =
    let first = from_flat_map (λ (a : ℕ). map (λ (b : ℕ). (a, b)) xs) xs p h in
    let second = from_map (λ (b : ℕ). (first.0, b)) xs p first.2 in
    both_in xs p first.0 second.0 first.1 second.1 second.2

pub from_first : (xs : List ℕ) (p : ℕ × ℕ) → Contains (with_first xs) p → Contains xs p.0 × Contains xs p.1
from_first [] p h = absurd (in_none p h)
from_first (x ∷ xs) p h =
    let second = from_map (λ (b : ℕ). (x, b)) (x ∷ xs) p h in
    both_in (x ∷ xs) p x second.0 (at_head x xs) second.1 second.2

-- any two of them are joined
pub two_joined : (pairs : List (ℕ × ℕ)) (xs : List ℕ) → ((p : ℕ × ℕ) → Contains (with_first xs) p → Contains pairs p) → (x y : ℕ) → Contains xs x → Contains xs y → IsJoined pairs x y
two_joined pairs [] in_pairs x y in_x in_y = absurd (in_none x in_x)
two_joined pairs (z ∷ xs) in_pairs x y in_x in_y =
    let to : (v : ℕ) → Contains (z ∷ xs) v → IsJoined pairs z v = λ v in_v. paired z v (in_pairs (z, v) (mapped (λ (b : ℕ). (z, b)) (z ∷ xs) v in_v)) in
    through x z y (turned z x (to x in_x)) (to y in_y)

-- ---- the instances of a member

module _ (h : PlainHierarchy) (is : List PlainInstance) (member : PlainMember) where
  abbrev with_test : Bool → ℕ → List ℕ → List ℕ
  with_test b n rest = cond b (n ∷ rest) rest

  later_in : (b : Bool) (n : ℕ) (rest : List ℕ) (y : ℕ) → Contains rest y → Contains (with_test b n rest) y
  later_in true n rest y h = in_tail n rest y h
  later_in false n rest y h = h

  instance_from : (i : ℕ) (xs : List PlainInstance) (j : ℕ) → j < length xs → (get_or xs j no_instance).of_module ≡ member.of_module → Contains (instances_of_from h is member i xs) (place_number h is (i + j) member.place)
  instance_from i [] j lt e = absurd (omega arith)
  instance_from i (x ∷ xs) zero lt e =
      let test : eqb x.of_module member.of_module ≡ true = eq-eqb x.of_module member.of_module e in
      let same : i ≡ i + 0 = omega arith in
      let rest = instances_of_from h is member (suc i) xs in
      subst (λ (b : Bool). Contains (with_test b (place_number h is i member.place) rest) (place_number h is (i + 0) member.place)) (sym test)
      (subst (λ (k : ℕ). Contains (place_number h is i member.place ∷ rest) (place_number h is k member.place)) same (at_head (place_number h is i member.place) rest))
  instance_from i (x ∷ xs) (suc j) lt e =
      let less : j < length xs = omega arith in
      let same : suc i + j ≡ i + suc j = omega arith in
      let rest = instances_of_from h is member (suc i) xs in
      later_in (eqb x.of_module member.of_module) (place_number h is i member.place) rest (place_number h is (i + suc j) member.place)
      (subst (λ (k : ℕ). Contains rest (place_number h is k member.place)) same (instance_from (suc i) xs j less e))

  -- an instance of a member's module has the member's place
  pub instance_in : (j : ℕ) → j < length is → (instance_at is j).of_module ≡ member.of_module → Contains (instances_of h is member) (place_number h is j member.place)
  instance_in j lt e = let same : 0 + j ≡ j = omega arith in subst (λ (k : ℕ). Contains (instances_of h is member) (place_number h is k member.place)) same (instance_from 0 is j lt e)

  -- what is told of where a number comes from
  abbrev ComesFrom : ℕ → List PlainInstance → ℕ → Type 0
  ComesFrom i xs y = (j : ℕ) × (j < length xs) × ((get_or xs j no_instance).of_module ≡ member.of_module) × (place_number h is (i + j) member.place ≡ y)

  comes_later : (i : ℕ) (x : PlainInstance) (xs : List PlainInstance) (y : ℕ) → ComesFrom (suc i) xs y → ComesFrom i (x ∷ xs) y
  comes_later i x xs y from =
      let lt = from.1 in
      let same : i + suc from.0 ≡ suc i + from.0 = omega arith in
      (suc from.0, omega arith, from.2, ap (λ (k : ℕ). place_number h is k member.place) same ∙ from.3)

  comes_from : (i : ℕ) (xs : List PlainInstance) (y : ℕ) → Contains (instances_of_from h is member i xs) y → ComesFrom i xs y
  comes_from i [] y h = absurd (in_none y h)
  comes_from i (x ∷ xs) y c = by (comes_from (suc i) xs y) (eqb x.of_module member.of_module) refl c
    where
      by : (Contains (instances_of_from h is member (suc i) xs) y → ComesFrom (suc i) xs y) → (b : Bool) → eqb x.of_module member.of_module ≡ b → Contains (with_test b (place_number h is i member.place) (instances_of_from h is member (suc i) xs)) y → ComesFrom i (x ∷ xs) y
      by rest true test c =
          elim (head_or_tail (place_number h is i member.place) (instances_of_from h is member (suc i) xs) y c) [
            | inl e ↦ let same : i + 0 ≡ i = omega arith in (0, omega arith, eqb-true x.of_module member.of_module test, ap (λ (k : ℕ). place_number h is k member.place) same ∙ e)
            | inr later ↦ comes_later i x xs y (rest later)
          ]
      by rest false test c = comes_later i x xs y (rest c)

  pub from_instance : (y : ℕ) → Contains (instances_of h is member) y → (j : ℕ) × (j < length is) × ((instance_at is j).of_module ≡ member.of_module) × (place_number h is j member.place ≡ y)
  from_instance y c =
      let from = comes_from 0 is y c in
      let same : from.0 ≡ 0 + from.0 = omega arith in
      (from.0, from.1, from.2, ap (λ (k : ℕ). place_number h is k member.place) same ∙ from.3)

-- ---- marked places

module _ (marks : List Bool) (one other : ℕ) where
  abbrev pair_if : Bool → ℕ → List (ℕ × ℕ)
  pair_if b n = cond b ((one + n, other + n) ∷ []) []

  pub marked_in : (n k : ℕ) → k < n → slice_index_or marks (one + k) false ≡ true → Contains (marked_pairs marks one other n) (one + k, other + k)
  marked_in zero k lt e = absurd (omega arith)
  marked_in (suc n) k lt e =
      elim (cases_order k n) [
        | inl same ↦
            let last = subst (λ (b : Bool). Contains (pair_if b k) (one + k, other + k)) (sym e) (at_head (one + k, other + k) []) in
            Contains-append_right (marked_pairs marks one other n) (pair_if (slice_index_or marks (one + n) false) n) (one + k, other + k)
            (subst (λ (m : ℕ). Contains (pair_if (slice_index_or marks (one + m) false) m) (one + k, other + k)) same last)
        | inr apart ↦ elim apart [
          | inl less ↦ Contains-append_left (marked_pairs marks one other n) (pair_if (slice_index_or marks (one + n) false) n) (one + k, other + k) (marked_in n k less e)
          | inr more ↦ absurd (omega arith)
        ]
      ]

  from_last : (b : Bool) (n : ℕ) (p : ℕ × ℕ) → Contains (pair_if b n) p → (b ≡ true) × ((one + n, other + n) ≡ p)
  from_last true n p h =
      elim (head_or_tail (one + n, other + n) [] p h) [
        | inl e ↦ (refl, e)
        | inr none ↦ absurd (in_none p none)
      ]
  from_last false n p h = absurd (in_none p h)

  pub from_marked : (n : ℕ) (p : ℕ × ℕ) → Contains (marked_pairs marks one other n) p → (k : ℕ) × (k < n) × (slice_index_or marks (one + k) false ≡ true) × ((one + k, other + k) ≡ p)
  from_marked zero p h = absurd (in_none p h)
  from_marked (suc n) p h =
      elim (Contains-append_cases (marked_pairs marks one other n) (pair_if (slice_index_or marks (one + n) false) n) p h) [
        | inl before ↦ let from = from_marked n p before in let lt = from.1 in (from.0, omega arith, from.2, from.3)
        | inr last ↦ let from = from_last (slice_index_or marks (one + n) false) n p last in (n, omega arith, from.0, from.1)
      ]
